-- How far an analysis goes.
use Rattle.std.specs.Prelude.{Bool}
use Rattle.refute_check.specs.Clauses.{Clause}
use Rattle.refute_check.specs.Machine.{Trail, is_learnt, is_empty}
use Rattle.clause_solver.specs.declared.analysis.Until.{Until}
use Rattle.clause_solver.specs.declared.analysis.Until.TheVariants.{Learnt, Empty}

abbrev pub enough_for : Until → Trail → Clause → Bool
enough_for Learnt trail = is_learnt trail
enough_for Empty trail = is_empty
