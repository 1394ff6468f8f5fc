use Rattle.std.proofs.Common.{◌≡◌, take}
use Rattle.std.specs.Prelude.{reverse}
use Rattle.refute_check.specs.Machine.{has_decision}
use Rattle.clause_solver.proofs.trail.Trail.has_decision.Given as goal

abbrev pub invariant-loop-entry : goal.invariant-loop-entry
invariant-loop-entry l = l.decided ≡ has_decision (reverse (take l.entry-index l.entry-items))
