use Rattle.std.proofs.Common.{◌≡◌, ◌++◌, take}
use Rattle.std.specs.List.{flat_map}
use Rattle.bit_blast.specs.Formulas.{condition_clauses}
use Rattle.bit_blast.specs.GraphConditions.{conditions_of}
use Rattle.bit_blast.specs.code.Tasks.{known_of}
use Rattle.bit_blast.proofs.formulas.say_all.Given as goal

abbrev pub invariant-loop-cond : goal.invariant-loop-cond
invariant-loop-cond l = l.clauses ≡ l.initial.clauses ++ flat_map (condition_clauses (known_of l.g l.order l.wires)) (conditions_of l.g (take l.cond-index l.conds))
