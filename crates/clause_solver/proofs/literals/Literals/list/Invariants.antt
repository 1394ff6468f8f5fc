use Rattle.std.proofs.Common.{◌≡◌, take}
use Rattle.clause_solver.specs.code.Literals.{present}
use Rattle.clause_solver.proofs.literals.Literals.list.Given as goal

abbrev pub invariant-loop-slot : goal.invariant-loop-slot
invariant-loop-slot l = l.clause ≡ present (take l.slot-index l.slot-items)
