use Rattle.std.proofs.Common.{◌++◌, ◌∷◌, [], None, sym, ap, ◌∙◌}
use Rattle.clause_solver.proofs.Storing.{present_there, present_hole}
use Rattle.clause_solver.proofs.literals.Literals.list.Goals as goal
use Rattle.clause_solver.proofs.literals.Literals.list.Goals.{in-Some+in_ok-push, in_default}

pub loop-slot-preserved : goal.loop-slot-preserved
loop-slot-preserved c = elim c.match-slot.branch [
  | in-Some+in_ok-push w ↦ rw (w.clause-is, w.in_ok-push.ensures.ok) (ap (λ xs. xs ++ w.in-Some.literal ∷ []) c.loop-slot.invariant ∙ sym (present_there c.as_slice-slot-items.result.now c.loop-slot.slot-index None w.in-Some.literal c.loop-slot-test.true w.in-Some.is))
  | in_default w ↦ rw w.clause-is (c.loop-slot.invariant ∙ sym (present_hole c.as_slice-slot-items.result.now c.loop-slot.slot-index None c.loop-slot-test.true w.in_default.is))
]
