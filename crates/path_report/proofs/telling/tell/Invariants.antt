use Rattle.std.proofs.Common.{List, map}
use Rattle.path_report.specs.Listeners.{Heard}
use Rattle.path_report.proofs.ToldLemmas.{ToldSoFar}
use Rattle.path_report.proofs.telling.tell.Given as goal

abbrev pub invariant-loop-row : goal.invariant-loop-row
invariant-loop-row g l =
    ToldSoFar l.rows (map (λ b. record { counts = (goal.Listener-dyn g (b.vtable, b.value)).counts b.value; enough = (goal.Listener-dyn g (b.vtable, b.value)).enough b.value; ending = (goal.Listener-dyn g (b.vtable, b.value)).ending b.value }) l.initial.listeners.items)
    (map (λ b. record { counts = (goal.Listener-dyn g (b.vtable, b.value)).counts b.value; enough = (goal.Listener-dyn g (b.vtable, b.value)).enough b.value; ending = (goal.Listener-dyn g (b.vtable, b.value)).ending b.value }) l.listeners.items) l.row-index
