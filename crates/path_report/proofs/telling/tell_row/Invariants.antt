use Rattle.std.proofs.Common.{List, map}
use Rattle.path_report.specs.Listeners.{Heard}
use Rattle.path_report.proofs.ToldLemmas.{Telling}
use Rattle.path_report.proofs.telling.tell_row.Given as goal

abbrev pub invariant-loop-turn : goal.invariant-loop-turn
invariant-loop-turn g l =
    Telling l.row (map (λ b. record { counts = (goal.Listener-dyn g (b.vtable, b.value)).counts b.value; enough = (goal.Listener-dyn g (b.vtable, b.value)).enough b.value; ending = (goal.Listener-dyn g (b.vtable, b.value)).ending b.value }) l.initial.listeners.items)
    (map (λ b. record { counts = (goal.Listener-dyn g (b.vtable, b.value)).counts b.value; enough = (goal.Listener-dyn g (b.vtable, b.value)).enough b.value; ending = (goal.Listener-dyn g (b.vtable, b.value)).ending b.value }) l.listeners.items) l._turn l.i
