use Rattle.std.proofs.Common.{◌≡◌, All}
use Rattle.bv_terms.specs.declared.words.Word.TheVariants.{Term as Numbered}
use Rattle.bv_terms.specs.Graphs.{Holds}
use Rattle.bit_blast.specs.Formulas.{with_terms}
use Rattle.bit_blast.specs.GraphConditions.{term_at, terms_at}
use Rattle.bit_blast.specs.code.Tasks.{after_tasks, HoldsTask, work_in}
use Rattle.bit_blast.proofs.order.put_term.Given as goal

abbrev pub invariant-loop-task : goal.invariant-loop-task
invariant-loop-task l = record {
  same : after_tasks l.g l.tasks (terms_at l.g l.order) ≡ with_terms (term_at l.g l.t) (terms_at l.g l.fn.order);
  tasks_held : All (HoldsTask l.g) l.tasks;
  order_held : All (λ t. Holds l.g (Numbered t)) l.order;
}

abbrev pub decreases-loop-task : goal.decreases-loop-task
decreases-loop-task l = work_in l.g l.tasks
