use Rattle.std.proofs.Common.{◌≡◌, [], All, drop}
use Rattle.bv_terms.specs.declared.words.Word.TheVariants.{Term as Numbered}
use Rattle.bv_terms.specs.Graphs.{Holds}
use Rattle.bit_blast.specs.Formulas.{with_conditions}
use Rattle.bit_blast.specs.GraphConditions.{terms_at, conditions_of}
use Rattle.bit_blast.proofs.order.terms_in_order.Given as goal

abbrev pub invariant-loop-cond : goal.invariant-loop-cond
invariant-loop-cond l = record {
  same : with_conditions (conditions_of l.g (drop l.cond-index l.conds)) (terms_at l.g l.order) ≡ with_conditions (conditions_of l.g l.conds) [];
  held : All (λ t. Holds l.g (Numbered t)) l.order;
}
