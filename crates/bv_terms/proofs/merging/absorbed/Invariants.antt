use Rattle.std.proofs.Common.{◌≡◌, map}
use Rattle.std.specs.Arc.{arc_value}
use Rattle.bv_terms.specs.code.Index.{all_forms}
use Rattle.bv_terms.proofs.merging.absorbed.Given as goal

abbrev pub invariant-loop-turn : goal.invariant-loop-turn
invariant-loop-turn l = all_forms (map (λ s. arc_value s) l.full.items) l.last ≡ all_forms (map (λ s. arc_value s) l.fn.full.items) l.fn.own
