use Rattle.std.proofs.Common.{map, drop}
use Rattle.std.specs.Arc.{arc_value}
use Rattle.bv_terms.specs.code.Index.{all_forms, form_of}
use Rattle.bv_terms.proofs.IndexLemmas.{Sought}
use Rattle.bv_terms.proofs.forms.Forms.find.Given as goal

abbrev pub invariant-loop-k : goal.invariant-loop-k
invariant-loop-k l =
    Sought (all_forms (map (λ s. arc_value s) l.self-inside.full.items) l.self-inside.own) (all_forms (map (λ s. arc_value s) (drop l.k l.self-inside.full.items)) l.self-inside.own) l.start (form_of l.key.0)
