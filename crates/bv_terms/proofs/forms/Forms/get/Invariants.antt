use Rattle.std.proofs.Common.{◌≡◌, [], map, drop}
use Rattle.std.specs.Prelude.{slice_get}
use Rattle.std.specs.Arc.{arc_value}
use Rattle.bv_terms.specs.code.Index.{all_forms}
use Rattle.bv_terms.proofs.forms.Forms.get.Given as goal

abbrev pub invariant-loop-k : goal.invariant-loop-k
invariant-loop-k l =
    slice_get (all_forms (map (λ s. arc_value s) (drop l.k l.self-inside.full.items)) []) l.rest ≡ slice_get (all_forms (map (λ s. arc_value s) l.self-inside.full.items) []) l.i
