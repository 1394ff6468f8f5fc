use Rattle.std.proofs.Common.{List, length, map, ap, arith}
use Rattle.std.specs.Arc.{arc_value}
use Rattle.bv_terms.specs.declared.words.Form.{Form}
use Rattle.bv_terms.proofs.IndexLemmas.{length-all}
use Rattle.bv_terms.proofs.forms.Forms.len.Goals as goal

pub overflow_add-result : goal.overflow_add-result
overflow_add-result c =
    let segments : List (List Form) = map (λ s. arc_value s) c.self.inside.full.items in
    record { fits = omega (arith, c.self.invariant.0, c.self.invariant.1, length-all segments c.self.inside.own, c.len.ensures) }

pub returns : goal.returns
returns c =
    let segments : List (List Form) = map (λ s. arc_value s) c.self.inside.full.items in
    omega (arith, c.self.invariant.0, length-all segments c.self.inside.own, c.len.ensures, ap length c.self.view_is)
