use Rattle.std.proofs.Common.{◌≡◌, List, length, map, ap, arith}
use Rattle.std.specs.Arc.{arc_value}
use Rattle.bv_terms.specs.declared.words.Form.{Form}
use Rattle.bv_terms.specs.code.Index.{all_forms}
use Rattle.bv_terms.proofs.IndexLemmas.{length-all}
use Rattle.bv_terms.proofs.forms.Forms.merged.Goals as goal

pub overflow_add-count : goal.overflow_add-count
overflow_add-count c =
    let segments : List (List Form) = map (λ s. arc_value s) c.self.inside.full.items in
    record { fits = omega (arith, c.self.invariant.0, c.self.invariant.1, length-all segments c.self.inside.own, c.len.ensures) }

pub overflow_sub-before : goal.overflow_sub-before
overflow_sub-before c =
    let segments : List (List Form) = map (λ s. arc_value s) c.self.inside.full.items in
    let fewer : List (List Form) = map (λ s. arc_value s) c.absorbed-last.new.full.items in
    let same : length (all_forms fewer c.absorbed-last.result) ≡ length (all_forms segments c.self.inside.own) = ap length c.absorbed-last.ensures in
    omega (arith, c.self.invariant.0, length-all segments c.self.inside.own, length-all fewer c.absorbed-last.result, same, c.len.ensures, c.len-2.ensures)

pub invariant_of-result : goal.invariant_of-result
invariant_of-result c =
    let segments : List (List Form) = map (λ s. arc_value s) c.self.inside.full.items in
    let fewer : List (List Form) = map (λ s. arc_value s) c.absorbed-last.new.full.items in
    let same : length (all_forms fewer c.absorbed-last.result) ≡ length (all_forms segments c.self.inside.own) = ap length c.absorbed-last.ensures in (
      omega (arith, c.self.invariant.0, length-all segments c.self.inside.own, length-all fewer c.absorbed-last.result, same, c.len.ensures, c.len-2.ensures),
      omega (arith, c.self.invariant.1, same),
    )
