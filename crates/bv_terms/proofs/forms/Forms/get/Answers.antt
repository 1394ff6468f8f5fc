use Rattle.std.proofs.Common.{◌≡◌, ℕ, ◌+◌, ◌-◌, ◌<◌, ◌≤◌, List, [], length, map, drop, refl, ap, sym, ◌∙◌, arith}
use Rattle.std.specs.Prelude.{slice_get}
use Rattle.std.specs.Arc.{arc_value}
use Rattle.bv_terms.specs.declared.words.Form.{Form}
use Rattle.bv_terms.specs.code.Index.{all_forms}
use Rattle.bv_terms.proofs.ListLemmas.{get-read}
use Rattle.bv_terms.proofs.IndexLemmas.{all-apart, length-all, get-past, get-before, next-segment, no-segment, not_there}
use Rattle.bv_terms.proofs.forms.Forms.get.Goals as goal

pub get-requires : goal.get-requires
get-requires c =
    let segments : List (List Form) = map (λ s. arc_value s) c.self.inside.full.items in
    omega (arith, c.requires, ap length c.self.view_is, length-all segments c.self.inside.own, c.self.invariant.0, c.if-i-self.true)

pub returns-then-i-self : goal.returns-then-i-self
returns-then-i-self c =
    let segments : List (List Form) = map (λ s. arc_value s) c.self.inside.full.items in
    let past : length (all_forms segments []) ≤ c.args.i = omega (arith, c.self.invariant.0, c.if-i-self.true) in
    ap (λ (fs : List Form). slice_get fs c.args.i) (sym c.self.view_is) ∙ ap (λ (fs : List Form). slice_get fs c.args.i) (all-apart segments c.self.inside.own)
    ∙ get-past (all_forms segments []) c.self.inside.own c.args.i past ∙ ap (λ (n : ℕ). slice_get c.self.inside.own (c.args.i - n)) (sym c.self.invariant.0) ∙ c.get.ensures

pub loop-k-init : goal.loop-k-init
loop-k-init c = refl

pub returns-then-rest-count : goal.returns-then-rest-count
returns-then-rest-count c =
    let segments : List (List Form) = map (λ s. arc_value s) c.self.inside.full.items in
    let this : List Form = arc_value c.index-segment.result.now in
    let more : List Form = all_forms (map (λ s. arc_value s) (drop (c.loop-k.k + 1) c.self.inside.full.items)) [] in
    let before : c.args.i < length (all_forms segments []) = omega (arith, c.self.invariant.0, c.if-i-self.false) in
    let at = get-read c.self.inside.full.items c.loop-k.k c.index-segment.result.now (omega (arith, c.loop-k-test.true, c.len-k-end.ensures)) c.index-segment.ensures in
    let long : c.loop-k.rest < length this = omega (arith, c.if-rest-count.true, c.len-count.ensures, ap length c.deref.ensures) in
    ap (λ (fs : List Form). slice_get fs c.args.i) (sym c.self.view_is) ∙ ap (λ (fs : List Form). slice_get fs c.args.i) (all-apart segments c.self.inside.own)
    ∙ get-before (all_forms segments []) c.self.inside.own c.args.i before ∙ sym c.loop-k.invariant
    ∙ ap (λ (fs : List Form). slice_get fs c.loop-k.rest) (next-segment (λ s. arc_value s) c.self.inside.full.items [] c.loop-k.k c.index-segment.result.now at)
    ∙ get-before this more c.loop-k.rest long ∙ ap (λ (fs : List Form). slice_get fs c.loop-k.rest) (sym c.deref-then-rest-count.ensures) ∙ c.get-then-rest-count.ensures

pub loop-k-preserved : goal.loop-k-preserved
loop-k-preserved c =
    let this : List Form = arc_value c.index-segment.result.now in
    let more : List Form = all_forms (map (λ s. arc_value s) (drop (c.loop-k.k + 1) c.self.inside.full.items)) [] in
    let at = get-read c.self.inside.full.items c.loop-k.k c.index-segment.result.now (omega (arith, c.loop-k-test.true, c.len-k-end.ensures)) c.index-segment.ensures in
    let count : c.len-count.result ≡ length this = c.len-count.ensures ∙ ap length c.deref.ensures in
    let past : length this ≤ c.loop-k.rest = omega (arith, c.if-rest-count.false, count) in
    ap (λ (n : ℕ). slice_get more (c.loop-k.rest - n)) count ∙ sym (get-past this more c.loop-k.rest past)
    ∙ ap (λ (fs : List Form). slice_get fs c.loop-k.rest) (sym (next-segment (λ s. arc_value s) c.self.inside.full.items [] c.loop-k.k c.index-segment.result.now at)) ∙ c.loop-k.invariant

pub unreachable-requires : goal.unreachable-requires
unreachable-requires c =
    let segments : List (List Form) = map (λ s. arc_value s) c.self.inside.full.items in
    not_there (all_forms segments []) c.args.i (omega (arith, c.self.invariant.0, c.if-i-self.false))
    (sym c.loop-k.invariant ∙ ap (λ (fs : List Form). slice_get fs c.loop-k.rest) (no-segment (λ s. arc_value s) c.self.inside.full.items [] c.loop-k.k (omega (arith, c.loop-k-test.false, c.len-k-end.ensures))))
