use Rattle.std.proofs.Common.{◌≡◌, ℕ, ◌+◌, ◌++◌, List, Some, length, map, drop, ap, sym, ◌∙◌, subst, arith}
use Rattle.std.specs.Prelude.{slice_get}
use Rattle.std.specs.Arc.{arc_value}
use Rattle.bv_terms.specs.declared.words.Form.{Form}
use Rattle.bv_terms.specs.code.Index.{all_forms, form_of}
use Rattle.bv_terms.proofs.ListLemmas.{get-read}
use Rattle.bv_terms.proofs.IndexLemmas.{Sought, sought-all, sought-next, sought-found, sought-none, next-segment, no-segment, within, fits-next}
use Rattle.bv_terms.proofs.forms.Forms.find.Goals as goal

pub loop-k-init : goal.loop-k-init
loop-k-init c = sought-all (all_forms (map (λ s. arc_value s) c.self.inside.full.items) c.self.inside.own) (form_of c.args.key.now.0)

pub overflow_add-result : goal.overflow_add-result
overflow_add-result c =
    let all : List Form = all_forms (map (λ s. arc_value s) c.self.inside.full.items) c.self.inside.own in
    let rest : List Form = all_forms (map (λ s. arc_value s) (drop c.loop-k.k c.self.inside.full.items)) c.self.inside.own in
    let more : List Form = all_forms (map (λ s. arc_value s) (drop (c.loop-k.k + 1) c.self.inside.full.items)) c.self.inside.own in
    let this : List Form = arc_value c.index-segment.result.now in
    let at = get-read c.self.inside.full.items c.loop-k.k c.index-segment.result.now (omega (arith, c.loop-k-test.true, c.len-k-end.ensures)) c.index-segment.ensures in
    let is : rest ≡ this ++ more = next-segment (λ s. arc_value s) c.self.inside.full.items c.self.inside.own c.loop-k.k c.index-segment.result.now at in
    let there : slice_get this c.in-Some.i ≡ Some (form_of c.args.key.now.0) = ap (λ (fs : List Form). slice_get fs c.in-Some.i) (sym c.deref.ensures) ∙ c.in-Some.ensures.found in
    let found : slice_get all (c.loop-k.start + c.in-Some.i) ≡ Some (form_of c.args.key.now.0) = sought-found all rest this more c.loop-k.start c.in-Some.i (form_of c.args.key.now.0) c.loop-k.invariant is there in
    record { fits = within all (c.loop-k.start + c.in-Some.i) (form_of c.args.key.now.0) c.self.invariant.1 found }

pub returns-in-Some-clause-found : goal.returns-in-Some-clause-found
returns-in-Some-clause-found c =
    let all : List Form = all_forms (map (λ s. arc_value s) c.self.inside.full.items) c.self.inside.own in
    let rest : List Form = all_forms (map (λ s. arc_value s) (drop c.loop-k.k c.self.inside.full.items)) c.self.inside.own in
    let more : List Form = all_forms (map (λ s. arc_value s) (drop (c.loop-k.k + 1) c.self.inside.full.items)) c.self.inside.own in
    let this : List Form = arc_value c.index-segment.result.now in
    let at = get-read c.self.inside.full.items c.loop-k.k c.index-segment.result.now (omega (arith, c.loop-k-test.true, c.len-k-end.ensures)) c.index-segment.ensures in
    let is : rest ≡ this ++ more = next-segment (λ s. arc_value s) c.self.inside.full.items c.self.inside.own c.loop-k.k c.index-segment.result.now at in
    let there : slice_get this c.in-Some.i ≡ Some (form_of c.args.key.now.0) = ap (λ (fs : List Form). slice_get fs c.in-Some.i) (sym c.deref.ensures) ∙ c.in-Some.ensures.found in
    let found : slice_get all (c.loop-k.start + c.in-Some.i) ≡ Some (form_of c.args.key.now.0) = sought-found all rest this more c.loop-k.start c.in-Some.i (form_of c.args.key.now.0) c.loop-k.invariant is there in
    ap (λ (fs : List Form). slice_get fs (c.loop-k.start + c.in-Some.i)) (sym c.self.view_is) ∙ found

pub overflow_add-start : goal.overflow_add-start
overflow_add-start c =
    let all : List Form = all_forms (map (λ s. arc_value s) c.self.inside.full.items) c.self.inside.own in
    let rest : List Form = all_forms (map (λ s. arc_value s) (drop c.loop-k.k c.self.inside.full.items)) c.self.inside.own in
    let more : List Form = all_forms (map (λ s. arc_value s) (drop (c.loop-k.k + 1) c.self.inside.full.items)) c.self.inside.own in
    let this : List Form = arc_value c.index-segment.result.now in
    let at = get-read c.self.inside.full.items c.loop-k.k c.index-segment.result.now (omega (arith, c.loop-k-test.true, c.len-k-end.ensures)) c.index-segment.ensures in
    let is : rest ≡ this ++ more = next-segment (λ s. arc_value s) c.self.inside.full.items c.self.inside.own c.loop-k.k c.index-segment.result.now at in
    let count : c.len.result ≡ length this = c.len.ensures ∙ ap length c.deref-in-loop-k.ensures in
    record { fits = omega (arith, fits-next all rest this more c.loop-k.start (form_of c.args.key.now.0) c.loop-k.invariant is, c.self.invariant.1, count) }

pub loop-k-preserved : goal.loop-k-preserved
loop-k-preserved c =
    let all : List Form = all_forms (map (λ s. arc_value s) c.self.inside.full.items) c.self.inside.own in
    let rest : List Form = all_forms (map (λ s. arc_value s) (drop c.loop-k.k c.self.inside.full.items)) c.self.inside.own in
    let more : List Form = all_forms (map (λ s. arc_value s) (drop (c.loop-k.k + 1) c.self.inside.full.items)) c.self.inside.own in
    let this : List Form = arc_value c.index-segment.result.now in
    let at = get-read c.self.inside.full.items c.loop-k.k c.index-segment.result.now (omega (arith, c.loop-k-test.true, c.len-k-end.ensures)) c.index-segment.ensures in
    let is : rest ≡ this ++ more = next-segment (λ s. arc_value s) c.self.inside.full.items c.self.inside.own c.loop-k.k c.index-segment.result.now at in
    let count : c.len.result ≡ length this = c.len.ensures ∙ ap length c.deref-in-loop-k.ensures in
    subst (λ (n : ℕ). Sought all more (c.loop-k.start + n) (form_of c.args.key.now.0)) (sym count)
    (sought-next all rest this more c.loop-k.start (form_of c.args.key.now.0) c.loop-k.invariant is
    (subst (λ (fs : List Form). (i : ℕ) → slice_get fs i ≡ Some (form_of c.args.key.now.0) → ⊥) c.deref.ensures c.in_default.ensures.absent))

pub overflow_add-result-in-Some-find : goal.overflow_add-result-in-Some-find
overflow_add-result-in-Some-find c =
    let all : List Form = all_forms (map (λ s. arc_value s) c.self.inside.full.items) c.self.inside.own in
    let rest : List Form = all_forms (map (λ s. arc_value s) (drop c.loop-k.k c.self.inside.full.items)) c.self.inside.own in
    let last : rest ≡ c.self.inside.own = no-segment (λ s. arc_value s) c.self.inside.full.items c.self.inside.own c.loop-k.k (omega (arith, c.loop-k-test.false, c.len-k-end.ensures)) in
    let found : slice_get all (c.loop-k.start + c.in-Some-find.i) ≡ Some (form_of c.args.key.now.0) =
    c.loop-k.invariant.forward c.in-Some-find.i ∙ ap (λ (fs : List Form). slice_get fs c.in-Some-find.i) last ∙ c.in-Some-find.ensures.found in
    record { fits = within all (c.loop-k.start + c.in-Some-find.i) (form_of c.args.key.now.0) c.self.invariant.1 found }

pub returns-in-Some-find-clause-found : goal.returns-in-Some-find-clause-found
returns-in-Some-find-clause-found c =
    let all : List Form = all_forms (map (λ s. arc_value s) c.self.inside.full.items) c.self.inside.own in
    let rest : List Form = all_forms (map (λ s. arc_value s) (drop c.loop-k.k c.self.inside.full.items)) c.self.inside.own in
    let last : rest ≡ c.self.inside.own = no-segment (λ s. arc_value s) c.self.inside.full.items c.self.inside.own c.loop-k.k (omega (arith, c.loop-k-test.false, c.len-k-end.ensures)) in
    let found : slice_get all (c.loop-k.start + c.in-Some-find.i) ≡ Some (form_of c.args.key.now.0) =
    c.loop-k.invariant.forward c.in-Some-find.i ∙ ap (λ (fs : List Form). slice_get fs c.in-Some-find.i) last ∙ c.in-Some-find.ensures.found in
    ap (λ (fs : List Form). slice_get fs (c.loop-k.start + c.in-Some-find.i)) (sym c.self.view_is) ∙ found

pub returns-in-None-clause-absent : goal.returns-in-None-clause-absent
returns-in-None-clause-absent c = λ i there.
    let all : List Form = all_forms (map (λ s. arc_value s) c.self.inside.full.items) c.self.inside.own in
    let rest : List Form = all_forms (map (λ s. arc_value s) (drop c.loop-k.k c.self.inside.full.items)) c.self.inside.own in
    let last : rest ≡ c.self.inside.own = no-segment (λ s. arc_value s) c.self.inside.full.items c.self.inside.own c.loop-k.k (omega (arith, c.loop-k-test.false, c.len-k-end.ensures)) in
    sought-none all rest c.loop-k.start (form_of c.args.key.now.0) c.loop-k.invariant
    (subst (λ (fs : List Form). (j : ℕ) → slice_get fs j ≡ Some (form_of c.args.key.now.0) → ⊥) (sym last) c.in-None.ensures.absent)
    i (ap (λ (fs : List Form). slice_get fs i) c.self.view_is ∙ there)
