use Rattle.std.proofs.Common.{◌≡◌, List, [], length, map, ap, ◌∙◌, arith}
use Rattle.std.specs.Arc.{arc_value}
use Rattle.bv_terms.specs.declared.words.Form.{Form}
use Rattle.bv_terms.specs.code.Index.{all_forms}
use Rattle.bv_terms.proofs.IndexLemmas.{all-closed, length-all, same-segments}
use Rattle.bv_terms.proofs.forms.Forms.share.Goals as goal

pub overflow_add-count : goal.overflow_add-count
overflow_add-count c =
    let segments : List (List Form) = map (λ s. arc_value s) c.self.inside.full.items in
    record { fits = omega (arith, c.self.invariant.0, c.self.invariant.1, length-all segments c.self.inside.own, c.len.ensures) }

pub closed-requires-clause-count : goal.closed-requires-clause-count
closed-requires-clause-count c =
    let segments : List (List Form) = map (λ s. arc_value s) c.self.inside.full.items in
    let all : all_forms (map (λ s. arc_value s) c.close.new.full.items) [] ≡ all_forms segments c.self.inside.own =
    ap (λ (ss : List (List Form)). all_forms ss []) c.in-Ok.ensures.ok ∙ all-closed segments c.self.inside.own in
    omega (arith, c.self.invariant.0, length-all segments c.self.inside.own, c.len.ensures, ap length all)

pub closed-requires-clause-most : goal.closed-requires-clause-most
closed-requires-clause-most c =
    let segments : List (List Form) = map (λ s. arc_value s) c.self.inside.full.items in
    omega (arith, c.self.invariant.0, c.self.invariant.1, length-all segments c.self.inside.own, c.len.ensures)

pub closed-requires-in-Ok-clone-clause-count : goal.closed-requires-in-Ok-clone-clause-count
closed-requires-in-Ok-clone-clause-count c =
    let segments : List (List Form) = map (λ s. arc_value s) c.self.inside.full.items in
    let all : all_forms (map (λ s. arc_value s) c.in-Ok-clone.others.items) [] ≡ all_forms segments c.self.inside.own =
    ap (λ (ss : List (List Form)). all_forms ss []) (same-segments (λ s. arc_value s) c.close.new.full.items c.in-Ok-clone.others.items c.in-Ok-clone.ensures.cases.0 ∙ c.in-Ok.ensures.ok)
    ∙ all-closed segments c.self.inside.own in
    omega (arith, c.self.invariant.0, length-all segments c.self.inside.own, c.len.ensures, ap length all)

pub closed-requires-in-Ok-clone-clause-most : goal.closed-requires-in-Ok-clone-clause-most
closed-requires-in-Ok-clone-clause-most c =
    let segments : List (List Form) = map (λ s. arc_value s) c.self.inside.full.items in
    omega (arith, c.self.invariant.0, c.self.invariant.1, length-all segments c.self.inside.own, c.len.ensures)

pub closed-requires-in-Err-clone-clause-count : goal.closed-requires-in-Err-clone-clause-count
closed-requires-in-Err-clone-clause-count c =
    let segments : List (List Form) = map (λ s. arc_value s) c.self.inside.full.items in
    let all : all_forms (map (λ s. arc_value s) c.close.new.full.items) [] ≡ all_forms segments c.self.inside.own =
    ap (λ (ss : List (List Form)). all_forms ss []) c.in-Ok.ensures.ok ∙ all-closed segments c.self.inside.own in
    omega (arith, c.self.invariant.0, length-all segments c.self.inside.own, c.len.ensures, ap length all)

pub closed-requires-in-Err-clone-clause-most : goal.closed-requires-in-Err-clone-clause-most
closed-requires-in-Err-clone-clause-most c =
    let segments : List (List Form) = map (λ s. arc_value s) c.self.inside.full.items in
    omega (arith, c.self.invariant.0, c.self.invariant.1, length-all segments c.self.inside.own, c.len.ensures)

pub returns-in-Ok-clone-clause-first : goal.returns-in-Ok-clone-clause-first
returns-in-Ok-clone-clause-first c =
    let segments : List (List Form) = map (λ s. arc_value s) c.self.inside.full.items in
    c.closed.ensures ∙ ap (λ (ss : List (List Form)). all_forms ss []) c.in-Ok.ensures.ok ∙ all-closed segments c.self.inside.own ∙ c.self.view_is

pub returns-in-Ok-clone-clause-second : goal.returns-in-Ok-clone-clause-second
returns-in-Ok-clone-clause-second c =
    let segments : List (List Form) = map (λ s. arc_value s) c.self.inside.full.items in
    c.closed-in-Ok-clone.ensures
    ∙ ap (λ (ss : List (List Form)). all_forms ss []) (same-segments (λ s. arc_value s) c.close.new.full.items c.in-Ok-clone.others.items c.in-Ok-clone.ensures.cases.0 ∙ c.in-Ok.ensures.ok)
    ∙ all-closed segments c.self.inside.own ∙ c.self.view_is

pub returns-in-Err-clone-clause-back : goal.returns-in-Err-clone-clause-back
returns-in-Err-clone-clause-back c =
    let segments : List (List Form) = map (λ s. arc_value s) c.self.inside.full.items in
    c.closed-in-Err-clone.ensures ∙ ap (λ (ss : List (List Form)). all_forms ss []) c.in-Ok.ensures.ok ∙ all-closed segments c.self.inside.own ∙ c.self.view_is
