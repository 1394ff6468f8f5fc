use Rattle.std.proofs.Common.{◌≡◌, ℕ, ◌+◌, ◌++◌, List, [], ◌∷◌, length, map, ap, sym, ◌∙◌, arith}
use Rattle.std.specs.Prelude.{slice_get}
use Rattle.std.specs.Arc.{arc_value}
use Rattle.bv_terms.specs.declared.words.Form.{Form}
use Rattle.bv_terms.specs.code.Index.{all_forms}
use Rattle.bv_terms.proofs.IndexLemmas.{all-apart, all-push, length-all, behind, on_ok, length-after}
use Rattle.bv_terms.proofs.forms.Forms.push.Goals as goal

pub push-requires-clause-absent : goal.push-requires-clause-absent
push-requires-clause-absent c = λ i there.
    let segments : List (List Form) = map (λ s. arc_value s) c.self.inside.full.items in
    let place : ℕ = length (all_forms segments []) + i in
    c.requires.absent place
    (ap (λ (fs : List Form). slice_get fs place) (sym c.self.view_is) ∙ ap (λ (fs : List Form). slice_get fs place) (all-apart segments c.self.inside.own)
    ∙ behind (all_forms segments []) c.self.inside.own i ∙ there)

pub invariant_of-self : goal.invariant_of-self
invariant_of-self c =
    let segments : List (List Form) = map (λ s. arc_value s) c.self.inside.full.items in
    let one_more = length-after c.push.result c.self.inside.own c.push.new.self c.args.form c.push.ensures.ok c.push.ensures.err in (
      c.self.invariant.0,
      omega (arith, one_more, length-all segments c.push.new.self, length-all segments c.self.inside.own, ap length c.self.view_is, c.requires.room),
    )

pub returns-clause-ok : goal.returns-clause-ok
returns-clause-ok c =
    let segments : List (List Form) = map (λ s. arc_value s) c.self.inside.full.items in
    on_ok c.push.result (c.push.new.self ≡ c.self.inside.own ++ c.args.form ∷ []) (all_forms segments c.push.new.self ≡ c.args.self.now ++ c.args.form ∷ [])
    (λ pushed. ap (λ (own : List Form). all_forms segments own) pushed ∙ all-push segments c.self.inside.own c.args.form ∙ ap (λ (fs : List Form). fs ++ c.args.form ∷ []) c.self.view_is) c.push.ensures.ok
