use Rattle.std.proofs.Common.{◌≡◌, ◌∙◌, ℕ, List, Some, subst}
use Rattle.std.specs.Prelude.{slice_get, IfSome, IfNone}
use Rattle.bv_terms.specs.declared.words.Form.{Form}
use Rattle.bv_terms.specs.code.Index.{form_of}
use Rattle.bv_terms.proofs.IndexLemmas.{found-at, absent-at}
use Rattle.bv_terms.proofs.segment.Segment.find.Goals as goal

pub returns-clause-found : goal.returns-clause-found
returns-clause-found c =
    subst (λ (forms : List Form). IfSome c.copied.result (λ i. slice_get forms i ≡ Some (form_of c.args.key.now.0))) c.self.view_is
    (found-at c.copied.result c.self.inside.forms.items c.args.key.now c.self.inside.places c.self.invariant (c.copied.ensures ∙ c.get.ensures.value))

pub returns-clause-absent : goal.returns-clause-absent
returns-clause-absent c =
    subst (λ (forms : List Form). IfNone c.copied.result ((i : ℕ) → slice_get forms i ≡ Some (form_of c.args.key.now.0) → ⊥)) c.self.view_is
    (absent-at c.copied.result c.self.inside.forms.items c.args.key.now c.self.inside.places c.self.invariant (c.copied.ensures ∙ c.get.ensures.value))
