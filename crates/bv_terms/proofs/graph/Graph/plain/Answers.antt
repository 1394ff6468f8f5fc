use Rattle.std.proofs.Common.{◌≡◌, ℕ, ◌+◌, ◌<◌, ◌^◌, List, Some, length, ap, sym, ◌∙◌, subst, arith}
use Rattle.std.specs.Prelude.{slice_get}
use Rattle.bv_terms.specs.declared.words.Word.TheVariants.{Term as Numbered}
use Rattle.bv_terms.specs.declared.words.Form.{Form}
use Rattle.bv_terms.specs.Terms.{HasWidth, width_of}
use Rattle.bv_terms.specs.Graphs.{TermGraph, terms_of, form_among, form_term, OperandsBelow, IsGraph, Makes}
use Rattle.bv_terms.proofs.GraphLemmas.{graph-push}
use Rattle.bv_terms.proofs.MakeLemmas.{makes-found, makes-new}
use Rattle.bv_terms.proofs.graph.Graph.plain.Goals as goal

pub returns-in-Some-clause-ok : goal.returns-in-Some-clause-ok
returns-in-Some-clause-ok c =
    let g : TermGraph = record { forms = c.self.inside.forms; drawn = c.self.inside.drawn } in
    subst (λ (g : TermGraph). Makes g (form_term g c.args.form) (Numbered (256 + c.in-Some.i)) g) c.self.view_is
    (makes-found g c.self.invariant.0 c.args.form c.in-Some.i (c.in-Some.ensures.found ∙ ap (λ (f : Form). Some f) c.in_ok-key.ensures))

pub invariant_of-self-2 : goal.invariant_of-self-2
invariant_of-self-2 c =
    let same : c.args.self.now.forms ≡ c.self.inside.forms = ap (λ (g : TermGraph). g.forms) (sym c.self.view_is) in
    let below : OperandsBelow (256 + length c.self.inside.forms) c.args.form = subst (λ (fs : List Form). OperandsBelow (256 + length fs) c.args.form) same c.requires.below in
    let typed : HasWidth (width_of (form_among (terms_of c.self.inside.forms) c.args.form)) (form_among (terms_of c.self.inside.forms) c.args.form) =
    subst (λ (fs : List Form). HasWidth (width_of (form_among (terms_of fs) c.args.form)) (form_among (terms_of fs) c.args.form)) same c.requires.typed in
    let absent : (i : ℕ) → slice_get c.self.inside.forms i ≡ Some c.args.form → ⊥ =
    subst (λ (f : Form). (i : ℕ) → slice_get c.self.inside.forms i ≡ Some f → ⊥) c.in_ok-key.ensures c.in_default.ensures.absent in
    let room : length c.self.inside.forms < 2 ^ 60 = omega (arith, c.if-count-ge-MOST.false, c.len-count.ensures) in
    (subst IsGraph (sym c.in_ok-push.ensures.ok) (graph-push c.self.inside.forms c.self.invariant.0 c.args.form below typed absent room), c.self.invariant.1)

pub returns-clause-ok : goal.returns-clause-ok
returns-clause-ok c =
    let same : c.args.self.now.forms ≡ c.self.inside.forms = ap (λ (g : TermGraph). g.forms) (sym c.self.view_is) in
    let below : OperandsBelow (256 + length c.self.inside.forms) c.args.form = subst (λ (fs : List Form). OperandsBelow (256 + length fs) c.args.form) same c.requires.below in
    let absent : (i : ℕ) → slice_get c.self.inside.forms i ≡ Some c.args.form → ⊥ =
    subst (λ (f : Form). (i : ℕ) → slice_get c.self.inside.forms i ≡ Some f → ⊥) c.in_ok-key.ensures c.in_default.ensures.absent in
    let g : TermGraph = record { forms = c.self.inside.forms; drawn = c.self.inside.drawn } in
    let new : TermGraph = record { forms = c.push.new.self; drawn = c.self.inside.drawn } in
    subst (λ (g : TermGraph). Makes g (form_term g c.args.form) (Numbered (256 + c.len-count.result)) new) c.self.view_is
    (subst (λ (n : ℕ). Makes g (form_term g c.args.form) (Numbered (256 + n)) new) (sym c.len-count.ensures)
    (subst (λ (fs : List Form). Makes g (form_term g c.args.form) (Numbered (256 + length c.self.inside.forms)) (record { forms = fs; drawn = c.self.inside.drawn })) (sym c.in_ok-push.ensures.ok)
    (makes-new c.self.inside.forms c.self.inside.drawn c.self.invariant.0 c.args.form below absent)))
