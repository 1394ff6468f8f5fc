use Rattle.std.proofs.Common.{◌≡◌, sym, subst}
use Rattle.std.specs.Prelude.{IfOk}
use Rattle.bv_terms.specs.Terms.{Term}
use Rattle.bv_terms.specs.Making.{made}
use Rattle.bv_terms.specs.Graphs.{TermGraph, form_term, Makes}
use Rattle.bv_terms.proofs.MakeLemmas.{makes-rule, made-plain}
use Rattle.bv_terms.proofs.graph.Graph.make.Goals as goal

pub returns-in-Some-clause-ok : goal.returns-in-Some-clause-ok
returns-in-Some-clause-ok c =
    let g : TermGraph = record { forms = c.self.inside.forms; drawn = c.self.inside.drawn } in
    subst (λ (g : TermGraph). Makes g (made (form_term g c.args.form)) c.in-Some.word g) c.self.view_is (makes-rule g (form_term g c.args.form) c.in-Some.word c.in-Some.ensures)

pub returns-in-None-clause-ok : goal.returns-in-None-clause-ok
returns-in-None-clause-ok c =
    let g : TermGraph = record { forms = c.self.inside.forms; drawn = c.self.inside.drawn } in
    let plain : made (form_term c.args.self.now c.args.form) ≡ form_term c.args.self.now c.args.form =
    subst (λ (g : TermGraph). made (form_term g c.args.form) ≡ form_term g c.args.form) c.self.view_is (made-plain c.self.inside.forms (form_term g c.args.form) c.in-None.ensures) in
    subst (λ (t : Term). IfOk c.plain.result (λ w. Makes c.args.self.now t w c.plain.new.self)) (sym plain) c.plain.ensures.ok
