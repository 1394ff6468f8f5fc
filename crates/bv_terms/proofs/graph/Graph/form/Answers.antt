use Rattle.std.proofs.Common.{◌≡◌, ℕ, ◌+◌, ◌-◌, subst, arith}
use Rattle.bv_terms.specs.declared.words.Word.TheVariants.{Term as Numbered}
use Rattle.bv_terms.specs.Terms.{HasWidth, width_of}
use Rattle.bv_terms.specs.Graphs.{TermGraph, OperandsBelow, term_of, form_among, form_term, terms_of}
use Rattle.bv_terms.proofs.GraphLemmas.{numbered-is, term-at}
use Rattle.bv_terms.proofs.graph.Graph.form.Goals as goal

pub returns-clause-operands : goal.returns-clause-operands
returns-clause-operands c =
    let place : 256 + (c.args.t - 256) ≡ c.args.t = omega arith in
    subst (λ (n : ℕ). OperandsBelow n c.get.result.now) place (c.self.invariant.0.ordered (c.args.t - 256) c.get.result.now c.get.ensures)

pub returns-clause-means : goal.returns-clause-means
returns-clause-means c =
    subst (λ (g : TermGraph). term_of g (Numbered c.args.t) ≡ form_term g c.get.result.now) c.self.view_is
    (numbered-is c.self.inside.forms c.args.t c.get.result.now c.self.invariant.0 c.get.ensures)

pub returns-clause-typed : goal.returns-clause-typed
returns-clause-typed c =
    subst (λ (g : TermGraph). HasWidth (width_of (form_term g c.get.result.now)) (form_term g c.get.result.now)) c.self.view_is
    (c.self.invariant.0.proper (c.args.t - 256) (form_among (terms_of c.self.inside.forms) c.get.result.now)
    (term-at c.self.inside.forms (c.args.t - 256) c.get.result.now c.self.invariant.0 c.get.ensures)).1
