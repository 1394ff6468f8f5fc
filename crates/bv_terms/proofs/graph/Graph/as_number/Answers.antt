use Rattle.std.proofs.Common.{sym, subst}
use Rattle.bv_terms.specs.Graphs.{TermGraph, IsGraph}
use Rattle.bv_terms.proofs.FitLemmas.{word-no_number}
use Rattle.bv_terms.proofs.graph.Graph.as_number.Goals as goal

pub returns-in-Term : goal.returns-in-Term
returns-in-Term c =
    let graph : IsGraph c.args.self.now.forms = subst (λ (g : TermGraph). IsGraph g.forms) c.self.view_is c.self.invariant.0 in
    sym (word-no_number c.args.self.now.forms c.args.a c.in-Term.field-0 graph c.requires c.in-Term.is)
