use Rattle.std.proofs.Common.{◌+◌, ap, sym, subst}
use Rattle.bv_terms.specs.Graphs.{TermGraph, Draws}
use Rattle.bv_terms.proofs.MakeLemmas.{draws}
use Rattle.bv_terms.proofs.graph.Graph.draw.Goals as goal

pub returns-clause-ok : goal.returns-clause-ok
returns-clause-ok c =
    subst (λ (new : TermGraph). Draws c.args.self.now c.args.wide c.in_ok-word.word (record { forms = new.forms; drawn = new.drawn + 1 })) (sym c.self-2.view_is)
    (draws c.args.self.now c.make-2.new.self c.make.inside.drawn c.args.wide c.in_ok-word.word (ap (λ (g : TermGraph). g.drawn) c.make.view_is) c.in_ok-word.ensures.ok)
