use Rattle.std.proofs.Common.{subst, sym}
use Rattle.type_suffixes.specs.code.Links.{spelled, IsLink}
use Rattle.type_suffixes.proofs.Trees.{same_word, linked_links}
use Rattle.type_suffixes.proofs.words.link_next.Goals as goal

pub put-requires-clause-same : goal.put-requires-clause-same
put-requires-clause-same c = λ old there. same_word c.args.words.now.items c.in-Some.k c.at-w.result old c.linked.result c.at-w.ensures.is c.linked.ensures.same there

pub put-requires-clause-links : goal.put-requires-clause-links
put-requires-clause-links c =
    linked_links _ _ _ _ _ _ _ c.at-w.ensures.links (subst (λ ts. IsLink (spelled c.args.words.now.items) ts c.end_on-end.result) (sym c.in-Some.ensures.is) c.end_on-end.ensures) c.at-e.ensures.links c.far_of-far.ensures
    c.linked.ensures.end c.linked.ensures.far c.linked.ensures.after
