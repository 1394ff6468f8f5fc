use Rattle.bv_terms.proofs.GraphLemmas.{word-unique}
use Rattle.bv_terms.proofs.laws.terms_are_shared.Goals as goal

pub returns : goal.returns
returns c = λ g graph v w hv hw e. word-unique g.forms graph v w hv hw e
