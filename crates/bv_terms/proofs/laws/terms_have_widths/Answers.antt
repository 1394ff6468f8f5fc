use Rattle.bv_terms.proofs.KindLemmas.{terms-give}
use Rattle.bv_terms.proofs.laws.terms_have_widths.Goals as goal

pub returns : goal.returns
returns c = terms-give
