use Rattle.bv_terms.proofs.WidthLemmas.{value-below}
use Rattle.bv_terms.proofs.laws.values_fit.Goals as goal

pub returns : goal.returns
returns c = λ t bits h input. value-below bits t input h
