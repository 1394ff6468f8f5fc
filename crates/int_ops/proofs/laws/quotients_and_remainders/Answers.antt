use Rattle.int_ops.proofs.LawLemmas.{quotient_and_remainder}
use Rattle.int_ops.proofs.laws.quotients_and_remainders.Goals as goal

pub returns-clause-signed : goal.returns-clause-signed
returns-clause-signed c = λ N x y some x_fits y_fits not_zero fits. quotient_and_remainder N x y some x_fits y_fits fits
