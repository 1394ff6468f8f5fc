use Rattle.int_ops.proofs.WidthLemmas.{unary-below, binary-below}
use Rattle.int_ops.proofs.laws.results_fit.Goals as goal

pub returns-clause-unary : goal.returns-clause-unary
returns-clause-unary c = unary-below

pub returns-clause-binary : goal.returns-clause-binary
returns-clause-binary c = λ op x y class x_fits y_fits. (binary-below op x y class x_fits y_fits).1

pub returns-clause-total : goal.returns-clause-total
returns-clause-total c = λ op x y class x_fits y_fits. (binary-below op x y class x_fits y_fits).0
