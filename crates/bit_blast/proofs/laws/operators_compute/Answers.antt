use Rattle.bit_blast.proofs.BlockNumbers.{unary_law, binary_law}
use Rattle.bit_blast.proofs.laws.operators_compute.Goals as goal

pub returns-clause-unary : goal.returns-clause-unary
returns-clause-unary c = unary_law

pub returns-clause-binary : goal.returns-clause-binary
returns-clause-binary c = binary_law
