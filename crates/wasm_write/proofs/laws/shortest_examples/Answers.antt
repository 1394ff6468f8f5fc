use Rattle.wasm_write.proofs.Examples.{empty_is, sum_is, zero_is, custom_is}
use Rattle.wasm_write.proofs.laws.shortest_examples.Goals as goal

pub returns-clause-empty : goal.returns-clause-empty
returns-clause-empty c = empty_is

pub returns-clause-sum : goal.returns-clause-sum
returns-clause-sum c = sum_is

pub returns-clause-zero : goal.returns-clause-zero
returns-clause-zero c = zero_is

pub returns-clause-custom : goal.returns-clause-custom
returns-clause-custom c = custom_is
