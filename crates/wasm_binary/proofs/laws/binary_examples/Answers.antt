use Rattle.wasm_binary.proofs.Examples.{sum_is_binary, cut_fault, unused_bits_fault, outside_fault}
use Rattle.wasm_binary.proofs.laws.binary_examples.Goals as goal

pub returns-clause-sum : goal.returns-clause-sum
returns-clause-sum c = sum_is_binary

pub returns-clause-cut_short : goal.returns-clause-cut_short
returns-clause-cut_short c = cut_fault

pub returns-clause-unused_bits : goal.returns-clause-unused_bits
returns-clause-unused_bits c = unused_bits_fault

pub returns-clause-floating_point : goal.returns-clause-floating_point
returns-clause-floating_point c = outside_fault
