use Rattle.wasm_binary.proofs.BinaryLaws.{one_module, one_fault, never_both}
use Rattle.wasm_binary.proofs.laws.binary_is_unique.Goals as goal

pub returns-clause-module : goal.returns-clause-module
returns-clause-module c = one_module

pub returns-clause-fault : goal.returns-clause-fault
returns-clause-fault c = one_fault

pub returns-clause-never_both : goal.returns-clause-never_both
returns-clause-never_both c = never_both
