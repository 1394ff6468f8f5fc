use Rattle.wasm_check.proofs.FaultsExist.{valid-or-fault}
use Rattle.wasm_check.proofs.FirstFaults.{never-both}
use Rattle.wasm_check.proofs.laws.modules_are_valid_or_at_fault.Goals as goal

pub returns-clause-either : goal.returns-clause-either
returns-clause-either c = λ m shape. valid-or-fault m shape

pub returns-clause-never_both : goal.returns-clause-never_both
returns-clause-never_both c = λ m f valid h. never-both m f valid h
