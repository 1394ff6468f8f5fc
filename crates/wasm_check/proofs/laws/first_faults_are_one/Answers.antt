use Rattle.wasm_check.proofs.FirstFaults.{one-fault}
use Rattle.wasm_check.proofs.laws.first_faults_are_one.Goals as goal

pub returns : goal.returns
returns c = λ m f g h k. one-fault m f g h k
