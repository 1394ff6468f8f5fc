use Rattle.wasm_binary.proofs.BinaryLaws.{one_of_both}
use Rattle.wasm_binary.proofs.laws.binary_is_decided.Goals as goal

pub returns : goal.returns
returns c = one_of_both
