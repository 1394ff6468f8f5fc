use Rattle.wasm_reduction.proofs.ConstantStarts.{constant-goes}
use Rattle.wasm_reduction.proofs.constants.constants_are_instructions.Goals as goal

pub returns : goal.returns
returns c = λ m d i vs ws e. constant-goes m d i vs ws e
