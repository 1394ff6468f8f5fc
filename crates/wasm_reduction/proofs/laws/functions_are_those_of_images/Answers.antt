use Rattle.wasm_reduction.proofs.ImageFunctions.{runs-host, runs-code, has-type, block-types}
use Rattle.wasm_reduction.proofs.laws.functions_are_those_of_images.Goals as goal

pub returns-clause-hosts : goal.returns-clause-hosts
returns-clause-hosts c = runs-host

pub returns-clause-code : goal.returns-clause-code
returns-clause-code c = runs-code

pub returns-clause-types : goal.returns-clause-types
returns-clause-types c = has-type

pub returns-clause-blocks : goal.returns-clause-blocks
returns-clause-blocks c = block-types
