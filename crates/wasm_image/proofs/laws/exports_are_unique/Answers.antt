use Rattle.wasm_image.proofs.ImageLaws.{one_export}
use Rattle.wasm_image.proofs.laws.exports_are_unique.Goals as goal

pub returns : goal.returns
returns c = one_export
