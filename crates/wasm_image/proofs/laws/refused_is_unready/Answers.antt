use Rattle.wasm_image.proofs.ImageLaws.{unlinked_unready, large_unready}
use Rattle.wasm_image.proofs.laws.refused_is_unready.Goals as goal

pub returns-clause-unlinked : goal.returns-clause-unlinked
returns-clause-unlinked c = unlinked_unready

pub returns-clause-large : goal.returns-clause-large
returns-clause-large c = large_unready
