use Rattle.wasm_text.proofs.TextLaws.{no_want_of_memory}
use Rattle.wasm_text.proofs.laws.text_faults_are_told.Goals as goal

pub returns : goal.returns
returns c = λ text f. no_want_of_memory text f
