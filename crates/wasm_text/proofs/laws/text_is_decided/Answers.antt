use Rattle.wasm_text.proofs.TextLaws.{decided}
use Rattle.wasm_text.proofs.laws.text_is_decided.Goals as goal

pub returns : goal.returns
returns c = λ text utf8 short. decided text utf8 short
