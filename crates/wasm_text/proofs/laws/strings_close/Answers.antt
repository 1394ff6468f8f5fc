use Rattle.wasm_text.proofs.StringFound.{string_closes}
use Rattle.wasm_text.proofs.StringLaws.{closes_string}
use Rattle.wasm_text.proofs.laws.strings_close.Goals as goal

pub returns-clause-found : goal.returns-clause-found
returns-clause-found c = λ quote at n e. string_closes quote at n c.args.text.now e

pub returns-clause-spelled : goal.returns-clause-spelled
returns-clause-spelled c = λ quote at n left closes place. closes_string quote at n c.args.text.now left closes place
