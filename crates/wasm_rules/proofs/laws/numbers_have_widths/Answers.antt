use Rattle.wasm_rules.proofs.NumbersLemmas.{numbers-give}
use Rattle.wasm_rules.proofs.laws.numbers_have_widths.Goals as goal

pub returns : goal.returns
returns c = numbers-give
