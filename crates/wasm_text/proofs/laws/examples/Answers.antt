use Rattle.std.proofs.Common.{refl}
use Rattle.std.specs.Fmt.{digits}
use Rattle.wasm_text.specs.PrintedInstructions.{sequence_text}
use Rattle.wasm_text.specs.Words.{word_of}
use Rattle.wasm_text.proofs.laws.examples.Goals as goal

pub returns-clause-words : goal.returns-clause-words
returns-clause-words c = (refl, (refl, (refl, (refl, refl))))

pub returns-clause-adjoining : goal.returns-clause-adjoining
returns-clause-adjoining c = (refl, (refl, refl))

pub returns-clause-open_comment : goal.returns-clause-open_comment
returns-clause-open_comment c = refl

pub returns-clause-sum : goal.returns-clause-sum
unfolding sequence_text word_of digits
returns-clause-sum c = refl

pub returns-clause-least : goal.returns-clause-least
unfolding sequence_text word_of digits
returns-clause-least c = refl
