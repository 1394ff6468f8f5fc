use Rattle.wasm_text.specs.Words.{word_of, opcode_words}
use Rattle.wat_print.proofs.WordLaws.{find-absent}
use Rattle.wat_print.proofs.words.opcode_word.Goals as goal

pub returns-in_default : goal.returns-in_default
unfolding word_of
returns-in_default c = find-absent c.args.op opcode_words (assumption c)
