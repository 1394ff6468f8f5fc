use Rattle.owi_cmd.proofs.WordsLemmas.{no_wide}
use Rattle.owi_cmd.proofs.words.arguments.wide.Goals as goal

pub returns-in-None : goal.returns-in-None
returns-in-None c = no_wide c.args.text.now c.in-None.ensures
