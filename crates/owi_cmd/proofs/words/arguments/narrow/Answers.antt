use Rattle.owi_cmd.proofs.WordsLemmas.{no_narrow}
use Rattle.owi_cmd.proofs.words.arguments.narrow.Goals as goal

pub returns-in-None : goal.returns-in-None
returns-in-None c = no_narrow c.args.text.now c.in-None.ensures
