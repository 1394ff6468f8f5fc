use Rattle.owi_cmd.proofs.WordsLemmas.{ArgumentsSoFar}
use Rattle.owi_cmd.proofs.words.arguments.read_arguments.Given as goal

abbrev pub invariant-loop-at : goal.invariant-loop-at
invariant-loop-at l = ArgumentsSoFar l.words l.args.items l.at
