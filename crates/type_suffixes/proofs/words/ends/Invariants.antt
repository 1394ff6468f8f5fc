use Rattle.type_suffixes.specs.Words.{word}
use Rattle.type_suffixes.specs.code.Links.{spelled, IsLink}
use Rattle.type_suffixes.proofs.words.ends.Given as goal

abbrev pub invariant-loop-turn : goal.invariant-loop-turn
invariant-loop-turn l = IsLink (spelled l.words.items) (word (spelled l.words.items) l.longer) l.here
