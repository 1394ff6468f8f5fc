use Rattle.bv_terms.proofs.MakeLemmas.{made-again}
use Rattle.bv_terms.proofs.laws.making_again_gives_the_word.Goals as goal

pub returns : goal.returns
returns c = made-again
