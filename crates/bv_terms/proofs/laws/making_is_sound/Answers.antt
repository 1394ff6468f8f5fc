use Rattle.bv_terms.proofs.RuleLemmas.{made-keeps}
use Rattle.bv_terms.proofs.laws.making_is_sound.Goals as goal

pub returns : goal.returns
returns c = made-keeps
