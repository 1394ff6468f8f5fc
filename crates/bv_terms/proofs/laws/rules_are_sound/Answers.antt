use Rattle.bv_terms.proofs.RuleLemmas.{rules-sound}
use Rattle.bv_terms.proofs.laws.rules_are_sound.Goals as goal

pub returns : goal.returns
returns c = rules-sound
