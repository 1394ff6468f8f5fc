use Rattle.sym_step.proofs.OtherLemmas.{ne-other}
use Rattle.sym_step.proofs.laws.i32_ne_says_other.Goals as goal

pub returns : goal.returns
returns c = ne-other
