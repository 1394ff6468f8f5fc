use Rattle.int_ops.proofs.LawLemmas.{unsigned-signed}
use Rattle.int_ops.proofs.laws.signs.Goals as goal

pub returns : goal.returns
returns c = λ N x some below. unsigned-signed N x below
