use Rattle.std.proofs.Common.{◌∙◌, mod-eq_of_lt}
use Rattle.int_ops.proofs.BytesLemmas.{joined-bytes_of}
use Rattle.int_ops.proofs.laws.bytes_join.Goals as goal

pub returns : goal.returns
returns c = λ n x below. joined-bytes_of n x ∙ mod-eq_of_lt below
