use Rattle.int_ops.proofs.BytesLemmas.{byte_is}
use Rattle.int_ops.proofs.bytes.byte.Goals as goal

pub returns : goal.returns
returns c = byte_is c.args.x c.args.i
