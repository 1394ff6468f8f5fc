use Rattle.int_ops.proofs.IntegerLemmas.{remaindered, not_zero}
use Rattle.int_ops.proofs.integers.remainder_signed.Goals as goal

pub wrapping_rem-requires : goal.wrapping_rem-requires
wrapping_rem-requires c =
    not_zero c.args.bits c.args.y c.signed-2.result c.requires.not_zero c.requires.y_fits c.signed-2.type_inv c.signed-2.ensures

pub returns : goal.returns
returns c =
    remaindered c.args.bits c.args.x c.args.y c.signed.result c.signed-2.result c.wrapping_rem.result c.unsigned.result
    c.requires.x_fits c.requires.y_fits c.signed.type_inv c.signed-2.type_inv c.wrapping_rem.type_inv
    c.signed.ensures c.signed-2.ensures c.wrapping_rem.ensures c.unsigned.ensures
