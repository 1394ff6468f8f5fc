use Rattle.int_ops.proofs.IntegerLemmas.{divided, not_zero}
use Rattle.int_ops.proofs.integers.divide_signed.Goals as goal

pub wrapping_div-requires : goal.wrapping_div-requires
wrapping_div-requires c =
    not_zero c.args.bits c.args.y c.signed-2.result c.requires.not_zero c.requires.y_fits c.signed-2.type_inv c.signed-2.ensures

pub returns : goal.returns
returns c =
    divided c.args.bits c.args.x c.args.y c.signed.result c.signed-2.result c.wrapping_div.result c.unsigned.result
    c.requires.fits c.requires.x_fits c.requires.y_fits c.signed.type_inv c.signed-2.type_inv c.wrapping_div.type_inv
    c.signed.ensures c.signed-2.ensures c.wrapping_div.ensures c.unsigned.ensures
