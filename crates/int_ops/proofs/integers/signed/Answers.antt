use Rattle.std.proofs.Common.{rules, FitsSigned, w64}
use Rattle.int_ops.proofs.IntegerLemmas.{signed_is}
use Rattle.int_ops.proofs.integers.signed.Goals as goal

pub returns : goal.returns
returns c =
    let fits : FitsSigned w64 c.cast_signed.result = search rules in
    signed_is c.args.bits c.args.x c.cast_signed.result c.requires.some c.requires.fits fits c.cast_signed.ensures
