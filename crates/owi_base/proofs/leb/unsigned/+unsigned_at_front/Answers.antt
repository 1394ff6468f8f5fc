use Rattle.std.proofs.Common.{◌-◌, arith}
use Rattle.owi_base.proofs.UnsignedLaws.{byte_below, joined_below, high_fits}
use Rattle.owi_base.proofs.leb.unsigned.+unsigned_at_front.Goals as goal

pub returns-then-byte-lt128-clause-small : goal.returns-then-byte-lt128-clause-small
returns-then-byte-lt128-clause-small t c = byte_below c.args.width c.from-byte.result c.if-width-gt7.true c.if-byte-lt128.true

pub overflow_mul-result : goal.overflow_mul-result
overflow_mul-result t c =
    omega (arith, high_fits c.args.width c.in_ok-high.high 0 c.if-width-gt7.true c.requires (omega arith) c.in_ok-high.ensures.small)

pub overflow_add-result : goal.overflow_add-result
overflow_add-result t c =
    omega (arith, high_fits c.args.width c.in_ok-high.high (c.from-byte.result - 128) c.if-width-gt7.true c.requires (omega arith) c.in_ok-high.ensures.small)

pub returns-then-width-gt7-clause-small : goal.returns-then-width-gt7-clause-small
returns-then-width-gt7-clause-small t c = joined_below c.args.width c.from-byte.result c.in_ok-high.high c.if-width-gt7.true (omega arith) (omega arith) c.in_ok-high.ensures.small
