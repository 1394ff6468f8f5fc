use Rattle.std.proofs.Common.{rules, w64, FitsSigned}
use Rattle.std.proofs.lemmas.Int.{to_z-of_z}
use Rattle.owi_base.proofs.SignedLaws.{last_has_bits}
use Rattle.owi_base.proofs.leb.signed.+signed_at_front.Goals as goal

pub returns-then-byte-lt128-clause-small : goal.returns-then-byte-lt128-clause-small
returns-then-byte-lt128-clause-small t c =
    let fits : FitsSigned w64 c.value_of.result = search rules in
    simp to_z-of_z (last_has_bits c.args.width c.in_ok-byte.byte.now c.value_of.result c.if-width-gt7.true c.if-byte-lt128.true c.value_of.ensures)
