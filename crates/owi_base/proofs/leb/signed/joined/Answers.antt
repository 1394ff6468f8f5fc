use Rattle.std.proofs.Common.{rules, arith, ℤ, w64, FitsSigned, subst, sym}
use Rattle.std.proofs.lemmas.Int.{ints, to_z-of_z}
use Rattle.owi_base.specs.Leb.{HasBits}
use Rattle.owi_base.proofs.SignedLaws.{joined_has_bits, joined_fits, high_fits}
use Rattle.owi_base.proofs.leb.signed.joined.Goals as goal

pub overflow_mul-result : goal.overflow_mul-result
overflow_mul-result c =
    let fits : FitsSigned w64 c.args.high = search rules in
    simp to_z-of_z (high_fits c.args.width c.args.high c.requires.more c.requires.wide c.requires.high)

pub returns-clause-value : goal.returns-clause-value
returns-clause-value c =
    omega (arith, ints, joined_fits c.args.width c.args.low c.args.high c.requires.more c.requires.wide c.requires.low c.requires.high, high_fits c.args.width c.args.high c.requires.more c.requires.wide c.requires.high)

pub returns-clause-bits : goal.returns-clause-bits
returns-clause-bits c =
    let value = returns-clause-value c in
    let P : ℤ → Type 0 = λ z. HasBits c.args.width z in
    subst P (sym value) (joined_has_bits c.args.width c.args.low c.args.high c.requires.more c.requires.low c.requires.high)
