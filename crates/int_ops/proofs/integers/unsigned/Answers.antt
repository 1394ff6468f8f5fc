use Rattle.std.proofs.Common.{ℕ, ◌%◌, ◌^◌, ◌∙◌, ap, of_z, w64, to_z-of_z}
use Rattle.int_ops.proofs.IntegerLemmas.{unsigned_is, fits_word}
use Rattle.int_ops.proofs.integers.unsigned.Goals as goal

pub returns : goal.returns
returns c =
    c.wrapped.ensures
    ∙ ap (λ (n : ℕ). n % 2 ^ c.args.bits) (c.cast_unsigned.ensures ∙ ap (of_z w64) (to_z-of_z c.ranges.z))
    ∙ unsigned_is c.args.bits c.args.z c.requires (fits_word c.args.z c.ranges.z)
