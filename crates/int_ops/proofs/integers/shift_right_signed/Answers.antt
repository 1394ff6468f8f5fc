use Rattle.std.proofs.Common.{ℕ, ◌^◌, ◌∙◌, ap}
use lib.Signed.{shr_z}
use Rattle.int_ops.specs.Integers.{signed, unsigned}
use Rattle.int_ops.proofs.IntegerLemmas.{shifted}
use Rattle.int_ops.proofs.integers.shift_right_signed.Goals as goal

pub returns : goal.returns
returns c =
    shifted c.args.bits c.args.x c.shift_count.result c.signed.result c.unsigned.result c.requires.x_fits c.signed.type_inv
    c.signed.ensures c.unsigned.ensures
    ∙ ap (λ (k : ℕ). unsigned c.args.bits (shr_z (signed c.args.bits c.args.x) (2 ^ k))) c.shift_count.ensures.value
