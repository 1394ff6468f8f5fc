use Rattle.std.proofs.Common.{ℕ, ◌/◌, ◌-◌, ◌^◌, ◌∙◌, ap, bit_or}
use Rattle.int_ops.proofs.IntegerLemmas.{rotated}
use Rattle.int_ops.proofs.integers.rotate.Goals as goal

pub returns : goal.returns
returns c =
    ap (λ (n : ℕ). bit_or n (c.args.x / 2 ^ (c.args.bits - c.args.count))) c.wrapped.ensures
    ∙ rotated c.args.x c.args.count c.args.bits c.requires.x_fits c.requires.count c.requires.fits
