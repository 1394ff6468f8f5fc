use Rattle.std.proofs.Common.{◌≡◌, ℕ, ◌+◌, ◌-◌, ◌∙◌, ap, sym, min, arith}
use Rattle.std.specs.Int.Count.{count_trailing_zeros}
use Rattle.int_ops.proofs.IntegerLemmas.{trailing}
use Rattle.int_ops.proofs.integers.trailing_zeros.Goals as goal

pub returns : goal.returns
returns c =
    let all : c.args.bits + (64 - c.args.bits) ≡ 64 = omega (arith, c.requires) in
    c.from.ensures ∙ c.min.ensures ∙ ap (λ (n : ℕ). min (count_trailing_zeros n c.args.x) c.args.bits) (sym all)
    ∙ trailing c.args.bits (64 - c.args.bits) c.args.x
