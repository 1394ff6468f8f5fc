use Rattle.std.proofs.Common.{ℕ, ◌^◌, ◌<◌, subst, sym}
use Rattle.int_ops.specs.Operators.{result_bits}
use Rattle.int_ops.proofs.WidthLemmas.{binary-below}
use Rattle.wasm_rules.proofs.algebra.NumbersAlgebra.bin.Goals as goal

pub returns-clause-width : goal.returns-clause-width
returns-clause-width c =
    subst (λ (n : ℕ). n < 2 ^ result_bits c.args.op) (sym c.total.ensures)
    (binary-below c.args.op c.args.a c.args.b c.requires.binary c.requires.a_width c.requires.b_width).0
