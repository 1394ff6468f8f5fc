use Rattle.std.proofs.Common.{ℕ, ◌^◌, ◌<◌, subst, sym}
use Rattle.int_ops.specs.Operators.{result_bits}
use Rattle.int_ops.proofs.WidthLemmas.{unary-below}
use Rattle.wasm_rules.proofs.algebra.NumbersAlgebra.un.Goals as goal

pub returns-clause-width : goal.returns-clause-width
returns-clause-width c =
    subst (λ (n : ℕ). n < 2 ^ result_bits c.args.op) (sym c.un.ensures) (unary-below c.args.op c.args.a c.requires.unary c.requires.a_width)
