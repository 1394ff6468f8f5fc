use Rattle.std.proofs.Common.{ℕ, ◌^◌, ◌<◌, subst, sym}
use Rattle.wasm_rules.specs.Words.{bits_where}
use Rattle.wasm_rules.proofs.NumbersLemmas.{joined-fits}
use Rattle.wasm_rules.proofs.algebra.NumbersAlgebra.join.Goals as goal

pub returns-clause-width : goal.returns-clause-width
returns-clause-width c =
    subst (λ (n : ℕ). n < 2 ^ bits_where c.args.wide) (sym c.join.ensures)
    (joined-fits c.args.wide c.args.bytes.now c.requires.count c.requires.bytes_width)
