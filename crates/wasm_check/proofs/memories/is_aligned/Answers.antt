use Rattle.std.proofs.Common.{◌≡◌, ◌∙◌, sym, arith}
use Rattle.std.specs.Prelude.{false, nat_lt}
use Rattle.std.proofs.lemmas.Bool.Decides.{nat_tests}
use Rattle.wasm_check.proofs.Alignment.{past_all}
use Rattle.wasm_check.proofs.memories.is_aligned.Goals as goal

pub returns-else-align-lt4 : goal.returns-else-align-lt4
returns-else-align-lt4 c =
    let t : nat_lt c.args.align 4 ≡ false = grind (arith, nat_tests, c.if-align-lt4.false) in
    t ∙ sym (past_all c.args.op c.args.align c.if-align-lt4.false)
