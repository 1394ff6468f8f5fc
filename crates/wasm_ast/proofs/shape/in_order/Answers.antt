use Rattle.std.proofs.Common.{◌-◌, arith, rules}
use Rattle.std.proofs.lemmas.Grind.{common_steps}
use Rattle.std.proofs.lemmas.List.Sorted.{IsNonDecreasingBy-from_all_adjacent}
use Rattle.wasm_ast.proofs.shape.in_order.Goals as goal

pub returns-then-customs-i : goal.returns-then-customs-i
returns-then-customs-i c = (
  λ impossible. absurd cc,
  λ sorted.
      let here = sorted (c.loop-i.i - 1) c.loop-i.i c.index-customs-i.result (omega arith) (omega arith) in
      grind (arith, common_steps, here),
)

pub returns : goal.returns
returns c = (
  λ t. IsNonDecreasingBy-from_all_adjacent (λ x. x.after) c.args.customs.now (λ k d below. c.loop-i.invariant k d (omega arith)),
  λ sorted. search rules,
)
