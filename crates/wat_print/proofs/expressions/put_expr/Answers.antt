use Rattle.std.proofs.Common.{◌≡◌, ◌+◌, ◌∷◌, ◌++◌, length, string_bytes, sym, ap, ◌∙◌, arith}
use Rattle.wat_print.specs.code.Walking.{left}
use Rattle.wat_print.proofs.WalkLaws.{shorter}
use Rattle.wat_print.proofs.expressions.put_expr.Goals as goal

pub loop-top-smaller : goal.loop-top-smaller
loop-top-smaller c =
    let before = c.args.before.now in
    let seqs = c.as_slice-seqs.result.now in
    let popped : c.loop-top.stack.items ≡ c.in-Some.top ∷ c.pop_front.new.self.items = c.in-Some.ensures.items in
    let more : length c.loop-top.stack.items ≡ length c.pop_front.new.self.items + 1 = ap length popped ∙ (omega arith) in
    shorter (string_bytes c.step.new.out) (string_bytes c.loop-top.out) (left before seqs c.step.new.stack.items) (left before seqs c.loop-top.stack.items)
    (length c.step.new.stack.items) (length c.loop-top.stack.items)
    (c.in_ok-step.ensures.left ∙ ap (λ l. string_bytes c.loop-top.out ++ left before seqs l) (sym popped)) (omega (arith, more, c.in_ok-step.ensures.further))
