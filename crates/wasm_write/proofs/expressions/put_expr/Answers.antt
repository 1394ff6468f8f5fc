use Rattle.std.proofs.Common.{◌≡◌, ◌∷◌, ◌++◌, sym, ap, ◌∙◌}
use Rattle.wasm_write.specs.Writing.{left}
use Rattle.wasm_write.proofs.WalkLaws.{shorter}
use Rattle.wasm_write.proofs.expressions.put_expr.Goals as goal

pub loop-top-smaller : goal.loop-top-smaller
loop-top-smaller c =
    let seqs = c.as_slice-seqs.result.now in
    let popped : c.loop-top.stack.items ≡ c.in-Some.top ∷ c.pop_front.new.self.items = c.in-Some.ensures.items in
    shorter c.step.new.out.items c.loop-top.out.items (left seqs c.step.new.stack.items) (left seqs c.loop-top.stack.items)
    (c.in_ok-step.ensures.left ∙ ap (λ l. c.loop-top.out.items ++ left seqs l) (sym popped)) c.in_ok-step.ensures.further
