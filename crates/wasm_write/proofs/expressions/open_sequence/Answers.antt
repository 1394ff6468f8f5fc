use Rattle.std.proofs.Common.{◌≡◌, ◌∷◌, ap, ◌∙◌}
use Rattle.wasm_write.specs.declared.expressions.Open.{Open}
use Rattle.wasm_write.specs.Writing.{left}
use Rattle.wasm_write.proofs.WalkLaws.{opened}
use Rattle.wasm_write.proofs.expressions.open_sequence.Goals as goal

pub returns-clause-left : goal.returns-clause-left
returns-clause-left c =
    let o : Open = record { seq = c.args.seq; at = 0; other = c.args.other } in
    let items : c.push_front.new.self.items ≡ o ∷ c.args.stack.now.items = c.in_ok-push_front.ensures.items in
    ap (λ l. left c.args.seqs.now l) items ∙ opened c.args.seqs.now c.args.seq c.args.other c.args.stack.now.items c.requires.numbered c.requires.there
