use Rattle.std.proofs.Common.{◌≡◌, ◌∷◌, ap, ◌∙◌}
use Rattle.wat_print.specs.declared.expressions.Open.{Open}
use Rattle.wat_print.specs.code.Walking.{left}
use Rattle.wat_print.proofs.WalkLaws.{opened}
use Rattle.wat_print.proofs.expressions.open_sequence.Goals as goal

pub returns-clause-left : goal.returns-clause-left
returns-clause-left c =
    let o : Open = record { seq = c.args.seq; at = 0; ending = c.args.ending } in
    let items : c.push_front.new.self.items ≡ o ∷ c.args.stack.now.items = c.in_ok-push_front.ensures.items in
    ap (λ l. left c.args.before.now c.args.seqs.now l) items
    ∙ opened c.args.before.now c.args.seqs.now c.args.seq c.args.ending c.args.stack.now.items c.requires.numbered c.requires.there
