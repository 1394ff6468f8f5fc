use Rattle.std.proofs.Common.{ap, ◌∙◌}
use Rattle.wasm_machine.specs.Values.{word_at}
use Rattle.wasm_machine.specs.States.{own}
use Rattle.wasm_machine.proofs.NumericLaws.{binary-lacks-second, binary-lacks-first}
use Rattle.wasm_machine.proofs.numeric.binary.Goals as goal

pub returns-in-None-clause-acts : goal.returns-in-None-clause-acts
returns-in-None-clause-acts g c = λ m. binary-lacks-second g.A.Algebra.holds g.A.Algebra.means g.A.Algebra.kind m c.args.a.now c.args.s.now c.args.op c.args.o c.args.operation c.requires.operator c.requires.two
    (c.in-None.ensures ∙ ap (λ b. word_at b (own c.args.s.now) 0) c.is_wide.ensures)

pub returns-in-None-word-clause-acts : goal.returns-in-None-word-clause-acts
returns-in-None-word-clause-acts g c = λ m. binary-lacks-first g.A.Algebra.holds g.A.Algebra.means g.A.Algebra.kind m c.args.a.now c.args.s.now c.args.op c.args.o c.args.operation c.in-Some.y c.requires.operator c.requires.two
    (c.in-Some.ensures ∙ ap (λ b. word_at b (own c.args.s.now) 0) c.is_wide.ensures)
    (c.in-None-word.ensures ∙ ap (λ b. word_at b (own c.args.s.now) 1) c.is_wide-in-Some.ensures)
