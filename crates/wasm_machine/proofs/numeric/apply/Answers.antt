use Rattle.std.proofs.Common.{subst, sym, ap, ◌∙◌, arith}
use Rattle.wasm_machine.specs.States.{own}
use Rattle.wasm_machine.specs.code.Moves.{replaced}
use Rattle.wasm_reduction.specs.Configurations.{Test, Asks}
use Rattle.wasm_machine.proofs.Images.{word_at-some}
use Rattle.wasm_machine.proofs.ActLaws.{ask-acts, trap-acts}
use Rattle.wasm_machine.proofs.NumericLaws.{two-binary, operand-bits, own-word-held, operand-wide, eqz-unary, eqz-operand, binary-said, binary-goes, own-within}
use Rattle.int_ops.specs.Operators.{operand_bits}
use Rattle.wasm_machine.proofs.numeric.apply.Goals as goal

pub un-requires : goal.un-requires
un-requires g c = record {
  unary = rw c.eqz_op.ensures (eqz-unary c.args.o.operand);
  a_held = own-word-held g.A.Algebra.holds g.A.Algebra.Has g.A.Algebra.means c.args.a.now c.args.s.now _ 0 c.args.y c.requires.ready c.requires.second;
  a_width = subst (λ n. g.A.Algebra.Has n (g.A.Algebra.means c.args.a.now c.args.y)) (sym (ap (λ o. operand_bits o) c.eqz_op.ensures ∙ eqz-operand c.args.o.operand)) (operand-wide g.A.Algebra.holds g.A.Algebra.Has g.A.Algebra.means c.args.a.now c.args.s.now c.args.o.operand 0 c.args.y c.requires.ready c.requires.second);
}

pub overflow-requires : goal.overflow-requires
overflow-requires g c = record {
  x_held = own-word-held g.A.Algebra.holds g.A.Algebra.Has g.A.Algebra.means c.args.a.now c.args.s.now _ 1 c.args.x c.requires.ready c.requires.first;
  y_held = own-word-held g.A.Algebra.holds g.A.Algebra.Has g.A.Algebra.means c.args.a.now c.args.s.now _ 0 c.args.y c.requires.ready c.requires.second;
  x_wide = operand-wide g.A.Algebra.holds g.A.Algebra.Has g.A.Algebra.means c.args.a.now c.args.s.now c.args.o.operand 1 c.args.x c.requires.ready c.requires.first;
  y_wide = operand-wide g.A.Algebra.holds g.A.Algebra.Has g.A.Algebra.means c.args.a.now c.args.s.now c.args.o.operand 0 c.args.y c.requires.ready c.requires.second;
}

pub bin-requires : goal.bin-requires
bin-requires g c = record {
  binary = two-binary c.args.op c.args.o c.args.operation c.requires.operator c.requires.two;
  a_held = own-word-held g.A.Algebra.holds g.A.Algebra.Has g.A.Algebra.means c.args.a.now c.args.s.now _ 1 c.args.x c.requires.ready c.requires.first;
  b_held = own-word-held g.A.Algebra.holds g.A.Algebra.Has g.A.Algebra.means c.args.a.now c.args.s.now _ 0 c.args.y c.requires.ready c.requires.second;
  a_width = subst (λ n. g.A.Algebra.Has n (g.A.Algebra.means c.args.a.now c.args.x)) (sym (operand-bits c.args.op c.args.o c.requires.operator)) (operand-wide g.A.Algebra.holds g.A.Algebra.Has g.A.Algebra.means c.args.a.now c.args.s.now c.args.o.operand 1 c.args.x c.requires.ready c.requires.first);
  b_width = subst (λ n. g.A.Algebra.Has n (g.A.Algebra.means c.args.a.now c.args.y)) (sym (operand-bits c.args.op c.args.o c.requires.operator)) (operand-wide g.A.Algebra.holds g.A.Algebra.Has g.A.Algebra.means c.args.a.now c.args.s.now c.args.o.operand 0 c.args.y c.requires.ready c.requires.second);
}

pub replace-requires-clause-within : goal.replace-requires-clause-within
replace-requires-clause-within g c = own-within c.args.s.now c.pass.new.self 2 c.pass.ensures (omega (arith, word_at-some _ (own c.args.s.now) 1 c.args.x c.requires.first))

pub returns-in-DivZero-clause-acts : goal.returns-in-DivZero-clause-acts
returns-in-DivZero-clause-acts g c = λ m. trap-acts g.A.Algebra.holds g.A.Algebra.means g.A.Algebra.kind m _ c.args.a.now c.args.a.now c.args.s.now c.args.s.now _
    (binary-said g.A.Algebra.means g.A.Algebra.kind m c.args.a.now c.args.s.now c.args.op c.args.o c.args.operation c.args.x c.args.y _ _ (record { operator = c.requires.operator; two = c.requires.two; second = c.requires.second; first = c.requires.first; answers = c.given.ensures; check = c.in-DivZero.ensures }))

pub returns-in-Overflow-clause-acts : goal.returns-in-Overflow-clause-acts
returns-in-Overflow-clause-acts g c = λ m. trap-acts g.A.Algebra.holds g.A.Algebra.means g.A.Algebra.kind m _ c.args.a.now c.args.a.now c.args.s.now c.args.s.now _
    (binary-said g.A.Algebra.means g.A.Algebra.kind m c.args.a.now c.args.s.now c.args.op c.args.o c.args.operation c.args.x c.args.y _ _ (record { operator = c.requires.operator; two = c.requires.two; second = c.requires.second; first = c.requires.first; answers = c.given.ensures; check = c.in-Overflow.ensures }))

pub returns-in_ok-w-in-AskZero-clause-acts : goal.returns-in_ok-w-in-AskZero-clause-acts
returns-in_ok-w-in-AskZero-clause-acts g c = λ m. ask-acts g.A.Algebra.holds g.A.Algebra.means g.A.Algebra.kind m _ c.args.a.now c.un.new.self c.in_ok-w-in-AskZero.ensures.keeps c.args.s.now _ c.in_ok-w-in-AskZero.w c.requires.ready.sane c.in_ok-w-in-AskZero.ensures.held
    (λ b. binary-said g.A.Algebra.means g.A.Algebra.kind m c.args.a.now c.args.s.now c.args.op c.args.o c.args.operation c.args.x c.args.y _ _ (record { operator = c.requires.operator; two = c.requires.two; second = c.requires.second; first = c.requires.first; answers = c.given.ensures; check = c.in-AskZero.ensures }) b ∙
    ap (λ v. Asks Test v) (sym (c.in_ok-w-in-AskZero.ensures.means ∙ ap (λ o. g.A.Algebra.kind.unary o (g.A.Algebra.means c.args.a.now c.args.y)) c.eqz_op.ensures)))

pub returns-in_ok-w-in-AskOverflow-clause-acts : goal.returns-in_ok-w-in-AskOverflow-clause-acts
returns-in_ok-w-in-AskOverflow-clause-acts g c = λ m. ask-acts g.A.Algebra.holds g.A.Algebra.means g.A.Algebra.kind m _ c.args.a.now c.overflow.new.a c.in_ok-w-in-AskOverflow.ensures.kept c.args.s.now _ c.in_ok-w-in-AskOverflow.w c.requires.ready.sane c.in_ok-w-in-AskOverflow.ensures.held
    (λ b. binary-said g.A.Algebra.means g.A.Algebra.kind m c.args.a.now c.args.s.now c.args.op c.args.o c.args.operation c.args.x c.args.y _ _ (record { operator = c.requires.operator; two = c.requires.two; second = c.requires.second; first = c.requires.first; answers = c.given.ensures; check = c.in-AskOverflow.ensures }) b ∙
    ap (λ v. Asks Test v) (sym c.in_ok-w-in-AskOverflow.ensures.means))

pub returns-in_ok-w-in-Fine-clause-acts : goal.returns-in_ok-w-in-Fine-clause-acts
returns-in_ok-w-in-Fine-clause-acts g c = λ m. binary-goes g.A.Algebra.holds g.A.Algebra.means g.A.Algebra.kind m c.args.a.now c.bin.new.self c.in_ok-w-in-Fine.ensures.keeps c.args.s.now c.pass.new.self c.replace.new.self c.args.op c.args.o c.args.operation c.args.x c.args.y c.in_ok-w-in-Fine.w c.is_wide.result _
    c.requires.ready.sane (record { operator = c.requires.operator; two = c.requires.two; second = c.requires.second; first = c.requires.first; answers = c.given.ensures; check = c.in-Fine.ensures }) c.is_wide.ensures c.in_ok-w-in-Fine.ensures.held c.in_ok-w-in-Fine.ensures.means c.pass.ensures (c.replace.ensures ∙ ap (λ v. replaced 2 v c.pass.new.self) c.of_word.ensures)
