use Rattle.std.proofs.Common.{subst, sym, ap, ◌∙◌, arith}
use Rattle.wasm_machine.specs.Values.{word_at}
use Rattle.wasm_machine.specs.States.{own}
use Rattle.wasm_machine.specs.code.Moves.{replaced}
use Rattle.wasm_machine.proofs.Images.{word_at-some}
use Rattle.wasm_machine.proofs.NumericLaws.{one-unary, operand-bits, own-word-held, operand-wide, unary-stuck, unary-goes, own-within}
use Rattle.wasm_machine.proofs.numeric.unary.Goals as goal

pub un-requires : goal.un-requires
un-requires g c =
    let e = c.in-Some.ensures ∙ ap (λ b. word_at b (own c.args.s.now) 0) c.is_wide.ensures in
    record {
      unary = one-unary c.args.op c.args.o c.requires.one.0 c.requires.operator c.requires.one.1;
      a_held = own-word-held g.A.Algebra.holds g.A.Algebra.Has g.A.Algebra.means c.args.a.now c.args.s.now _ 0 c.in-Some.x c.requires.ready e;
      a_width = subst (λ n. g.A.Algebra.Has n (g.A.Algebra.means c.args.a.now c.in-Some.x)) (sym (operand-bits c.args.op c.args.o c.requires.operator))
          (operand-wide g.A.Algebra.holds g.A.Algebra.Has g.A.Algebra.means c.args.a.now c.args.s.now c.args.o.operand 0 c.in-Some.x c.requires.ready e);
    }

pub replace-requires-clause-within : goal.replace-requires-clause-within
replace-requires-clause-within g c = own-within c.args.s.now c.pass.new.self 1 c.pass.ensures (omega (arith, word_at-some _ (own c.args.s.now) 0 c.in-Some.x c.in-Some.ensures))

pub returns-in-None-clause-acts : goal.returns-in-None-clause-acts
returns-in-None-clause-acts g c = λ m. unary-stuck g.A.Algebra.holds g.A.Algebra.means g.A.Algebra.kind m c.args.a.now c.args.s.now c.args.op c.args.o c.requires.one.0 c.requires.operator c.requires.one.1
    (c.in-None.ensures ∙ ap (λ b. word_at b (own c.args.s.now) 0) c.is_wide.ensures)

pub returns-in_ok-w-in-Some-clause-acts : goal.returns-in_ok-w-in-Some-clause-acts
returns-in_ok-w-in-Some-clause-acts g c = λ m. unary-goes g.A.Algebra.holds g.A.Algebra.means g.A.Algebra.kind m c.args.a.now c.un.new.self c.in_ok-w-in-Some.ensures.keeps c.args.s.now c.pass.new.self c.replace.new.self c.args.op c.args.o c.requires.one.0 c.in-Some.x c.in_ok-w-in-Some.w c.is_wide-in-Some.result
    c.requires.ready.sane c.requires.operator c.requires.one.1 (c.in-Some.ensures ∙ ap (λ b. word_at b (own c.args.s.now) 0) c.is_wide.ensures) c.is_wide-in-Some.ensures
    c.in_ok-w-in-Some.ensures.held c.in_ok-w-in-Some.ensures.means c.pass.ensures (c.replace.ensures ∙ ap (λ v. replaced 1 v c.pass.new.self) c.of_word.ensures)
