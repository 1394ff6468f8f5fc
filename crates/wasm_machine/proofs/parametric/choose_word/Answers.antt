use Rattle.std.specs.Prelude.{false}
use Rattle.std.proofs.Common.{ap, ◌∙◌, inl, inr}
use Rattle.wasm_machine.specs.Values.{valued as code_valued}
use Rattle.wasm_machine.specs.code.Moves.{replaced}
use Rattle.wasm_machine.proofs.NumericLaws.{own-word-held, own-word-wide}
use Rattle.wasm_machine.proofs.ParametricLaws.{word-unlike, word-chosen, valued-word, other-word, three-within}
use Rattle.wasm_machine.proofs.parametric.choose_word.Goals as goal

pub choose-requires : goal.choose-requires
choose-requires g c =
    let first = valued-word c.args.s.now 2 c.args.wide c.args.first c.requires.three.first_is in
    let second = other-word c.args.s.now 1 c.args.wide c.in-Some.other c.args.second c.requires.three.second_is c.in-Some.ensures in
    record {
      c_held = own-word-held g.A.Algebra.holds g.A.Algebra.Has g.A.Algebra.means c.args.a.now c.args.s.now false 0 c.args.condition c.requires.ready c.requires.three.condition;
      a_held = own-word-held g.A.Algebra.holds g.A.Algebra.Has g.A.Algebra.means c.args.a.now c.args.s.now _ 2 c.args.first c.requires.ready first;
      b_held = own-word-held g.A.Algebra.holds g.A.Algebra.Has g.A.Algebra.means c.args.a.now c.args.s.now _ 1 c.in-Some.other c.requires.ready second;
      c_width = inr (inl (own-word-wide g.A.Algebra.holds g.A.Algebra.Has g.A.Algebra.means c.args.a.now c.args.s.now false 0 c.args.condition c.requires.ready c.requires.three.condition));
      a_width = own-word-wide g.A.Algebra.holds g.A.Algebra.Has g.A.Algebra.means c.args.a.now c.args.s.now _ 2 c.args.first c.requires.ready first;
      b_width = own-word-wide g.A.Algebra.holds g.A.Algebra.Has g.A.Algebra.means c.args.a.now c.args.s.now _ 1 c.in-Some.other c.requires.ready second;
    }

pub replace-requires-clause-within : goal.replace-requires-clause-within
replace-requires-clause-within g c = three-within c.args.s.now c.pass.new.self c.args.condition (code_valued c.args.wide c.args.first) c.args.second c.requires.three c.pass.ensures

pub returns-in-None-clause-acts : goal.returns-in-None-clause-acts
returns-in-None-clause-acts g c = λ m. word-unlike g.A.Algebra.holds g.A.Algebra.means g.A.Algebra.kind m c.args.a.now c.args.s.now c.args.condition c.args.wide c.args.first c.args.second c.requires.three c.in-None.ensures

pub returns-in_ok-w-in-Some-clause-acts : goal.returns-in_ok-w-in-Some-clause-acts
returns-in_ok-w-in-Some-clause-acts g c = λ m. word-chosen g.A.Algebra.holds g.A.Algebra.means g.A.Algebra.kind m c.args.a.now c.choose.new.self c.in_ok-w-in-Some.ensures.keeps c.args.s.now c.pass.new.self c.replace.new.self c.args.condition c.args.wide c.args.first c.in-Some.other c.in_ok-w-in-Some.w c.args.second
    c.requires.ready.sane c.requires.three c.in-Some.ensures c.in_ok-w-in-Some.ensures.held c.in_ok-w-in-Some.ensures.means c.pass.ensures (c.replace.ensures ∙ ap (λ v. replaced 3 v c.pass.new.self) c.of_word.ensures)
