use Rattle.std.proofs.Common.{sym, ◌∙◌, arith}
use Rattle.wasm_machine.proofs.Steps.{length-own}
use Rattle.wasm_machine.proofs.LabelLaws.{label-short}
use Rattle.wasm_machine.proofs.ControlLaws.{end-leaves, end-backs}
use Rattle.wasm_machine.proofs.control.end.Goals as goal

pub leave-requires-clause-place : goal.leave-requires-clause-place
leave-requires-clause-place g c = label-short c.args.s.now.frame.here c.args.s.now.labels 0 c.requires.well_formed.short (omega (arith, c.if-label_count-gt0.true, c.label_count.ensures))

pub returns-then-label_count-gt0 : goal.returns-then-label_count-gt0
returns-then-label_count-gt0 g c = λ m. end-leaves g.A.Algebra.holds g.A.Algebra.means m c.args.a.now c.args.s.now c.leave.new.self c.requires (omega (arith, c.if-label_count-gt0.true, c.label_count.ensures)) c.leave.ensures

pub returns : goal.returns
returns g c = λ m. end-backs g.A.Algebra.holds g.A.Algebra.means m c.args.a.now c.args.s.now c.give_back.new.s c.own_count-n.result c.in_ok-next.next (omega (arith, c.if-label_count-gt0.false, c.label_count.ensures, c.requires.well_formed.frame.labels_within))
    (c.own_count-n.ensures ∙ sym (length-own c.args.s.now)) (c.in_ok-next.ensures m)
