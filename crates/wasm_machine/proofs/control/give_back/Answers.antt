use Rattle.std.proofs.Common.{◌∙◌}
use Rattle.wasm_machine.proofs.LabelLaws.{back-room}
use Rattle.wasm_machine.proofs.ControlLaws.{back-goes, back-ends}
use Rattle.wasm_machine.proofs.control.give_back.Goals as goal

pub give_back-requires : goal.give_back-requires
give_back-requires g c = back-room c.args.s.now c.args.n c.requires.sane.well_formed c.requires.within

pub returns-then-give_back : goal.returns-then-give_back
returns-then-give_back g c = λ m. back-goes g.A.Algebra.holds g.A.Algebra.means m c.args.a.now c.args.s.now c.give_back.new.self c.args.n c.requires.sane c.requires.within (rw c.if-give_back.true at c.give_back.ensures)

pub returns : goal.returns
returns g c = λ m.
    let b = rw c.if-give_back.false at c.give_back.ensures in
    back-ends g.A.Algebra.holds g.A.Algebra.means m c.args.a.now c.args.s.now c.give_back.new.self c.args.n c.in_ok-values.values c.requires.sane c.requires.within b
    (c.in_ok-values.ensures ∙ rw b.1)
