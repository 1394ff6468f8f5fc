use Rattle.std.proofs.Common.{arith}
use Rattle.wasm_machine.proofs.Steps.{length-own}
use Rattle.wasm_machine.proofs.ControlLaws.{open-lacks, open-goes}
use Rattle.wasm_machine.proofs.control.open.Goals as goal

pub returns-in-None : goal.returns-in-None
returns-in-None g c = open-lacks g.A.Algebra.holds g.A.Algebra.means c.args.m.now c.args.a.now c.args.s.now c.args.ty c.args.body c.args.again c.in-None.ensures

pub returns-in_ok-enter-in-Some : goal.returns-in_ok-enter-in-Some
returns-in_ok-enter-in-Some g c = open-goes g.A.Algebra.holds g.A.Algebra.means c.args.m.now c.args.a.now c.args.s.now c.enter.new.self c.args.ty c.args.body c.args.again c.in-Some.n c.carried.result c.requires.sane c.requires.place c.requires.opening c.in-Some.ensures
    (omega (arith, c.if-own_count-n.false, c.own_count.ensures, length-own c.args.s.now)) c.carried.ensures c.in_ok-enter-in-Some.ensures
