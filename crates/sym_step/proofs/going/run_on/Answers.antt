use Rattle.sym_step.proofs.GoLaws.{run-needs, run-on}
use Rattle.sym_step.proofs.going.run_on.Goals as goal

pub turns-requires-clause-linked : goal.turns-requires-clause-linked
turns-requires-clause-linked c = (run-needs c.args.steps _ c.args.s.now c.s.view_is (record { machine = c.args.machine.now; memory = c.args.cells.now }) c.deref.result.now c.deref.ensures c.carry_out.new.machine c.in_ok-carry_out.ensures c.requires).0

pub turns-requires-clause-held : goal.turns-requires-clause-held
turns-requires-clause-held c = (run-needs c.args.steps _ c.args.s.now c.s.view_is (record { machine = c.args.machine.now; memory = c.args.cells.now }) c.deref.result.now c.deref.ensures c.carry_out.new.machine c.in_ok-carry_out.ensures c.requires).1

pub turns-requires-clause-somewhere : goal.turns-requires-clause-somewhere
turns-requires-clause-somewhere c = (run-needs c.args.steps _ c.args.s.now c.s.view_is (record { machine = c.args.machine.now; memory = c.args.cells.now }) c.deref.result.now c.deref.ensures c.carry_out.new.machine c.in_ok-carry_out.ensures c.requires).2

pub returns : goal.returns
returns c =
    run-on c.args.steps _ c.args.s.now c.s.view_is (record { machine = c.args.machine.now; memory = c.args.cells.now }) c.deref.result.now c.deref.ensures c.carry_out.new.machine c.in_ok-carry_out.ensures c.turns.new.graph c.turns.new.draws c.turns.new.asks c.turns.new.units (record { machine = c.turns.new.s; memory = c.turns.new.memory }) c.in_ok-standing.standing
    c.in_ok-standing.ensures.there c.in_ok-standing.ensures.order c.in_ok-standing.ensures.held c.in_ok-standing.ensures.kept
