use Rattle.std.proofs.Common.{sym, map}
use Rattle.wasm_machine.proofs.StepLaws.{anyhow-steps}
use Rattle.wasm_machine.proofs.step.step.Goals as goal

pub step_outside-requires-clause-widths : goal.step_outside-requires-clause-widths
step_outside-requires-clause-widths g c = (map (g.A.Algebra.means c.args.a.now) (g.M.Memory.cells c.args.memory.now), c.requires.widths)

pub step_outside-requires-clause-outside : goal.step_outside-requires-clause-outside
step_outside-requires-clause-outside g c = sym c.in-None.ensures

pub step_inside-requires-clause-inside : goal.step_inside-requires-clause-inside
step_inside-requires-clause-inside g c = sym c.in-Some.ensures

pub returns-in_ok-x-in-None-clause-steps : goal.returns-in_ok-x-in-None-clause-steps
returns-in_ok-x-in-None-clause-steps g c = anyhow-steps g.A.Algebra.holds g.A.Algebra.means g.A.Algebra.kind c.args.image.now c.args.a.now c.step_outside.new.a c.in_ok-x-in-None.ensures.kept c.args.s.now c.step_outside.new.s (g.M.Memory.cells c.args.memory.now) c.in_ok-x-in-None.x c.requires.cells c.in_ok-x-in-None.ensures.steps
