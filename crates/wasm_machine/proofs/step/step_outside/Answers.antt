use Rattle.std.proofs.Common.{ap, ◌∙◌}
use Rattle.wasm_machine.specs.Configurations.{outer_call_of}
use Rattle.wasm_machine.proofs.StepLaws.{wide-state, outer-place, call-steps, over-steps}
use Rattle.wasm_machine.proofs.step.step_outside.Goals as goal

pub call-requires-clause-ready : goal.call-requires-clause-ready
call-requires-clause-ready g c = record {
  sane = c.requires.sane;
  wide = wide-state g.A.Algebra.Has (g.A.Algebra.means c.args.a.now) c.args.image.now c.requires.widths.0 c.args.s.now c.requires.widths.1;
  place = outer-place c.module.result.now.start c.args.s.now.entry c.args.s.now.frame.here.place c.in-Some.f c.in-Some.ensures;
  units = c.requires.units;
}

pub returns-in_ok-x-in-None-clause-steps : goal.returns-in_ok-x-in-None-clause-steps
returns-in_ok-x-in-None-clause-steps g c = over-steps g.A.Algebra.holds g.A.Algebra.means g.A.Algebra.kind c.args.image.now c.args.a.now c.args.s.now c.end.new.s c.in_ok-x-in-None.x c.requires.outside
    (c.in-None.ensures ∙ ap (λ m. outer_call_of m.start c.args.s.now.entry c.args.s.now.frame.here.place) c.module.ensures.module) (c.in_ok-x-in-None.ensures c.args.image.now)

pub returns-in_ok-x-in-Some-clause-steps : goal.returns-in_ok-x-in-Some-clause-steps
returns-in_ok-x-in-Some-clause-steps g c = call-steps g.A.Algebra.holds g.A.Algebra.means g.A.Algebra.kind c.args.image.now c.args.a.now c.call.new.a c.args.s.now c.call.new.s c.in-Some.f c.in_ok-x-in-Some.x c.requires.outside
    (c.in-Some.ensures ∙ ap (λ m. outer_call_of m.start c.args.s.now.entry c.args.s.now.frame.here.place) c.module.ensures.module) c.in_ok-x-in-Some.ensures.acts
