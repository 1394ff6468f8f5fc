use Rattle.std.proofs.Common.{◌≡◌, subst, map}
use Rattle.std.specs.Prelude.{slice_get, Some, None}
use Rattle.wasm_machine.specs.Configurations.{code_of}
use Rattle.wasm_machine.proofs.StepLaws.{wide-state, small-state, ready-cells, next-is, next-in-range, next-steps, end-steps}
use Rattle.wasm_machine.proofs.step.step_inside.Goals as goal

pub carry_out-requires : goal.carry_out-requires
carry_out-requires g c =
    let there = subst (λ m. slice_get (code_of m c.args.s.now.entry (Some c.args.f) c.args.s.now.frame.here.seq) c.args.s.now.frame.here.place ≡ Some c.in-Some.i.now) c.module.ensures.module c.in-Some.ensures.there in
    let next = next-is c.args.image.now c.args.s.now c.args.f c.in-Some.i.now c.requires.inside there in
    record {
      ready = record { sane = c.requires.sane; wide = wide-state g.A.Algebra.Has (g.A.Algebra.means c.args.a.now) c.args.image.now (map (g.A.Algebra.means c.args.a.now) (g.M.Memory.cells c.args.memory.now)) c.args.s.now c.requires.widths; place = c.in-Some.ensures.room; units = c.requires.units };
      cells = ready-cells g.A.Algebra.holds g.A.Algebra.Has g.A.Algebra.means c.args.image.now c.args.a.now c.args.s.now (g.M.Memory.cells c.args.memory.now) c.requires.cells c.requires.widths;
      small = small-state g.A.Algebra.Has (g.A.Algebra.means c.args.a.now) c.args.image.now (map (g.A.Algebra.means c.args.a.now) (g.M.Memory.cells c.args.memory.now)) c.args.s.now c.requires.widths;
      linked = c.requires.linked;
      next = next;
      range = next-in-range g.A.Algebra.Has (g.A.Algebra.means c.args.a.now) c.args.image.now (map (g.A.Algebra.means c.args.a.now) (g.M.Memory.cells c.args.memory.now)) c.args.s.now c.in-Some.i.now next c.requires.widths;
    }

pub returns-in_ok-x-in-None-clause-steps : goal.returns-in_ok-x-in-None-clause-steps
returns-in_ok-x-in-None-clause-steps g c = end-steps g.A.Algebra.holds g.A.Algebra.means g.A.Algebra.kind c.args.image.now c.args.a.now c.args.s.now c.end.new.s (g.M.Memory.cells c.args.memory.now) c.in_ok-x-in-None.x c.args.f c.requires.inside
    (subst (λ m. slice_get (code_of m c.args.s.now.entry (Some c.args.f) c.args.s.now.frame.here.seq) c.args.s.now.frame.here.place ≡ None) c.module.ensures.module c.in-None.ensures.there) c.requires.cells (c.in_ok-x-in-None.ensures c.args.image.now)

pub returns-in_ok-x-in-Some-clause-steps : goal.returns-in_ok-x-in-Some-clause-steps
returns-in_ok-x-in-Some-clause-steps g c = next-steps g.A.Algebra.holds g.A.Algebra.means g.A.Algebra.kind c.args.image.now c.in-Some.i.now c.args.a.now c.carry_out.new.a c.args.s.now c.carry_out.new.s (g.M.Memory.cells c.args.memory.now) (g.M.Memory.cells c.carry_out.new.memory) c.in_ok-x-in-Some.x
    (next-is c.args.image.now c.args.s.now c.args.f c.in-Some.i.now c.requires.inside (subst (λ m. slice_get (code_of m c.args.s.now.entry (Some c.args.f) c.args.s.now.frame.here.seq) c.args.s.now.frame.here.place ≡ Some c.in-Some.i.now) c.module.ensures.module c.in-Some.ensures.there))
    c.in_ok-x-in-Some.ensures.acts
