use Rattle.std.proofs.Common.{◌-◌, arith}
use Rattle.std.specs.Prelude.{slice_index}
use Rattle.bv_terms.proofs.GraphLemmas.{length-terms_of}
use Rattle.bv_terms.proofs.WalkLemmas.{walk-start, steps-pop, walked, IsOpen}
use Rattle.bv_terms.proofs.values.walk.Goals as goal

pub loop-depth-init : goal.loop-depth-init
loop-depth-init c =
    walk-start c.args.g.now c.args.input.now c.args.t c.args.round c.args.rounds.now c.args.values.now c.args.stack.now c.requires.held c.requires.room c.requires.values_long c.requires.stack_long c.requires.fresh

pub loop-depth-smaller-in-Ok : goal.loop-depth-smaller-in-Ok
loop-depth-smaller-in-Ok c =
    let top : IsOpen c.args.g.now c.args.round c.loop-depth.rounds (c.loop-depth.depth - 1) (slice_index c.loop-depth.stack (c.loop-depth.depth - 1)) =
    c.loop-depth.invariant.entries (c.loop-depth.depth - 1) (omega arith) in
    steps-pop c.args.round c.loop-depth.rounds c.loop-depth.stack c.loop-depth.depth (slice_index c.loop-depth.stack (c.loop-depth.depth - 1) - 256) c.loop-depth-test.true
    c.loop-depth.invariant.within (omega (arith, top.low, top.below, c.loop-depth.invariant.all.long, length-terms_of c.args.g.now.forms)) top.open_yet

pub returns-clause-value : goal.returns-clause-value
returns-clause-value c =
    walked c.args.g.now c.args.input.now c.args.t c.args.round c.loop-depth.rounds c.loop-depth.values c.loop-depth.stack c.loop-depth.depth c.loop-depth.invariant
    (omega (arith, c.loop-depth-test.false)) c.requires.held
