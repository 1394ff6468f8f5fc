use Rattle.std.proofs.Common.{◌<◌, ◌*◌, ◌%◌, ◌^◌, arith, refl, ap, ◌∙◌}
use Rattle.bit_blast.specs.Blocks.{moved}
use Rattle.bit_blast.proofs.BlockLoops.{places, move-next}
use Rattle.bit_blast.proofs.blocks.move_by.Goals as goal

pub loop-i-preserved : goal.loop-i-preserved
loop-i-preserved c =
    let few : c.loop-i.i < 6 = omega (arith, c.loop-i-test.true, c.requires) in
    move-next c.args.kind c.args.amounts.now c.loop-i.i _ c.loop-i.bits c.as_slice-in-loop-i-2.result.now c.as_slice-in-loop-i.result.now c.in_ok-bits-2.bits
    c.loop-i.netlist c.muxes.new.netlist c.loop-i-test.true refl c.as_slice-in-loop-i-2.ensures
    (c.as_slice-in-loop-i.ensures ∙ c.in_ok-apart.ensures ∙ ap (λ xs. moved c.args.kind (1 * 2 ^ c.loop-i.i % 2 ^ 64) xs) c.as_slice.ensures ∙ ap (λ p. moved c.args.kind p c.loop-i.bits) (places c.loop-i.i few))
    c.in_ok-bits-2.ensures
    ∙ c.loop-i.invariant
