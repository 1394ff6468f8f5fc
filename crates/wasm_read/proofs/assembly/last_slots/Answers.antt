use Rattle.std.proofs.Common.{◌<◌, ◌≢◌, ◌∙◌, length, arith, get_or-set_other, get_or-set_same, below_more}
use Rattle.std.proofs.Math.ListN.{length-set}
use Rattle.wasm_read.proofs.assembly.last_slots.Goals as goal

pub loop-slot-preserved : goal.loop-slot-preserved
loop-slot-preserved c = (
  length-set c.loop-slot.lasts c.loop-slot.slot c.last_up_to.result ∙ c.loop-slot.invariant.0,
  below_more _ _
      (λ k h. let ne : k ≢ c.loop-slot.slot = omega arith in rw get_or-set_other (c.loop-slot.invariant.1 k h))
      (let lt : c.loop-slot.slot < length c.loop-slot.lasts = omega arith in rw get_or-set_same c.last_up_to.ensures),
)
