use Rattle.std.proofs.Common.{take}
use Rattle.wasm_image.specs.Sizes.{AreAtMost}
use Rattle.wasm_image.proofs.sizes.large_memory.Given as goal

abbrev pub invariant-loop-limits : goal.invariant-loop-limits
invariant-loop-limits l = AreAtMost l.bound (take l.limits-index l.memories)
