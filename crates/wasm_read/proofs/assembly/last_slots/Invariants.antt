use Rattle.std.proofs.Common.{◌≡◌, ℕ, ◌<◌, length, get_or}
use Rattle.wasm_binary.specs.Modules.{last_written}
use Rattle.wasm_read.proofs.assembly.last_slots.Given as goal

abbrev pub invariant-loop-slot : goal.invariant-loop-slot
invariant-loop-slot l = (length l.lasts ≡ 13) × ((k : ℕ) → k < l.slot → get_or l.lasts k 0 ≡ last_written l.m k)
