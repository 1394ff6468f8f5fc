use Rattle.std.proofs.Common.{◌≡◌, take, drop}
use Rattle.wasm_machine.proofs.memory.Memory.read.Given as goal

abbrev pub invariant-loop-i : goal.invariant-loop-i
invariant-loop-i g l = record { so_far : take l.i l.out ≡ take l.i (drop l.at (g.Self.Memory.cells l.self)) }
