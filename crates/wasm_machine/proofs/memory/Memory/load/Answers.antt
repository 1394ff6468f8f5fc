use Rattle.std.proofs.Common.{arith}
use Rattle.wasm_machine.proofs.CellLemmas.{load_some}
use Rattle.wasm_machine.proofs.memory.Memory.load.Goals as goal

pub get-buffer-requires : goal.get-buffer-requires
get-buffer-requires g c = omega (arith, c.requires.within, load_some c.args.op c.in-Some.access c.in-Some.ensures)
