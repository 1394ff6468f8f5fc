use Rattle.std.proofs.Common.{◌≡◌, ◌≤◌, drop}
use Rattle.wasm_check.specs.code.Counts.{leaves_one}
use Rattle.wasm_check.proofs.constants.leaves_one.Given as goal

abbrev pub invariant-loop-instr : goal.invariant-loop-instr
invariant-loop-instr l = (l.depth ≤ l.instr-index) × (leaves_one l.funcs l.globals l.kind (drop l.instr-index l.instrs) l.depth ≡ leaves_one l.funcs l.globals l.kind l.instrs 0)
