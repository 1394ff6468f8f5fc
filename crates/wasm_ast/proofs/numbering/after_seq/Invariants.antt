use Rattle.std.proofs.Common.{◌≡◌, drop}
use Rattle.wasm_ast.specs.Numbering.{after, names}
use Rattle.wasm_ast.proofs.numbering.after_seq.Given as goal

-- the names that are left lead on from here as all the names do from the first number
abbrev pub invariant-loop-instr : goal.invariant-loop-instr
invariant-loop-instr l = after l.ends (names (drop l.instr-index l.instrs)) l.at ≡ after l.ends (names l.instrs) l.fn.at
