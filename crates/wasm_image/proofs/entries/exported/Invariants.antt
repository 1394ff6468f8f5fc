use Rattle.wasm_image.proofs.EntryLemmas.{NoneBelow}
use Rattle.wasm_image.proofs.entries.exported.Given as goal

-- no export so far is of a function by this name
abbrev pub invariant-loop-export : goal.invariant-loop-export
invariant-loop-export l = NoneBelow l.m l.name l.export-index
