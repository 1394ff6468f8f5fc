use Rattle.std.proofs.Common.{reverse}
use Rattle.wasm_check.specs.code.Progress.{HasCome}
use Rattle.wasm_check.specs.code.Kept.{context}
use Rattle.wasm_check.specs.code.Runs.{open_seqs}
use Rattle.wasm_check.proofs.body.find_fault.Given as goal

abbrev pub invariant-loop-at : goal.invariant-loop-at
invariant-loop-at l = HasCome (context l.scope) l.code (reverse l.walker.open.items) (open_seqs l.scope.types l.seqs.items) l.at
