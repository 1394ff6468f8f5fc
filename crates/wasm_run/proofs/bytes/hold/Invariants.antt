use Rattle.std.proofs.Common.{◌≡◌, ◌/◌, length}
use Rattle.wasm_reduction.specs.Memories.{page_bytes}
use Rattle.wasm_run.proofs.PageLemmas.{HeldSoFar}
use Rattle.wasm_run.proofs.bytes.hold.Given as goal

abbrev pub invariant-loop-k : goal.invariant-loop-k
invariant-loop-k l = (length l.pages ≡ length l.initial.pages) × HeldSoFar l.initial.pages (l.at / page_bytes) l.k l.pages
