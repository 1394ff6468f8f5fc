use Rattle.wasm_start.proofs.StartLemmas.{PagesSoFar}
use Rattle.wasm_start.proofs.start.memory_pages.Given as goal

abbrev pub invariant-loop-limits : goal.invariant-loop-limits
invariant-loop-limits l = PagesSoFar l.m l.limits-index l.pages
