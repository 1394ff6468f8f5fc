use Rattle.wasm_start.proofs.StartLemmas.{ElemsSoFar}
use Rattle.wasm_start.proofs.segments.start_elems.Given as goal

abbrev pub invariant-loop-k : goal.invariant-loop-k
invariant-loop-k l = ElemsSoFar l.m l.initial.p l.p l.k
