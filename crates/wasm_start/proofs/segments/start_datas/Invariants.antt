use Rattle.wasm_start.proofs.StartLemmas.{DatasSoFar}
use Rattle.wasm_start.proofs.segments.start_datas.Given as goal

abbrev pub invariant-loop-k : goal.invariant-loop-k
invariant-loop-k g l = DatasSoFar g.M.Memory.plain l.m l.initial.p (g.M.Memory.cells l.initial.memory) l.p (g.M.Memory.cells l.memory) l.k
