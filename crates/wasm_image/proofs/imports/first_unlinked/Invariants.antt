use Rattle.std.proofs.Common.{take}
use Rattle.std.specs.Prelude.{All}
use Rattle.wasm_image.specs.Hosts.{IsLinked}
use Rattle.wasm_image.proofs.imports.first_unlinked.Given as goal

-- the imports so far are host functions
abbrev pub invariant-loop-k : goal.invariant-loop-k
invariant-loop-k l = All (IsLinked l.m) (take l.k l.m.imports)
