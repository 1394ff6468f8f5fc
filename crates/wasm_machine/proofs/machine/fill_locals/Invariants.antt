use Rattle.std.proofs.Common.{◌≡◌, ◌++◌, take}
use Rattle.wasm_machine.specs.Values.{first_locals_of}
use Rattle.wasm_machine.proofs.machine.fill_locals.Given as goal

abbrev pub invariant-loop-group : goal.invariant-loop-group
invariant-loop-group g l = l.locals.items ≡ l.initial.locals.items ++ first_locals_of l.zero (take l.group-index l.f.locals)
