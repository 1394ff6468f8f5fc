use Rattle.std.proofs.Common.{◌≡◌, drop}
use Rattle.wasm_machine.specs.code.Choices.{choice_of}
use Rattle.wasm_machine.proofs.branches.choose.Given as goal

abbrev pub invariant-loop-k : goal.invariant-loop-k
invariant-loop-k l = choice_of l.labels l.last l.answers 0 ≡ choice_of (drop l.k l.labels) l.last (drop l.k l.answers) l.k
