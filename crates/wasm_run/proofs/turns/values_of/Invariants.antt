use Rattle.std.proofs.Common.{◌≡◌, map, take}
use Rattle.wasm_reduction.specs.Runs.{plain_value}
use Rattle.wasm_machine.specs.Values.{value}
use Rattle.wasm_run.proofs.turns.values_of.Given as goal

abbrev pub invariant-loop-v : goal.invariant-loop-v
invariant-loop-v l = l.values.items ≡ map plain_value (map (value (λ n. n)) (take l.v-index l.words))
