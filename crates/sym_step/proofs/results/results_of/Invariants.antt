use Rattle.std.specs.Prelude.{◌≡◌, map, take}
use Rattle.sym_step.specs.code.Ends.{given_of}
use Rattle.sym_step.proofs.results.results_of.Given as goal

abbrev pub invariant-loop-v : goal.invariant-loop-v
invariant-loop-v l = l.results.items ≡ map given_of (take l.v-index l.values)
