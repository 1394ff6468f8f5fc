use Rattle.std.proofs.Common.{◌++◌}
use Rattle.refute_check.proofs.Chains.{HasCome}
use Rattle.refute_check.proofs.resolution.result.Given as goal

abbrev pub invariant-loop-number : goal.invariant-loop-number
invariant-loop-number l = HasCome (l.clauses ++ l.results) l.chain l.literals.keys l.number-index
