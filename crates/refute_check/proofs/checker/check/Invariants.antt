use Rattle.refute_check.proofs.Checked.{HasChecked}
use Rattle.refute_check.proofs.checker.check.Given as goal

abbrev pub invariant-loop-number : goal.invariant-loop-number
invariant-loop-number l = HasChecked l.clauses l.log l.results l.closed l.number
