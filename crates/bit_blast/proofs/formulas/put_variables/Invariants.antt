use Rattle.std.proofs.Common.{◌≡◌, ◌+◌, ◌-◌, ◌++◌}
use Rattle.bit_blast.specs.Formulas.{variables_from}
use Rattle.bit_blast.proofs.formulas.put_variables.Given as goal

abbrev pub invariant-loop-i : goal.invariant-loop-i
invariant-loop-i l = l.order ++ variables_from (l.from + l.i) (l.count - l.i) ≡ l.fn.order ++ variables_from l.from l.count
