use Rattle.std.proofs.Common.{ℕ, ◌≤◌}
use Rattle.refute_check.specs.Orders.{Names}
use Rattle.clause_rows.proofs.places.names_each.Given as goal

abbrev pub invariant-loop-before : goal.invariant-loop-before
invariant-loop-before l = (variable : ℕ) → 1 ≤ variable → variable ≤ l.before → Names l.order variable
