use Rattle.std.proofs.Common.{◌≡◌, ℕ, take}
use Rattle.std.specs.Prelude.{true}
use Rattle.refute_check.specs.Resolution.{has}
use Rattle.refute_check.specs.Machine.{level_of}
use Rattle.clause_solver.proofs.watches.literal_at.Given as goal

abbrev pub invariant-loop-literal : goal.invariant-loop-literal
invariant-loop-literal l = (any : ℕ) → has (take l.literal-index l.clause) any ≡ true → level_of l.trail any ≡ l.level → ⊥
