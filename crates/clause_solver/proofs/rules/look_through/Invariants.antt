use Rattle.std.proofs.Common.{◌≡◌, drop}
use Rattle.std.specs.Prelude.{IfSome}
use Rattle.refute_check.specs.Machine.{status}
use Rattle.clause_solver.proofs.Statuses.{with_unset, IsPlace}
use Rattle.clause_solver.proofs.rules.look_through.Given as goal

abbrev pub invariant-loop-literal : goal.invariant-loop-literal
invariant-loop-literal l = record {
  status : status l.trail l.clause ≡ with_unset l.unset (status l.trail (drop l.literal-index l.clause));
  place : IfSome l.unset (λ first. IsPlace l.trail l.clause l.literal-index first);
}
