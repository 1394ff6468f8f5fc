use Rattle.std.proofs.Common.{◌≡◌, ◌-◌, ◌+◌, ℕ, length, map}
use Rattle.std.specs.Prelude.{Vec}
use Rattle.std.specs.Global.{Global}
use Rattle.clause_solver.specs.code.Watching.{listed}
use Rattle.clause_solver.proofs.lists.make_lists.Given as goal

abbrev pub invariant-loop-alloc : goal.invariant-loop-alloc
invariant-loop-alloc l = (other : ℕ) → listed (map (λ (list : Vec ℕ Global). list.items) l.lists.items) other ≡ listed (map (λ (list : Vec ℕ Global). list.items) l.fn.lists.items) other

abbrev pub decreases-loop-alloc : goal.decreases-loop-alloc
decreases-loop-alloc l = l.at + 1 - length l.lists.items
