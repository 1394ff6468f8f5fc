-- The code's state and turns as the machine's.
use Rattle.std.specs.Prelude.{◌≡◌, ℕ, List, length, take, IsTrue}
use Rattle.refute_check.specs.Machine as machine
use Rattle.refute_check.specs.Rising.{IsLevelled}
use Rattle.clause_solver.specs.code.Places.{IsOnce}
use Rattle.clause_solver.specs.code.Guarding.{IsSettled}
use Rattle.clause_solver.specs.code.Renewing.{IsSound}
use Rattle.clause_solver.specs.code.Watching.{AllSet}
use Rattle.clause_solver.specs.declared.machine.State.{State}
use Rattle.clause_solver.specs.declared.machine.Turned.{Turned}
use Rattle.clause_solver.specs.declared.machine.Turned.TheVariants.{On, Model, Refuted, Spent}

abbrev pub seen : State → machine.State
seen state = record { clauses = state.clauses; trail = state.trail; log = state.log; conflicts = state.conflicts }

-- All clauses are kept, so many variables of the order are set, and before each decision all clauses were guarded, where
-- that is known.
pub record IsWatched (order : List ℕ) (state : State) : Type 0 where
  pub sound : IsSound state.trail state.clauses state.watches (length state.clauses)
  pub set : AllSet state.trail (take state.ahead order)
  pub levelled : IsLevelled state.trail
  pub once : IsOnce state.trail
  pub settled : IsTrue state.settled → IsSettled state.trail state.clauses state.watches.pairs.items

-- what the turn came to, where this is the state after it
abbrev pub IsTurn : Turned → State → machine.Turn → Type 0
IsTurn On state turn = turn ≡ machine.On (seen state)
IsTurn Model state turn = turn ≡ machine.Model state.trail
IsTurn Refuted state turn = turn ≡ machine.Refuted state.log
IsTurn Spent state turn = turn ≡ machine.Spent
