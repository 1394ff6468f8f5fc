-- The clause machine. It looks for an assignment that meets all clauses, and learns a clause from each conflict, as in
-- conflict-driven clause learning (Marques-Silva and Sakallah, GRASP: A Search Algorithm for Propositional
-- Satisfiability, 1999). It always decides on false, so that the assignment that it finds is the least.
use Rattle.std.specs.Prelude.{ℕ, zero, suc, Bool, true, false, ◌==◌, nat_lt, max, if◌then◌else◌, List, [], ◌∷◌, ◌++◌, Option, Some, None}
use Rattle.std.specs.List.{list_any}
use Rattle.refute_check.specs.Clauses.{Clause, Assignment, variable_of, sign_of, negative}
use Rattle.refute_check.specs.Logs.{after_step}
use Rattle.refute_check.specs.declared.logs.Chain.{Chain}

-- ---- the trail

-- A true literal, with its level. The reason is the number of the clause that forced it, or None where it was decided.
pub record Entry : Type 0 where
  pub literal : ℕ
  pub level : ℕ
  pub reason : Option ℕ

-- the literals that are true so far, the latest first
abbrev pub Trail : Type 0
Trail = List Entry

abbrev pub entry_of : Trail → ℕ → Option Entry
entry_of [] variable = None
entry_of (entry ∷ trail) variable =
    if variable_of entry.literal == variable then Some entry else entry_of trail variable

pub data Value : Type 0 where
  True : Value
  False : Value
  Unset : Value

abbrev pub value_at : ℕ → Option Entry → Value
value_at literal None = Unset
value_at literal (Some entry) = if entry.literal == literal then True else False

-- the value of a literal
abbrev pub value_of : Trail → ℕ → Value
value_of trail literal = value_at literal (entry_of trail (variable_of literal))

-- the present level, which is the highest
abbrev pub level_now : Trail → ℕ
level_now [] = 0
level_now (entry ∷ trail) = entry.level

abbrev pub level_at : Option Entry → ℕ
level_at None = 0
level_at (Some entry) = entry.level

-- the level of a literal's variable
abbrev pub level_of : Trail → ℕ → ℕ
level_of trail literal = level_at (entry_of trail (variable_of literal))

abbrev pub decided_or : Option ℕ → Bool → Bool
decided_or None rest = true
decided_or (Some reason) rest = rest

-- whether some literal was decided
abbrev pub has_decision : Trail → Bool
has_decision [] = false
has_decision (entry ∷ trail) = decided_or entry.reason (has_decision trail)

-- the trail up to a level
abbrev pub cut : ℕ → Trail → Trail
cut level [] = []
cut level (entry ∷ trail) = if nat_lt level entry.level then cut level trail else entry ∷ trail

-- the values of the trail, and false for what it leaves open
abbrev pub value_in : Option Entry → Bool
value_in None = false
value_in (Some entry) = sign_of entry.literal

abbrev pub assigned : Trail → Assignment
assigned trail variable = value_in (entry_of trail variable)

-- ---- what the clauses are on a trail

-- A clause is falsified where all its literals are false. It forces a literal where that is its only unset one, and
-- none is true.
pub data Status : Type 0 where
  Falsified : Status
  Forces : ℕ → Status
  Idle : Status

abbrev pub status_with : Value → ℕ → Status → Status
status_with True literal rest = Idle
status_with False literal rest = rest
status_with Unset literal Falsified = Forces literal
status_with Unset literal (Forces other) = Idle
status_with Unset literal Idle = Idle

abbrev pub status : Trail → Clause → Status
status trail [] = Falsified
status trail (literal ∷ rest) = status_with (value_of trail literal) literal (status trail rest)

abbrev pub falsified_with : Status → ℕ × Clause → Option (ℕ × Clause) → Option (ℕ × Clause)
falsified_with Falsified found later = Some found
falsified_with (Forces literal) found later = later
falsified_with Idle found later = later

-- the falsified clause of least number, where the clauses are numbered from this one on
abbrev pub falsified : Trail → ℕ → List Clause → Option (ℕ × Clause)
falsified trail number [] = None
falsified trail number (clause ∷ clauses) =
    falsified_with (status trail clause) (number, clause) (falsified trail (suc number) clauses)

abbrev pub forced_with : Status → ℕ → Option (ℕ × ℕ) → Option (ℕ × ℕ)
forced_with Falsified number later = later
forced_with (Forces literal) number later = Some (number, literal)
forced_with Idle number later = later

-- the forcing clause of least number, and the literal that it forces
abbrev pub forced : Trail → ℕ → List Clause → Option (ℕ × ℕ)
forced trail number [] = None
forced trail number (clause ∷ clauses) =
    forced_with (status trail clause) number (forced trail (suc number) clauses)

abbrev pub unset_with : Option Entry → ℕ → Option ℕ → Option ℕ
unset_with None variable later = Some variable
unset_with (Some entry) variable later = later

-- the first variable of the order that isn't on the trail
abbrev pub unset : Trail → List ℕ → Option ℕ
unset trail [] = None
unset trail (variable ∷ order) = unset_with (entry_of trail variable) variable (unset trail order)

-- ---- conflicts

-- how many literals have this level
abbrev pub count_at : Trail → ℕ → Clause → ℕ
count_at trail level [] = 0
count_at trail level (literal ∷ rest) =
    if level_of trail literal == level then suc (count_at trail level rest) else count_at trail level rest

-- the highest level of the other literals, 0 where there is none
abbrev pub highest_but : Trail → ℕ → Clause → ℕ
highest_but trail level [] = 0
highest_but trail level (literal ∷ rest) =
    if level_of trail literal == level then highest_but trail level rest
    else max (level_of trail literal) (highest_but trail level rest)

-- whether the clause holds a literal of this variable
abbrev pub has_variable : ℕ → Clause → Bool
has_variable variable clause = list_any (λ literal. variable_of literal == variable) clause

-- a clause, and the steps that led to it
pub record Learnt : Type 0 where
  pub clause : Clause
  pub steps : List (ℕ × ℕ)

abbrev pub stays : Clause → Learnt
stays clause = record { clause = clause; steps = [] }

abbrev pub and_before : ℕ × ℕ → Learnt → Learnt
and_before step learnt = record { clause = learnt.clause; steps = step ∷ learnt.steps }

abbrev pub resolved_with : Option Clause → ℕ × ℕ → Clause → (Clause → Learnt) → Learnt
resolved_with None step clause on = stays clause
resolved_with (Some next) step clause on = and_before step (on next)

abbrev pub by_reason : List Clause → Option ℕ → ℕ → Clause → (Clause → Learnt) → Learnt
by_reason clauses None variable clause on = stays clause
by_reason clauses (Some reason) variable clause on =
    resolved_with (after_step clauses (reason, variable) clause) (reason, variable) clause on

-- Until it has come far enough, the clause is resolved with the reason of the latest variable on the trail that it holds.
abbrev pub analysed : List Clause → (Clause → Bool) → Trail → Clause → Learnt
analysed clauses enough [] clause = stays clause
analysed clauses enough (entry ∷ trail) clause =
    if enough clause then stays clause
    else (if has_variable (variable_of entry.literal) clause
    then by_reason clauses entry.reason (variable_of entry.literal) clause (λ next. analysed clauses enough trail next)
    else analysed clauses enough trail clause)

-- A clause is learnt once it has no more than one literal of the last level. Those variables are the latest on the
-- trail, so that the analysis meets no other before.
abbrev pub is_learnt : Trail → Clause → Bool
is_learnt trail clause = nat_lt (count_at trail (level_now trail) clause) 2

abbrev pub is_empty : Clause → Bool
is_empty [] = true
is_empty (literal ∷ rest) = false

abbrev pub chain_of : ℕ → Learnt → Chain
chain_of start learnt = record { start = start; steps = learnt.steps }

-- ---- the machine

pub record State : Type 0 where
  pub clauses : List Clause
  pub trail : Trail
  pub log : List Chain
  pub conflicts : ℕ

-- it goes on, or has found an assignment, or a log that refutes the clauses, or has spent its conflicts
pub data Turn : Type 0 where
  On : State → Turn
  Model : Trail → Turn
  Refuted : List Chain → Turn
  Spent : Turn

-- the trail is cut to the highest level of the learnt clause's other literals, and the clause is appended
abbrev pub learn : ℕ → State → Learnt → Turn
learn number state learnt = On (record {
  clauses = state.clauses ++ learnt.clause ∷ [];
  trail = cut (highest_but state.trail (level_now state.trail) learnt.clause) state.trail;
  log = state.log ++ chain_of number learnt ∷ [];
  conflicts = suc state.conflicts;
})

-- rule 1: a clause is falsified
abbrev pub conflict : ℕ → State → ℕ × Clause → Turn
conflict bound state (number, clause) =
    if has_decision state.trail
    then (if nat_lt (suc state.conflicts) bound
    then learn number state (analysed state.clauses (is_learnt state.trail) state.trail clause)
    else Spent)
    else Refuted (state.log ++ chain_of number (analysed state.clauses is_empty state.trail clause) ∷ [])

abbrev pub puts : State → Entry → Turn
puts state entry = On (record {
  clauses = state.clauses;
  trail = entry ∷ state.trail;
  log = state.log;
  conflicts = state.conflicts;
})

-- rules 3 and 4: the first variable that is unset is decided to be false, or there is none
abbrev pub decide : State → Option ℕ → Turn
decide state None = Model state.trail
decide state (Some variable) =
    puts state (record { literal = negative variable; level = suc (level_now state.trail); reason = None })

-- rule 2: a clause forces its last literal
abbrev pub force : List ℕ → State → Option (ℕ × ℕ) → Turn
force order state None = decide state (unset state.trail order)
force order state (Some (number, literal)) =
    puts state (record { literal = literal; level = level_now state.trail; reason = Some number })

abbrev pub turn_by : List ℕ → ℕ → State → Option (ℕ × Clause) → Turn
turn_by order bound state None = force order state (forced state.trail 0 state.clauses)
turn_by order bound state (Some found) = conflict bound state found

-- the first rule that fits
abbrev pub turn : List ℕ → ℕ → State → Turn
turn order bound state = turn_by order bound state (falsified state.trail 0 state.clauses)

abbrev pub then_turn : Turn → (State → Turn) → Turn
then_turn (On state) on = on state
then_turn (Model trail) on = Model trail
then_turn (Refuted log) on = Refuted log
then_turn Spent on = Spent

-- so many turns, or those up to an answer
abbrev pub turns : List ℕ → ℕ → ℕ → State → Turn
turns order bound zero state = On state
turns order bound (suc count) state = then_turn (turn order bound state) (λ next. turns order bound count next)

abbrev pub start : List Clause → State
start clauses = record { clauses = clauses; trail = []; log = []; conflicts = 0 }
