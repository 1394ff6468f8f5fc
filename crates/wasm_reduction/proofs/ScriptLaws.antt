-- Each bounded run has one script; where the run stands after the first answers of its script.
use Rattle.std.proofs.Common.{◌≡◌, ℕ, zero, suc, List, [], ◌∷◌, ◌++◌, length, refl, sym, ap, ◌∙◌, subst, append_assoc, append-nil}
use Rattle.std.specs.Prelude.{Bool, true, false, Option, Some, None, option_map, Result, Ok, Err}
use Rattle.wasm_ast.specs.declared.modules.Module.{Module}
use Rattle.wasm_ast.specs.declared.runs.Value.{Value as Argument}
use Rattle.wasm_ast.specs.declared.runs.Outcome.{Outcome}
use Rattle.wasm_ast.specs.declared.runs.Draw.{Draw}
use Rattle.wasm_rules.specs.Words.{numbers, taken}
use Rattle.wasm_reduction.specs.Configurations.{Config, Question, End}
use Rattle.wasm_reduction.specs.Instantiation.{first_config}
use Rattle.wasm_reduction.specs.Runs.{Trace, Going, Halt, Stands, Ended, Bound, Deep, Turned, On, Over, follow_by, follow, then_follow, follows, started_by, started, answer_of, by_value, by_list, outcome_of, draws_from, Run, run_of, runs_at, IsRun}
use Rattle.wasm_reduction.specs.RunImages.{trace_of, IsAnswered, BeginsWith}
use Rattle.wasm_reduction.specs.Scripts.{Script, Finished, Asked, drawn, answers_in, told_after, told, IsFirst, ComesTo, IsScriptAfter, IsScript, Through, After, Past, SameFirst, StandsAt}
use Rattle.wasm_reduction.proofs.WideStarts.{map-of}
use Rattle.wasm_reduction.proofs.ListedRuns.{begins-unasked, runs-there, turn-asks}
use Rattle.wasm_reduction.proofs.ScriptRuns.{on, follows-out, Listed, Valued, Start, listed-agree, first-of, comes-of, Reached, from-reached, Passed, pass, stands-at, start-empty, turn-out, past-question, begins-reached, at-once, next-turn, end-answered, script-told}

-- ---- scripts alone

pub same-first-itself : (s : Script) → SameFirst s s
same-first-itself (Finished o d) = (refl, refl)
same-first-itself (Asked q v d s) = (refl, refl, refl)

-- what comes first is determined
pub firsts-same : (input : List ℕ) (halt : Halt ℕ) (trace : Trace) (s t : Script) → IsFirst input halt trace s → IsFirst input halt trace t → SameFirst s t
firsts-same input halt trace (Finished o d) (Finished p e) f g =
    let both : Some o ≡ Some p = sym f.0 ∙ g.0 in (cc, sym f.1 ∙ g.1)
firsts-same input halt trace (Finished o d) (Asked q v e t) f g =
    let both : Some o ≡ None = sym f.0 ∙ ap outcome_of g.0 in absurd cc
firsts-same input halt trace (Asked q v d s) (Finished p e) f g =
    let both : Some p ≡ None = sym g.0 ∙ ap outcome_of f.0 in absurd cc
firsts-same input halt trace (Asked q v d s) (Asked p w e t) f g =
    let both : Stands q v ≡ Stands p w = sym f.0 ∙ g.0 in (cc, cc, sym f.1 ∙ g.1)

module _ (Says : Question → ℕ → Type 0) where
  -- the answers of a script that begins with these
  pub through-answers : (A : List ℕ) (s left : Script) → Through Says A s left → answers_in s ≡ A ++ answers_in left
  through-answers [] s left h = ap answers_in h
  through-answers (a ∷ A) (Finished o d) left h = absurd h
  through-answers (a ∷ A) (Asked q v d s) left h = ap (λ a. a ∷ answers_in s) h.0 ∙ ap (λ l. a ∷ l) (through-answers A s left h.2)

-- an answer that lets the run go on is an answer
pub past-after : (A : List ℕ) (s left : Script) → Past A s left → After A s left
past-after [] s left h = h
past-after (a ∷ A) (Finished o d) left h = h
past-after (a ∷ A) (Asked q v d s) left h = (h.0, tt, past-after A s left h.2)

pub begins-after : (A : List ℕ) (s : Script) → BeginsWith (answers_in s) A → (left : Script) × After A s left
begins-after [] s h = (s, refl)
begins-after (a ∷ A) (Finished o d) h = let none : [] ≡ a ∷ (A ++ h.0) = h.1 in absurd cc
begins-after (a ∷ A) (Asked q v d s) h =
    let both : answer_of q v ∷ answers_in s ≡ a ∷ (A ++ h.0) = h.1 in
    let rest = begins-after A s (h.0, cc) in
    (rest.0, (cc, tt, rest.1))

pub told-answers : (A : List ℕ) (s : Script) → (told_after A s).answers ≡ A ++ answers_in s
told-answers A (Finished o d) = sym (append-nil A)
told-answers A (Asked q v d s) = told-answers (A ++ answer_of q v ∷ []) s ∙ append_assoc A (answer_of q v ∷ []) (answers_in s)

module _ (m : Module) (entry : ℕ) (args : List Argument) (input : List ℕ) (steps : ℕ) where
  abbrev IsAfter : List ℕ → Script → Type 0
  IsAfter A s = IsScriptAfter m entry args input steps A s

  abbrev L : List ℕ → ℕ → Turned ℕ
  L A n = Listed m entry args input steps A n

  abbrev To : List ℕ → Script → Type 0
  To A s = ComesTo m entry args input steps A s

  -- what is left is the script after the answers
  pub left-after : (Says : Question → ℕ → Type 0) (A B : List ℕ) (s left : Script) → IsAfter B s → Through Says A s left → IsAfter (B ++ A) left
  left-after Says [] B s left h e = subst (λ l. IsAfter l left) (sym (append-nil B)) (subst (IsAfter B) e h)
  left-after Says (a ∷ A) B (Finished o d) left h e = absurd e
  left-after Says (a ∷ A) B (Asked q v d s) left h e =
      let rest : IsAfter ((B ++ answer_of q v ∷ []) ++ A) left = left-after Says A (B ++ answer_of q v ∷ []) s left h.1 e.2 in
      subst (λ a. IsAfter (B ++ a ∷ A) left) e.0 (subst (λ l. IsAfter l left) (append_assoc B (answer_of q v ∷ []) A) rest)

  pub left-comes : (Says : Question → ℕ → Type 0) (A : List ℕ) (s left : Script) → IsScript m entry args input steps s → Through Says A s left → To A left
  left-comes Says A s left h e = comes-of m entry args input steps A left (left-after Says A [] s left h e)

  -- ---- one script

  firsts : (A : List ℕ) (s t : Script) → IsAfter A s → IsAfter A t → SameFirst s t
  firsts A s t h k =
      let c = comes-of m entry args input steps A s h in
      firsts-same input c.halt c.trace s t c.first (first-of m entry args input steps A t (comes-of m entry args input steps A t k) c.turns c.halt c.trace c.over)

  one-after : (s t : Script) (A : List ℕ) → IsAfter A s → IsAfter A t → s ≡ t
  one-after (Finished o d) (Finished p e) A h k = let f = firsts A (Finished o d) (Finished p e) h k in ap (λ o. Finished o d) f.0 ∙ ap (λ d. Finished p d) f.1
  one-after (Finished o d) (Asked q v e t) A h k = absurd (firsts A (Finished o d) (Asked q v e t) h k)
  one-after (Asked q v d s) (Finished p e) A h k = absurd (firsts A (Asked q v d s) (Finished p e) h k)
  one-after (Asked q v d s) (Asked p w e t) A h k =
      let f = firsts A (Asked q v d s) (Asked p w e t) h k in
      let answers : answer_of p w ≡ answer_of q v = ap (λ q. answer_of q w) (sym f.0) ∙ ap (answer_of q) (sym f.1) in
      let rest : s ≡ t = one-after s t (A ++ answer_of q v ∷ []) h.1 (subst (λ a. IsAfter (A ++ a ∷ []) t) answers k.1) in
      ap (λ q. Asked q v d s) f.0 ∙ ap (λ v. Asked p v d s) f.1 ∙ ap (λ d. Asked p w d s) f.2 ∙ ap (Asked p w e) rest

  pub one-script : (s t : Script) → IsScript m entry args input steps s → IsScript m entry args input steps t → s ≡ t
  one-script s t h k = one-after s t [] h k

  -- ---- a script of each run

  -- the run from here, which ends so
  abbrev RunFrom : List ℕ → Outcome → Trace → Run
  RunFrom A outcome trace = record { outcome = outcome; draws = draws_from input 0 trace.symbols; answers = trace.answers }

  abbrev Found : List ℕ → Outcome → Trace → Type 0
  Found A outcome trace = (s : Script) × IsAfter A s × (told_after A s ≡ RunFrom A outcome trace)

  more-listed : (A : List ℕ) (g : Going ℕ) → Reached m entry args input steps A g → (x : Turned ℕ) → follow numbers (taken input) (by_list A) m steps g ≡ x → (n : ℕ) × (L A n ≡ x)
  more-listed A g r x e =
      (suc r.listed.0, next-turn m entry args input steps (by_list A) (Start m entry args input steps) r.listed.0 ∙ ap (λ y. then_follow y (follow numbers (taken input) (by_list A) m steps)) r.listed.1 ∙ e)

  more-valued : (A : List ℕ) (g : Going ℕ) → Reached m entry args input steps A g → (x : Turned ℕ) → follow numbers (taken input) by_value m steps g ≡ x → (n : ℕ) × (Valued m entry args input steps n ≡ x)
  more-valued A g r x e =
      (suc r.valued.0, next-turn m entry args input steps by_value (Start m entry args input steps) r.valued.0 ∙ ap (λ y. then_follow y (follow numbers (taken input) by_value m steps)) r.valued.1 ∙ e)

  find : (n : ℕ) (A : List ℕ) (g : Going ℕ) → Reached m entry args input steps A g → (halt : Halt ℕ) (trace : Trace) (outcome : Outcome) → outcome_of halt ≡ Some outcome →
      follows numbers (taken input) by_value m steps n g ≡ Over halt trace → Found A outcome trace
  find zero A g r halt trace outcome o e = absurd cc
  find (suc n) A g r halt trace outcome o e = at (λ A g r e. find n A g r halt trace outcome o e) (follow numbers (taken input) (by_list A) m steps g) refl
    where
      done : (h : Halt ℕ) (t : Trace) → IsAnswered (Over h t) → follow numbers (taken input) (by_list A) m steps g ≡ Over h t → Found A outcome trace
      done h t answered is =
          let out = turn-out (taken input) m steps A g r.all (subst IsAnswered (sym is) answered) in
          let both : Over h t ≡ Over halt trace = sym (ap (λ x. then_follow x (follows numbers (taken input) by_value m steps n)) (out.0 ∙ is)) ∙ e in
          let all : trace.answers ≡ A = let same : t ≡ trace = cc in ap (λ t. t.answers) (sym same) ∙ ap (λ x. (trace_of x).answers) (sym is) ∙ out.1 in
          let over = more-listed A g r (Over halt trace) (is ∙ both) in (
            Finished outcome (draws_from input 0 trace.symbols),
            record { turns = over.0; halt = halt; trace = trace; over = over.1; first = (o, refl) },
            ap (λ l. record { outcome = outcome; draws = draws_from input 0 trace.symbols; answers = l }) (sym all),
          )

      at : ((A : List ℕ) (g : Going ℕ) → Reached m entry args input steps A g → follows numbers (taken input) by_value m steps n g ≡ Over halt trace → Found A outcome trace) →
          (x : Turned ℕ) → follow numbers (taken input) (by_list A) m steps g ≡ x → Found A outcome trace
      at rec (On t) is =
          let out = turn-out (taken input) m steps A g r.all (subst IsAnswered (sym is) tt) in
          rec A t (record { listed = more-listed A g r (On t) is; valued = more-valued A g r (On t) (out.0 ∙ is); all = ap (λ x. (trace_of x).answers) (sym is) ∙ out.1 })
          (sym (ap (λ x. then_follow x (follows numbers (taken input) by_value m steps n)) (out.0 ∙ is)) ∙ e)
      at rec (Over (Stands q v) t) is =
          let a = turn-asks numbers (taken input) m steps A g q v t is in
          let own : follow numbers (taken input) by_value m steps g ≡ On (on g q v) = a.0.1 by_value ∙ ap (follow_by (taken input) by_value g) a.0.0 in
          let rest = rec (A ++ answer_of q v ∷ []) (on g q v) (past-question m entry args input steps A g r q v a.0)
          (sym (ap (λ x. then_follow x (follows numbers (taken input) by_value m steps n)) own) ∙ e) in
          let over = more-listed A g r (Over (Stands q v) t) is in (
            Asked q v (draws_from input 0 t.symbols) rest.0,
            (record { turns = over.0; halt = Stands q v; trace = t; over = over.1; first = (refl, refl) }, rest.1),
            rest.2,
          )
      at rec (Over (Ended x) t) is = done (Ended x) t tt is
      at rec (Over Bound t) is = done Bound t tt is
      at rec (Over Deep t) is = done Deep t tt is

  pub record Ending (run : Run) (x : Turned ℕ) : Type 0 where
    pub halt : Halt ℕ
    pub trace : Trace
    pub outcome : Outcome
    pub over : x ≡ Over halt trace
    pub ends : outcome_of halt ≡ Some outcome
    pub is : record { outcome = outcome; draws = draws_from input 0 trace.symbols; answers = trace.answers } ≡ run

  pub ending : (run : Run) (x : Turned ℕ) → run_of input x ≡ Some run → Ending run x
  ending run (On g) e = absurd cc
  ending run (Over halt trace) e =
      let found = map-of (outcome_of halt) (λ outcome. record { outcome = outcome; draws = draws_from input 0 trace.symbols; answers = trace.answers }) run e in
      record { halt = halt; trace = trace; outcome = found.0; over = refl; ends = found.1; is = found.2 }

  pub script-of : (run : Run) → IsRun m entry args input steps run → (s : Script) × IsScript m entry args input steps s × (told s ≡ run)
  script-of run h = at (Start m entry args input steps) refl
    where
      at : (x : Turned ℕ) → Start m entry args input steps ≡ x → (s : Script) × IsScript m entry args input steps s × (told s ≡ run)
      at (On g) e =
          let a = ending run (Valued m entry args input steps h.0) h.1 in
          let over : follows numbers (taken input) by_value m steps h.0 g ≡ Over a.halt a.trace = sym (ap (λ x. then_follow x (follows numbers (taken input) by_value m steps h.0)) e) ∙ a.over in
          let f = find h.0 [] g (begins-reached m entry args input steps g e) a.halt a.trace a.outcome a.ends over in
          (f.0, f.1, f.2 ∙ a.is)
      at (Over halt trace) e =
          let a = ending run (Over halt trace) (sym (ap (λ x. run_of input (then_follow x (follows numbers (taken input) by_value m steps h.0))) e) ∙ h.1) in
          let listed : L [] 0 ≡ Over a.halt a.trace = at-once m entry args input steps halt trace e [] 0 ∙ a.over in
          let same : trace ≡ a.trace = let both : Over halt trace ≡ Over a.halt a.trace = a.over in cc in
          let empty : [] ≡ a.trace.answers = sym (ap (λ t. t.answers) (sym same) ∙ start-empty (first_config numbers m entry args) halt trace e) in
          let whole : told (Finished a.outcome (draws_from input 0 a.trace.symbols)) ≡ RunFrom [] a.outcome a.trace = ap (λ l. record { outcome = a.outcome; draws = draws_from input 0 a.trace.symbols; answers = l }) empty in (
            Finished a.outcome (draws_from input 0 a.trace.symbols),
            record { turns = 0; halt = a.halt; trace = a.trace; over = listed; first = (a.ends, refl) },
            whole ∙ a.is,
          )

  -- the bounded run is where the run by its first answers is
  pub bounded-there : (A : List ℕ) (s left : Script) → IsScript m entry args input steps s → After A s left → (n : ℕ) (at : Going ℕ) → L A n ≡ On at → runs_at m entry args input steps n ≡ On at
  bounded-there A s left h e n at is =
      let begins : BeginsWith (told s).answers A = (answers_in left, told-answers [] s ∙ through-answers (λ q v. Unit {0}) A s left e) in
      runs-there m entry args input steps n A (told s) (On at) tt (script-told m entry args input steps s h) begins is
