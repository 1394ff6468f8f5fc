-- What holds wherever a run has come to.
use Rattle.std.proofs.Common.{◌≡◌, ◌≢◌, ℕ, zero, suc, ◌+◌, ◌<◌, ◌≤◌, ◌^◌, List, [], ◌∷◌, ◌++◌, length, refl, sym, ap, ◌∙◌, subst, arith}
use Rattle.std.specs.Prelude.{IsTrue, Bool, true, false, ◌&&◌, nat_lt, nat_le, if◌then◌else◌, All, Some, option_map, Result, Ok, Err}
use Rattle.std.proofs.lemmas.Bool.Decides.{nat_tests}
use Rattle.std.proofs.lemmas.List.{length-append}
use Rattle.std.specs.List.{AllByRecursion}
use Rattle.std.proofs.lemmas.List.Elements.{All-from_recursion, recursion_from_All}
use Rattle.wasm_ast.specs.declared.types.Limits.{Limits}
use Rattle.wasm_ast.specs.declared.instructions.Instr.{Instr}
use Rattle.wasm_ast.specs.declared.modules.Module.{Module}
use Rattle.wasm_ast.specs.declared.runs.Value.{Value as Argument}
use Rattle.wasm_ast.specs.declared.runs.Draw.{Draw}
use Rattle.wasm_ast.specs.declared.runs.Outcome.{Outcome}
use Rattle.wasm_rules.specs.Words.{numbers, taken, HasNumber, bits_where}
use Rattle.wasm_rules.proofs.NumbersLemmas.{numbers-give}
use Rattle.wasm_reduction.specs.Configurations.{Store, Label, Frame, Config, Question, End, Stuck, Next, Goes, Draws, Asks, Ends}
use Rattle.wasm_reduction.specs.Combinators.{cost_under, past}
use Rattle.wasm_reduction.specs.Control.{finish}
use Rattle.wasm_reduction.specs.Steps.{step, step_code, answered, with_symbol}
use Rattle.wasm_reduction.specs.Instantiation.{instantiated, invoked, first_config}
use Rattle.wasm_reduction.specs.Widths.{HasWidths, NextHasWidths}
use Rattle.wasm_reduction.specs.Runs.{Trace, Going, Deep, Bound, Turned, On, Over, Ended, follow, follow_by, follows, then_follow, started, started_by, no_trace, is_due, most_frames, by_value, answer_of, outcome_of_end, run_of, runs_at}
use Rattle.wasm_reduction.proofs.Moves.{Legal, act-legal}
use Rattle.wasm_reduction.specs.Outermost.{Ready}
use Rattle.wasm_reduction.proofs.Endings.{Falls, weight, left, moves-units, step-falls, symbol-same, turn-progress}
use Rattle.wasm_reduction.proofs.OneRun.{begins, Begins}
use Rattle.wasm_reduction.proofs.WideSteps.{step-wide, answered-wide, symbol-wide}
use Rattle.wasm_reduction.proofs.WideStarts.{code-in-range, first-wide}
use Rattle.wasm_run.specs.Bounded.{RunGives}
use Rattle.wasm_run.specs.code.Places.{IsAsked, Place, IsFree, IsFit, Settled}
use Rattle.wasm_run.proofs.PlaceLemmas.{turn_last, place_goes, place_draws, place_settled, run_ends, run_is_over}

module _ (m : Module) (entry : ℕ) (args : List Argument) (input : List ℕ) (steps : ℕ) where
  -- What holds where the run begins, and after a turn from where it holds, holds wherever the run comes to.
  pub everywhere : (P : Config ℕ → Type 0) →
      ((g : Going ℕ) → started numbers m entry args ≡ On g → P g.config) →
      ((g t : Going ℕ) → P g.config → follow numbers (taken input) by_value m steps g ≡ On t → P t.config) →
      (n : ℕ) (g : Going ℕ) → runs_at m entry args input steps n ≡ On g → P g.config
  everywhere P first more n g e = at (started numbers m entry args) refl e
    where
      from : (s : Going ℕ) → P s.config → (n : ℕ) (g : Going ℕ) → follows numbers (taken input) by_value m steps n s ≡ On g → P g.config
      from s h zero g e = let same : s ≡ g = cc in subst (λ t. P t.config) same h
      from s h (suc n) g e = last (λ t is. from s h n t is) (follows numbers (taken input) by_value m steps n s) refl (sym (turn_last numbers (taken input) by_value m steps n s) ∙ e)
        where
          last : ((t : Going ℕ) → follows numbers (taken input) by_value m steps n s ≡ On t → P t.config) → (x : Turned ℕ) → follows numbers (taken input) by_value m steps n s ≡ x → then_follow x (follow numbers (taken input) by_value m steps) ≡ On g → P g.config
          last before (On t) is f = more t g (before t is) f
          last before (Over halt trace) is f = absurd cc

      at : (x : Turned ℕ) → started numbers m entry args ≡ x → then_follow x (follows numbers (taken input) by_value m steps n) ≡ On g → P g.config
      at (On s) is f = from s (first s is) n g f
      at (Over halt trace) is f = absurd cc

  -- the outermost frame only calls
  pub reached-ready : (n : ℕ) (g : Going ℕ) → runs_at m entry args input steps n ≡ On g → Ready g.config
  reached-ready n g e =
      everywhere Ready (λ s is. subst Begins is (begins numbers m entry args)) (λ s t ready f. (turn-progress numbers m steps (taken input) by_value s t ready f).ready) n g e

  -- ---- units

  abbrev Spends : Config ℕ → Next ℕ → Type 0
  Spends c (Goes d) = d.units ≤ steps
  Spends c (Draws wide d) = d.units ≤ steps
  Spends c (Asks q w) = Unit {0}
  Spends c (Ends e) = Unit {0}

  finish-spends : (c : Config ℕ) (ls : List (Label ℕ)) (fs : List (Frame ℕ)) → c.frame.outer ≡ ls → c.callers ≡ fs → c.units ≤ steps → Spends c (finish c c.frame.here.vals c.frame.outer)
  finish-spends c (l ∷ ls) fs o cs h = rw o h
  finish-spends c [] [] o cs h = rw (o, cs) tt
  finish-spends c [] (f ∷ fs) o cs h = rw (o, cs) h

  legal-spends : (c : Config ℕ) (is : List Instr) (a q : ℕ) (x : Next ℕ) → c.units + cost_under c.callers ≤ steps → Legal m (past c is) a q x → Spends c x
  legal-spends c is a q (Goes d) h l = omega (arith, h, moves-units m (past c is) d l)
  legal-spends c is a q (Draws wide d) h l = omega (arith, h, l.units)
  legal-spends c is a q (Asks question w) h l = tt
  legal-spends c is a q (Ends e) h l = tt

  step-spends : (c : Config ℕ) → c.units ≤ steps → is_due c.frame.here.code c.callers && nat_le steps c.units ≡ false → Spends c (step numbers m c)
  step-spends c h free = at c.frame.here.code c.callers refl refl
    where
      at : (code : List Instr) (fs : List (Frame ℕ)) → c.frame.here.code ≡ code → c.callers ≡ fs → Spends c (step_code numbers m c c.frame.here.code)
      at [] fs e cs = rw e (finish-spends c c.frame.outer fs refl cs h)
      at (i ∷ is) [] e cs = rw e (legal-spends c is _ _ _ (omega (arith, h, ap (λ l. cost_under l) cs)) (act-legal numbers m (past c is) c.frame.here.vals c.answers i))
      at (i ∷ is) (f ∷ fs) e cs =
          let room : nat_le steps c.units ≡ false = sym (ap (λ l. is_due l c.callers && nat_le steps c.units) e ∙ ap (λ l. is_due (i ∷ is) l && nat_le steps c.units) cs) ∙ free in
          let below : c.units < steps = grind (arith, nat_tests, room) in
          rw e (legal-spends c is _ _ _ (omega (arith, below, ap (λ l. cost_under l) cs)) (act-legal numbers m (past c is) c.frame.here.vals c.answers i))

  abbrev units_of : Turned ℕ → ℕ
  units_of (On g) = g.config.units
  units_of (Over halt trace) = 0

  pub reached-units : (n : ℕ) (g : Going ℕ) → runs_at m entry args input steps n ≡ On g → g.config.units ≤ steps
  reached-units n g e = everywhere (λ c. c.units ≤ steps) (λ s is. begun (instantiated m) s is) more n g e
    where
      begun : (x : Result (Store ℕ) (End ℕ)) (s : Going ℕ) → started_by (invoked numbers m entry args x) ≡ On s → s.config.units ≤ steps
      begun (Ok t) s is = let same : 0 ≡ s.config.units = ap units_of is in omega (arith, same)
      begun (Err t) s is = absurd cc

      followed : (s t : Going ℕ) (x : Next ℕ) → s.config.units ≤ steps → Spends s.config x → follow_by (taken input) by_value s x ≡ On t → t.config.units ≤ steps
      followed s t (Goes d) h k f = let same : d.units ≡ t.config.units = ap units_of f in omega (arith, k, same)
      followed s t (Draws wide d) h k f = let same : d.units ≡ t.config.units = ap units_of f in omega (arith, k, same)
      followed s t (Asks q w) h k f = let same : s.config.units ≡ t.config.units = ap units_of f in omega (arith, h, same)
      followed s t (Ends e) h k f = absurd cc

      more : (s t : Going ℕ) → s.config.units ≤ steps → follow numbers (taken input) by_value m steps s ≡ On t → t.config.units ≤ steps
      more s t h f = deep (nat_lt most_frames (length s.config.callers)) f
        where
          due : (b : Bool) → is_due s.config.frame.here.code s.config.callers && nat_le steps s.config.units ≡ b → (if b then Over Bound s.trace else follow_by (taken input) by_value s (step numbers m s.config)) ≡ On t → t.config.units ≤ steps
          due true is f = absurd cc
          due false is f = followed s t (step numbers m s.config) h (step-spends s.config h is) f

          deep : (b : Bool) → (if b then Over Deep s.trace else if is_due s.config.frame.here.code s.config.callers && nat_le steps s.config.units then Over Bound s.trace else follow_by (taken input) by_value s (step numbers m s.config)) ≡ On t → t.config.units ≤ steps
          deep true f = absurd cc
          deep false f = due (is_due s.config.frame.here.code s.config.callers && nat_le steps s.config.units) refl f

-- ---- widths

taken-has : (input : List ℕ) (k : ℕ) (wide : Bool) → HasNumber (bits_where wide) (taken input k wide)
taken-has input k true = omega arith
taken-has input k false = omega arith

module _ (m : Module) (entry : ℕ) (args : List Argument) (input : List ℕ) (steps : ℕ) (asked : IsAsked m entry args steps) where
  abbrev Wide : Config ℕ → Type 0
  Wide c = HasWidths HasNumber c

  starts-wide : (x : Result (Config ℕ) (End ℕ)) (g : Going ℕ) → first_config numbers m entry args ≡ x → started_by x ≡ On g → Wide g.config
  starts-wide (Err e) g is f = absurd cc
  starts-wide (Ok c) g is f =
      let same : c ≡ g.config = ap (λ g. g.config) (let f : record { config = c; trace = no_trace } ≡ g = cc in f) in
      subst Wide same (first-wide HasNumber numbers numbers-give m entry args c asked.has_numbers asked.valid asked.can.ready asked.arguments_fit is)

  followed-wide : (s t : Going ℕ) (x : Next ℕ) → Wide s.config → NextHasWidths HasNumber x → follow_by (taken input) by_value s x ≡ On t → Wide t.config
  followed-wide s t (Goes d) h w f = subst Wide (ap (λ g. g.config) (let f : record s { config = d } ≡ t = cc in f)) w
  followed-wide s t (Draws wide d) h w f =
      let v : ℕ = taken input (length s.trace.symbols) wide in
      subst Wide (ap (λ g. g.config) (let f : record { config = with_symbol d wide v; trace = record (s.trace) { symbols = s.trace.symbols ++ wide ∷ [] } } ≡ t = cc in f))
      (symbol-wide HasNumber d wide v w (taken-has input (length s.trace.symbols) wide))
  followed-wide s t (Asks q v) h w f =
      subst Wide (ap (λ g. g.config) (let f : record { config = answered s.config (answer_of q v); trace = record (s.trace) { answers = s.trace.answers ++ answer_of q v ∷ [] } } ≡ t = cc in f))
      (answered-wide HasNumber s.config (answer_of q v) h)
  followed-wide s t (Ends e) h w f = absurd cc

  turn-wide : (s t : Going ℕ) → Wide s.config → follow numbers (taken input) by_value m steps s ≡ On t → Wide t.config
  turn-wide s t h f = deep (nat_lt most_frames (length s.config.callers)) f
    where
      due : (b : Bool) → (if b then Over Bound s.trace else follow_by (taken input) by_value s (step numbers m s.config)) ≡ On t → Wide t.config
      due true f = absurd cc
      due false f = followed-wide s t (step numbers m s.config) h (step-wide HasNumber numbers numbers-give m (code-in-range m asked.has_numbers) s.config h) f

      deep : (b : Bool) → (if b then Over Deep s.trace else if is_due s.config.frame.here.code s.config.callers && nat_le steps s.config.units then Over Bound s.trace else follow_by (taken input) by_value s (step numbers m s.config)) ≡ On t → Wide t.config
      deep true f = absurd cc
      deep false f = due (is_due s.config.frame.here.code s.config.callers && nat_le steps s.config.units) f

  pub reached-widths : (n : ℕ) (g : Going ℕ) → runs_at m entry args input steps n ≡ On g → HasWidths HasNumber g.config
  reached-widths n g e = everywhere m entry args input steps Wide (λ s is. starts-wide (first_config numbers m entry args) s refl is) turn-wide n g e

  -- ---- places

  module _ (c : Config ℕ) (draws : List Draw) (p : Place m entry args input steps c draws) where
    pub place-widths : HasWidths HasNumber c
    place-widths = subst Wide p.is (reached-widths p.turns p.at p.reached)

    pub place-units : c.units ≤ steps
    place-units = subst (λ c. c.units ≤ steps) p.is (reached-units m entry args input steps p.turns p.at p.reached)

    pub place-ready : Ready c
    place-ready = subst Ready p.is (reached-ready m entry args input steps p.turns p.at p.reached)

-- ---- the weight

module _ (m : Module) (steps : ℕ) (c : Config ℕ) (answers : List ℕ) (ready : Ready c) (free : IsFree steps c) where
  abbrev settled : Config ℕ
  settled = record c { answers = answers }

  room : IsTrue (is_due c.frame.here.code c.callers) → c.units < steps
  room due = grind (arith, nat_tests, free.units, due)

  falls : (x : Next ℕ) → step numbers m settled ≡ x → Falls numbers m steps settled x
  falls x is = subst (Falls numbers m steps settled) is (step-falls numbers m steps settled ready room)

  pub goes-lighter : (d : Config ℕ) → step numbers m settled ≡ Goes d → weight steps d < weight steps c
  goes-lighter d is = (falls (Goes d) is).1

  pub draws-lighter : (wide : Bool) (w : ℕ) (d : Config ℕ) → step numbers m settled ≡ Draws wide d → weight steps (with_symbol d wide w) < weight steps c
  draws-lighter wide w d is = omega (arith, (falls (Draws wide d) is).1, ap (λ l. length l) (symbol-same numbers m steps d wide w).code)

  pub asks-fewer : (q : Question) (w n : ℕ) → step numbers m settled ≡ Asks q w → left (answered settled n) < left settled
  asks-fewer q w n is = let h = falls (Asks q w) is in omega (arith, h, length-append answers (n ∷ []))

-- ---- a turn

module _ (m : Module) (entry : ℕ) (args : List Argument) (input : List ℕ) (steps : ℕ) (asked : IsAsked m entry args steps) (c : Config ℕ) (draws : List Draw)
    (p : Place m entry args input steps c draws) (free : IsFree steps c) where
  still_free : (answers : List ℕ) → IsFree steps (record c { answers = answers })
  still_free answers = record { frames = free.frames; units = free.units }

  pub is_fit : IsFit steps c
  is_fit = record {
    widths = place-widths m entry args input steps asked c draws p;
    outermost = place-ready m entry args input steps asked c draws p;
    units = place-units m entry args input steps asked c draws p;
    free = free;
  }

  pub settled_widths : (x : Next ℕ) → Settled m steps c x → NextHasWidths HasNumber x
  settled_widths x so =
      subst (NextHasWidths HasNumber) so.gives
      (step-wide HasNumber numbers numbers-give m (code-in-range m asked.has_numbers) (record c { answers = so.answers })
      (place-widths m entry args input steps asked (record c { answers = so.answers }) draws (place_settled m entry args input steps c draws x p so)))

  pub goes_on : (d : Config ℕ) → Settled m steps c (Goes d) → Place m entry args input steps d draws
  goes_on d so = place_goes m entry args input steps (record c { answers = so.answers }) draws (place_settled m entry args input steps c draws (Goes d) p so) d (still_free so.answers) so.gives

  pub goes_down : (d : Config ℕ) → Settled m steps c (Goes d) → weight steps d < weight steps c
  goes_down d so = goes-lighter m steps c so.answers (place-ready m entry args input steps asked c draws p) free d so.gives

  pub draws_on : (wide : Bool) (d : Config ℕ) → Settled m steps c (Draws wide d) →
      Place m entry args input steps (with_symbol d wide (taken input (length draws) wide)) (draws ++ record { wide = wide; value = taken input (length draws) wide } ∷ [])
  draws_on wide d so = place_draws m entry args input steps (record c { answers = so.answers }) draws (place_settled m entry args input steps c draws (Draws wide d) p so) wide d (still_free so.answers) so.gives

  pub draws_down : (wide : Bool) (w : ℕ) (d : Config ℕ) → Settled m steps c (Draws wide d) → weight steps (with_symbol d wide w) < weight steps c
  draws_down wide w d so = draws-lighter m steps c so.answers (place-ready m entry args input steps asked c draws p) free wide w d so.gives

  pub ends_so : (e : End ℕ) (outcome : Outcome) → Settled m steps c (Ends e) → outcome_of_end e ≡ Some outcome → RunGives m entry args input steps (record { outcome = outcome; draws = draws })
  ends_so e outcome so is = run_ends m entry args input steps (record c { answers = so.answers }) draws (place_settled m entry args input steps c draws (Ends e) p so) e outcome (still_free so.answers) so.gives is

  pub never_stuck : (e : End ℕ) → Settled m steps c (Ends e) → e ≢ Stuck
  never_stuck e so stuck =
      let q = place_settled m entry args input steps c draws (Ends e) p so in
      asked.goes input (suc q.turns) q.at.trace (run_is_over m entry args input steps (record c { answers = so.answers }) draws q e (still_free so.answers) so.gives ∙ ap (λ e. Over (Ended e) q.at.trace) stuck)

-- what a symbol takes is below 2^64
pub taken-small : (input : List ℕ) (k : ℕ) (wide : Bool) → taken input k wide < 2 ^ 64
taken-small input k true = omega arith
taken-small input k false = omega arith

-- ---- the beginning of a run

pub own_are_small : (P : Limits → Type 0) (xs ys : List Limits) → All P (xs ++ ys) → All P ys
own_are_small P xs ys h = All-from_recursion P ys (right xs (recursion_from_All P (xs ++ ys) h))
  where
    right : (xs : List Limits) → AllByRecursion P (xs ++ ys) → AllByRecursion P ys
    right [] h = h
    right (x ∷ xs) h = right xs h.1

pub begins_at : (m : Module) (entry : ℕ) (args : List Argument) (input : List ℕ) (steps : ℕ) (c : Config ℕ) → first_config numbers m entry args ≡ Ok c → Place m entry args input steps c []
begins_at m entry args input steps c is = record {
  at = record { config = c; trace = no_trace };
  turns = 0;
  reached = ap (λ x. then_follow (started_by x) (follows numbers (taken input) by_value m steps 0)) is;
  is = refl;
  drawn = refl;
}

pub ends_at_once : (m : Module) (entry : ℕ) (args : List Argument) (input : List ℕ) (steps : ℕ) (e : End ℕ) (outcome : Outcome) → first_config numbers m entry args ≡ Err e → outcome_of_end e ≡ Some outcome →
    RunGives m entry args input steps (record { outcome = outcome; draws = [] })
ends_at_once m entry args input steps e outcome is known = record {
  run = record { outcome = outcome; draws = []; answers = [] };
  is = (0, ap (λ x. run_of input (then_follow (started_by x) (follows numbers (taken input) by_value m steps 0))) is ∙ ap (λ o. option_map (λ outcome. record { outcome = outcome; draws = []; answers = [] }) o) known);
  same = refl;
}

-- a run that is never stuck doesn't begin so
pub never_begins_stuck : (m : Module) (entry : ℕ) (args : List Argument) (input : List ℕ) (steps : ℕ) → ((n : ℕ) (trace : Trace) → runs_at m entry args input steps n ≢ Over (Ended Stuck) trace) → first_config numbers m entry args ≢ Err Stuck
never_begins_stuck m entry args input steps never is = never 0 no_trace (ap (λ x. then_follow (started_by x) (follows numbers (taken input) by_value m steps 0)) is)
