-- Laws of places in a run.
use Rattle.std.proofs.Common.{◌≡◌, ℕ, zero, suc, ◌+◌, List, [], ◌∷◌, ◌++◌, length, refl, sym, ap, ◌∙◌, subst, arith}
use Rattle.std.specs.Prelude.{Bool, true, false, ◌&&◌, nat_lt, nat_le, if◌then◌else◌, Some, option_map}
use Rattle.wasm_ast.specs.declared.modules.Module.{Module}
use Rattle.wasm_ast.specs.declared.runs.Draw.{Draw}
use Rattle.wasm_ast.specs.declared.runs.Outcome.{Outcome}
use Rattle.wasm_ast.specs.declared.runs.Outcome.TheVariants.{Bound as BoundReached, Deep as TooDeep}
use Rattle.wasm_ast.specs.declared.runs.Value.{Value}
use Rattle.wasm_rules.specs.Words.{Kind, numbers, taken}
use Rattle.wasm_reduction.specs.Configurations.{Question, Config, End, Next, Goes, Draws, Asks, Ends}
use Rattle.wasm_reduction.specs.Steps.{step, answered, with_symbol}
use Rattle.wasm_reduction.specs.Runs.{Going, Ended, Bound, Deep, Turned, On, Over, Reply, follow, follow_by, follows, then_follow, started, is_due, most_frames, by_value, answer_of, run_of, runs_at, draws_from, outcome_of_end}
use Rattle.wasm_run.specs.Bounded.{RunGives}
use Rattle.wasm_run.specs.code.Places.{Place, IsFree, IsFit, ComesTo, Settled, IsInOrder, config_at}
use Rattle.wasm_machine.specs.declared.values.Value.{Value as CodeValue}
use Rattle.wasm_machine.specs.States.{State}

-- ---- turns

module _ {W : Type 0} (K : Kind W) (draw : ℕ → Bool → W) (reply : Reply W) (m : Module) (steps : ℕ) where
  then_both : (x : Turned W) (n : ℕ) → then_follow (then_follow x (follows K draw reply m steps n)) (follow K draw reply m steps) ≡ then_follow x (λ g. then_follow (follows K draw reply m steps n g) (follow K draw reply m steps))
  then_both (On g) n = refl
  then_both (Over h t) n = refl

  -- one turn more is one at the end
  pub turn_last : (n : ℕ) (g : Going W) → follows K draw reply m steps (suc n) g ≡ then_follow (follows K draw reply m steps n g) (follow K draw reply m steps)
  turn_last zero g = once (follow K draw reply m steps g)
    where
      once : (x : Turned W) → then_follow x (follows K draw reply m steps zero) ≡ x
      once (On g) = refl
      once (Over h t) = refl
  turn_last (suc n) g = at (λ h. turn_last n h) (follow K draw reply m steps g)
    where
      at : ((h : Going W) → follows K draw reply m steps (suc n) h ≡ then_follow (follows K draw reply m steps n h) (follow K draw reply m steps)) → (x : Turned W) → then_follow x (follows K draw reply m steps (suc n)) ≡ then_follow (then_follow x (follows K draw reply m steps n)) (follow K draw reply m steps)
      at on (On h) = on h
      at on (Over h t) = refl

module _ (m : Module) (entry : ℕ) (args : List Value) (input : List ℕ) (steps : ℕ) where
  abbrev turn : Going ℕ → Turned ℕ
  turn g = follow numbers (taken input) by_value m steps g

  -- a run that has come to g has then come to what one turn of g gives
  pub one_more : (n : ℕ) (g : Going ℕ) → runs_at m entry args input steps n ≡ On g → runs_at m entry args input steps (suc n) ≡ turn g
  one_more n g e = at (started numbers m entry args) e
    where
      at : (x : Turned ℕ) → then_follow x (follows numbers (taken input) by_value m steps n) ≡ On g → then_follow x (follows numbers (taken input) by_value m steps (suc n)) ≡ turn g
      at (On s) e = turn_last numbers (taken input) by_value m steps n s ∙ ap (λ x. then_follow x (follow numbers (taken input) by_value m steps)) e
      at (Over h t) e = absurd cc

  -- and after more turns of g
  pub more_turns : (n k : ℕ) (g t : Going ℕ) → runs_at m entry args input steps n ≡ On g → follows numbers (taken input) by_value m steps k g ≡ On t → runs_at m entry args input steps (k + n) ≡ On t
  more_turns n zero g t e f = let none : 0 + n ≡ n = omega arith in rw none (e ∙ f)
  more_turns n (suc k) g t e f = at (λ u is. more_turns n k g u e is) (follows numbers (taken input) by_value m steps k g) refl (sym (turn_last numbers (taken input) by_value m steps k g) ∙ f)
    where
      at : ((u : Going ℕ) → follows numbers (taken input) by_value m steps k g ≡ On u → runs_at m entry args input steps (k + n) ≡ On u) →
          (x : Turned ℕ) → follows numbers (taken input) by_value m steps k g ≡ x → then_follow x (follow numbers (taken input) by_value m steps) ≡ On t → runs_at m entry args input steps (suc k + n) ≡ On t
      at before (On u) is h = let next : suc k + n ≡ suc (k + n) = omega arith in rw next (one_more (k + n) u (before u is) ∙ h)
      at before (Over i u) is h = absurd cc

  -- ---- what a turn gives

  pub too_deep : (g : Going ℕ) → nat_lt most_frames (length g.config.callers) ≡ true → turn g ≡ Over Deep g.trace
  too_deep g deep = ap (λ b. if b then Over Deep g.trace else if is_due g.config.frame.here.code g.config.callers && nat_le steps g.config.units then Over Bound g.trace else follow_by (taken input) by_value g (step numbers m g.config)) deep

  pub at_bound : (g : Going ℕ) → nat_lt most_frames (length g.config.callers) ≡ false → is_due g.config.frame.here.code g.config.callers && nat_le steps g.config.units ≡ true → turn g ≡ Over Bound g.trace
  at_bound g deep bound =
      ap (λ b. if b then Over Deep g.trace else if is_due g.config.frame.here.code g.config.callers && nat_le steps g.config.units then Over Bound g.trace else follow_by (taken input) by_value g (step numbers m g.config)) deep
      ∙ ap (λ b. if b then Over Bound g.trace else follow_by (taken input) by_value g (step numbers m g.config)) bound

  pub free_turn : (g : Going ℕ) → IsFree steps g.config → turn g ≡ follow_by (taken input) by_value g (step numbers m g.config)
  free_turn g free =
      ap (λ b. if b then Over Deep g.trace else if is_due g.config.frame.here.code g.config.callers && nat_le steps g.config.units then Over Bound g.trace else follow_by (taken input) by_value g (step numbers m g.config)) free.frames
      ∙ ap (λ b. if b then Over Bound g.trace else follow_by (taken input) by_value g (step numbers m g.config)) free.units

  -- ---- places

  module _ (c : Config ℕ) (draws : List Draw) (p : Place m entry args input steps c draws) where
    next_turn : (x : Next ℕ) → IsFree steps c → step numbers m c ≡ x → runs_at m entry args input steps (suc p.turns) ≡ follow_by (taken input) by_value p.at x
    next_turn x free gives =
        one_more p.turns p.at p.reached
        ∙ free_turn p.at (subst (IsFree steps) (sym p.is) free)
        ∙ ap (λ y. follow_by (taken input) by_value p.at y) (ap (step numbers m) p.is ∙ gives)

    pub place_goes : (d : Config ℕ) → IsFree steps c → step numbers m c ≡ Goes d → Place m entry args input steps d draws
    place_goes d free gives = record {
      at = record (p.at) { config = d };
      turns = suc p.turns;
      reached = next_turn (Goes d) free gives;
      is = refl;
      drawn = p.drawn;
    }

    pub place_asks : (q : Question) (w : ℕ) → IsFree steps c → step numbers m c ≡ Asks q w → Place m entry args input steps (answered c (answer_of q w)) draws
    place_asks q w free gives = record {
      at = record { config = answered p.at.config (answer_of q w); trace = record (p.at.trace) { answers = p.at.trace.answers ++ answer_of q w ∷ [] } };
      turns = suc p.turns;
      reached = next_turn (Asks q w) free gives;
      is = ap (λ c. answered c (answer_of q w)) p.is;
      drawn = p.drawn;
    }

    pub run_ends : (e : End ℕ) (outcome : Outcome) → IsFree steps c → step numbers m c ≡ Ends e → outcome_of_end e ≡ Some outcome → RunGives m entry args input steps (record { outcome = outcome; draws = draws })
    run_ends e outcome free gives is = record {
      run = record { outcome = outcome; draws = draws_from input 0 p.at.trace.symbols; answers = p.at.trace.answers };
      is = (suc p.turns, ap (run_of input) (next_turn (Ends e) free gives) ∙ ap (λ o. option_map (λ outcome. record { outcome = outcome; draws = draws_from input 0 p.at.trace.symbols; answers = p.at.trace.answers }) o) is);
      same = ap (λ d. record { outcome = outcome; draws = d }) p.drawn;
    }

    pub run_is_over : (e : End ℕ) → IsFree steps c → step numbers m c ≡ Ends e → runs_at m entry args input steps (suc p.turns) ≡ Over (Ended e) p.at.trace
    run_is_over e free gives = next_turn (Ends e) free gives

    pub run_is_deep : nat_lt most_frames (length c.callers) ≡ true → RunGives m entry args input steps (record { outcome = TooDeep; draws = draws })
    run_is_deep deep = record {
      run = record { outcome = TooDeep; draws = draws_from input 0 p.at.trace.symbols; answers = p.at.trace.answers };
      is = (suc p.turns, ap (run_of input) (one_more p.turns p.at p.reached ∙ too_deep p.at (ap (λ c. nat_lt most_frames (length c.callers)) p.is ∙ deep)));
      same = ap (λ d. record { outcome = TooDeep; draws = d }) p.drawn;
    }

    pub run_is_bound : nat_lt most_frames (length c.callers) ≡ false → is_due c.frame.here.code c.callers && nat_le steps c.units ≡ true → RunGives m entry args input steps (record { outcome = BoundReached; draws = draws })
    run_is_bound deep bound = record {
      run = record { outcome = BoundReached; draws = draws_from input 0 p.at.trace.symbols; answers = p.at.trace.answers };
      is = (suc p.turns, ap (run_of input) (one_more p.turns p.at p.reached ∙ at_bound p.at (ap (λ c. nat_lt most_frames (length c.callers)) p.is ∙ deep) (ap (λ c. is_due c.frame.here.code c.callers && nat_le steps c.units) p.is ∙ bound)));
      same = ap (λ d. record { outcome = BoundReached; draws = d }) p.drawn;
    }

-- ---- draws

pub draws_more : (input : List ℕ) (k : ℕ) (symbols : List Bool) (wide : Bool) → draws_from input k (symbols ++ wide ∷ []) ≡ draws_from input k symbols ++ record { wide = wide; value = taken input (k + length symbols) wide } ∷ []
draws_more input k [] wide = ap (λ j. record { wide = wide; value = taken input j wide } ∷ []) (let e : k ≡ k + 0 = omega arith in e)
draws_more input k (w ∷ symbols) wide =
    ap (λ l. record { wide = w; value = taken input k w } ∷ l)
    (draws_more input (k + 1) symbols wide ∙ ap (λ j. draws_from input (k + 1) symbols ++ record { wide = wide; value = taken input j wide } ∷ []) (let e : k + 1 + length symbols ≡ k + suc (length symbols) = omega arith in e))

pub draws_count : (input : List ℕ) (k : ℕ) (symbols : List Bool) → length (draws_from input k symbols) ≡ length symbols
draws_count input k [] = refl
draws_count input k (w ∷ symbols) = ap suc (draws_count input (k + 1) symbols)

module _ (m : Module) (entry : ℕ) (args : List Value) (input : List ℕ) (steps : ℕ) (c : Config ℕ) (draws : List Draw) (p : Place m entry args input steps c draws) where
  pub place_draws : (wide : Bool) (d : Config ℕ) → IsFree steps c → step numbers m c ≡ Draws wide d →
      Place m entry args input steps (with_symbol d wide (taken input (length draws) wide)) (draws ++ record { wide = wide; value = taken input (length draws) wide } ∷ [])
  place_draws wide d free gives =
      let count : length draws ≡ length p.at.trace.symbols = ap (λ l. length l) p.drawn ∙ draws_count input 0 p.at.trace.symbols in
      subst (λ k. Place m entry args input steps (with_symbol d wide (taken input k wide)) (draws ++ record { wide = wide; value = taken input k wide } ∷ [])) (sym count)
      (record {
        at = record { config = with_symbol d wide (taken input (length p.at.trace.symbols) wide); trace = record (p.at.trace) { symbols = p.at.trace.symbols ++ wide ∷ [] } };
        turns = suc p.turns;
        reached = next_turn m entry args input steps c draws p (Draws wide d) free gives;
        is = refl;
        drawn = ap (λ l. l ++ record { wide = wide; value = taken input (length p.at.trace.symbols) wide } ∷ []) p.drawn
            ∙ ap (λ j. draws_from input 0 p.at.trace.symbols ++ record { wide = wide; value = taken input j wide } ∷ []) (let none : length p.at.trace.symbols ≡ 0 + length p.at.trace.symbols = omega arith in none)
            ∙ sym (draws_more input 0 p.at.trace.symbols wide);
      })

-- ---- questions

module _ (m : Module) (steps : ℕ) where
  pub settled_here : (c : Config ℕ) (x : Next ℕ) → step numbers m c ≡ x → Settled m steps c x
  settled_here c x is = record {
    answers = c.answers;
    comes = λ draw g here. record { turns = 0; trace = g.trace; same = refl; reached = ap (λ c. On (record { config = c; trace = g.trace })) here };
    gives = is;
  }

  pub settled_more : (c : Config ℕ) (q : Question) (w : ℕ) (x : Next ℕ) → IsFree steps c → step numbers m c ≡ Asks q w → Settled m steps (answered c (answer_of q w)) x → Settled m steps c x
  settled_more c q w x free asks so = record {
    answers = so.answers;
    comes = λ draw g here.
        let next : Going ℕ = record { config = answered g.config (answer_of q w); trace = record (g.trace) { answers = g.trace.answers ++ answer_of q w ∷ [] } } in
        let turned : follow numbers draw by_value m steps g ≡ On next =
        free_by draw g (subst (IsFree steps) (sym here) free) ∙ ap (λ y. follow_by draw by_value g y) (ap (step numbers m) here ∙ asks) in
        let come : ComesTo m steps draw next (record c { answers = so.answers }) = so.comes draw next (ap (λ c. answered c (answer_of q w)) here) in
        record { turns = suc come.turns; trace = come.trace; same = come.same; reached = ap (λ y. then_follow y (follows numbers draw by_value m steps come.turns)) turned ∙ come.reached };
    gives = so.gives;
  }
    where
      free_by : (draw : ℕ → Bool → ℕ) (g : Going ℕ) → IsFree steps g.config → follow numbers draw by_value m steps g ≡ follow_by draw by_value g (step numbers m g.config)
      free_by draw g free =
          ap (λ b. if b then Over Deep g.trace else if is_due g.config.frame.here.code g.config.callers && nat_le steps g.config.units then Over Bound g.trace else follow_by draw by_value g (step numbers m g.config)) free.frames
          ∙ ap (λ b. if b then Over Bound g.trace else follow_by draw by_value g (step numbers m g.config)) free.units

-- the place past the questions
pub place_settled : (m : Module) (entry : ℕ) (args : List Value) (input : List ℕ) (steps : ℕ) (c : Config ℕ) (draws : List Draw) (x : Next ℕ) → Place m entry args input steps c draws →
    (so : Settled m steps c x) → Place m entry args input steps (record c { answers = so.answers }) draws
place_settled m entry args input steps c draws x p so =
    let come : ComesTo m steps (taken input) p.at (record c { answers = so.answers }) = so.comes (taken input) p.at p.is in
    record {
      at = record { config = record c { answers = so.answers }; trace = come.trace };
      turns = come.turns + p.turns;
      reached = more_turns m entry args input steps p.turns come.turns p.at _ p.reached come.reached;
      is = refl;
      drawn = p.drawn ∙ ap (draws_from input 0) (sym come.same);
    }

-- ---- the loops

-- the questions so far are answered, and the state is in order
pub record Asking {A : Type 0} (m : Module) (steps : ℕ) (s : State (CodeValue ℕ)) (cells : List ℕ) (a : A) (t : State (CodeValue ℕ)) (now : List ℕ) : Type 0 where
  pub order : IsInOrder a t now
  pub fit : IsFit steps (config_at m now t)
  pub leads : (x : Next ℕ) → Settled m steps (config_at m now t) x → Settled m steps (config_at m cells s) x

-- the run has come here
pub record Turning {A : Type 0} (m : Module) (entry : ℕ) (args : List Value) (input : List ℕ) (steps : ℕ) (a : A) (s : State (CodeValue ℕ)) (cells : List ℕ) (draws : List Draw) : Type 0 where
  pub order : IsInOrder a s cells
  pub place : Place m entry args input steps (config_at m cells s) draws
