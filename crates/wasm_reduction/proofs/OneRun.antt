-- Each bounded run comes to one end.
use Rattle.std.proofs.Common.{◌≡◌, ℕ, zero, suc, List, refl, sym, ap, ◌∙◌, inl, inr}
use Rattle.std.specs.Prelude.{Bool, true, false, ◌&&◌, nat_lt, nat_le, length, if◌then◌else◌, Option, Some, None, Result, Ok, Err}
use Rattle.wasm_ast.specs.declared.modules.Module.{Module}
use Rattle.wasm_ast.specs.declared.runs.Value.{Value as Argument}
use Rattle.wasm_rules.specs.Words.{Kind, numbers, taken}
use Rattle.wasm_reduction.specs.Configurations.{Question, End, Returns, Traps, Fails, Assumes, Stuck, Next, Goes, Draws, Asks, Ends, Store}
use Rattle.wasm_reduction.specs.Steps.{step}
use Rattle.wasm_reduction.specs.Instantiation.{invoked, instantiated}
use Rattle.wasm_reduction.specs.Runs.{Trace, Going, Halt, Stands, Ended, Bound, Deep, Turned, On, Over, follow_by, is_due, follows, most_frames, then_follow, started_by, started, by_value, run_of, Run, runs_at, IsRun}
use Rattle.wasm_reduction.specs.Laws.{ComesToAnEnd}
use Rattle.wasm_reduction.specs.Outermost.{Ready}
use Rattle.wasm_reduction.proofs.Endings.{runs-end, runs-agree}

-- what a run begins with: it is over at once, or goes on from a configuration whose outermost frame calls alone
abbrev pub Begins : {W : Type 0} → Turned W → Type 0
Begins (On g) = Ready g.config
Begins (Over halt trace) = Unit {0}

pub begins : {W : Type 0} (K : Kind W) (m : Module) (entry : ℕ) (args : List Argument) → Begins (started K m entry args)
begins K m entry args = at (instantiated m) m.start refl
  where
    at : (s : Result (Store ℕ) (End ℕ)) (start : Option ℕ) → m.start ≡ start → Begins (started_by (invoked K m entry args s))
    at (Err e) start is = tt
    at (Ok s) None is = record { outer = refl; calls = rw is ((entry, refl), tt) }
    at (Ok s) (Some x) is = record { outer = refl; calls = rw is ((x, refl), ((entry, refl), tt)) }

module _ (m : Module) (steps : ℕ) (draw : ℕ → Bool → ℕ) where
  -- where each number answers its question, no run stands at one
  stands-never : (n : ℕ) (g : Going ℕ) (q : Question) (w : ℕ) (t : Trace) → follows numbers draw by_value m steps n g ≡ Over (Stands q w) t → ⊥
  stands-never zero g q w t e = cc
  stands-never (suc n) g q w t e = deep (λ g e. stands-never n g q w t e) (nat_lt most_frames (length g.config.callers)) e
    where
      on : ((g : Going ℕ) → follows numbers draw by_value m steps n g ≡ Over (Stands q w) t → ⊥) → (x : Next ℕ) → then_follow (follow_by draw by_value g x) (follows numbers draw by_value m steps n) ≡ Over (Stands q w) t → ⊥
      on never (Goes c) e = never _ e
      on never (Draws wide c) e = never _ e
      on never (Asks p v) e = never _ e
      on never (Ends x) e = cc

      due : ((g : Going ℕ) → follows numbers draw by_value m steps n g ≡ Over (Stands q w) t → ⊥) → (b : Bool) → then_follow (if b then Over Bound g.trace else follow_by draw by_value g (step numbers m g.config)) (follows numbers draw by_value m steps n) ≡ Over (Stands q w) t → ⊥
      due never true e = cc
      due never false e = on never (step numbers m g.config) e

      deep : ((g : Going ℕ) → follows numbers draw by_value m steps n g ≡ Over (Stands q w) t → ⊥) → (b : Bool) → then_follow (if b then Over Deep g.trace else if is_due g.config.frame.here.code g.config.callers && nat_le steps g.config.units then Over Bound g.trace else follow_by draw by_value g (step numbers m g.config)) (follows numbers draw by_value m steps n) ≡ Over (Stands q w) t → ⊥
      deep never true e = cc
      deep never false e = due never (is_due g.config.frame.here.code g.config.callers && nat_le steps g.config.units) e

pub comes-to-an-end : (m : Module) (entry : ℕ) (args : List Argument) (input : List ℕ) (steps : ℕ) → ComesToAnEnd m entry args input steps
comes-to-an-end m entry args input steps = at (started numbers m entry args) refl (begins numbers m entry args)
  where
    ended : (n : ℕ) (x : End ℕ) (trace : Trace) → runs_at m entry args input steps n ≡ Over (Ended x) trace → ComesToAnEnd m entry args input steps
    ended n (Returns vs) trace e = inl (_, (n, ap (λ x. run_of input x) e))
    ended n (Traps cause) trace e = inl (_, (n, ap (λ x. run_of input x) e))
    ended n Fails trace e = inl (_, (n, ap (λ x. run_of input x) e))
    ended n Assumes trace e = inl (_, (n, ap (λ x. run_of input x) e))
    ended n Stuck trace e = inr (n, trace, e)

    over : (n : ℕ) (halt : Halt ℕ) (trace : Trace) → runs_at m entry args input steps n ≡ Over halt trace → ((q : Question) (w : ℕ) → halt ≡ Stands q w → ⊥) → ComesToAnEnd m entry args input steps
    over n (Stands q w) trace e h = absurd (h q w refl)
    over n (Ended x) trace e h = ended n x trace e
    over n Bound trace e h = inl (_, (n, ap (λ x. run_of input x) e))
    over n Deep trace e h = inl (_, (n, ap (λ x. run_of input x) e))

    at : (x : Turned ℕ) → started numbers m entry args ≡ x → Begins x → ComesToAnEnd m entry args input steps
    at (Over halt trace) e b = over 0 halt trace (ap (λ x. then_follow x (follows numbers (taken input) by_value m steps 0)) e) (λ q w is. begun (instantiated m) q w trace (e ∙ ap (λ h. Over h trace) is))
      where
        begun : (s : Result (Store ℕ) (End ℕ)) (q : Question) (w : ℕ) (trace : Trace) → started_by (invoked numbers m entry args s) ≡ Over (Stands q w) trace → ⊥
        begun (Ok s) q w trace e = cc
        begun (Err x) q w trace e = cc
    at (On g) e b =
        let c : (halt : Halt ℕ) × (trace : Trace) × (n : ℕ) × (follows numbers (taken input) by_value m steps n g ≡ Over halt trace) = runs-end numbers m steps (taken input) by_value g b in
        over c.2 c.0 c.1 (ap (λ x. then_follow x (follows numbers (taken input) by_value m steps c.2)) e ∙ c.3)
        (λ q w is. stands-never m steps (taken input) c.2 g q w c.1 (c.3 ∙ ap (λ h. Over h c.1) is))

-- ---- and to one only

pub one-run : (m : Module) (entry : ℕ) (args : List Argument) (input : List ℕ) (steps : ℕ) (first second : Run) →
    IsRun m entry args input steps first → IsRun m entry args input steps second → first ≡ second
one-run m entry args input steps first second a b = at (started numbers m entry args) a.1 b.1
  where
    over : (x y : Turned ℕ) → ((h i : Halt ℕ) (s t : Trace) → x ≡ Over h s → y ≡ Over i t → (h ≡ i) × (s ≡ t)) → run_of input x ≡ Some first → run_of input y ≡ Some second → first ≡ second
    over (On g) y agree e f = absurd cc
    over (Over h s) (On g) agree e f = absurd cc
    over (Over h s) (Over i t) agree e f =
        let same : (h ≡ i) × (s ≡ t) = agree h i s t refl refl in
        let both : Some first ≡ Some second = sym e ∙ ap (λ h. run_of input (Over h s)) same.0 ∙ ap (λ s. run_of input (Over i s)) same.1 ∙ f in
        cc

    at : (x : Turned ℕ) → run_of input (then_follow x (follows numbers (taken input) by_value m steps a.0)) ≡ Some first →
        run_of input (then_follow x (follows numbers (taken input) by_value m steps b.0)) ≡ Some second → first ≡ second
    at (Over h s) e f = let both : Some first ≡ Some second = sym e ∙ f in cc
    at (On g) e f = over _ _ (λ h i s t. runs-agree numbers m steps (taken input) by_value a.0 b.0 g h i s t) e f
