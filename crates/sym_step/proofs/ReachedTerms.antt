-- What holds wherever a run over terms has come to.
use Rattle.std.proofs.Common.{◌≡◌, ℕ, zero, suc, ◌+◌, ◌<◌, ◌≤◌, List, [], ◌∷◌, length, refl, sym, ap, ◌∙◌, subst, arith}
use Rattle.std.specs.Prelude.{Bool, true, false, ◌&&◌, nat_lt, nat_le, if◌then◌else◌, Option, Some, None, Result, Ok, Err}
use Rattle.std.proofs.lemmas.Bool.Decides.{nat_tests}
use Rattle.wasm_ast.specs.declared.instructions.Instr.{Instr}
use Rattle.bv_terms.specs.Terms.{Term, HasBits}
use Rattle.bv_terms.specs.Making.{terms}
use Rattle.wasm_reduction.specs.Configurations.{Store, Label, Frame, Config, Question, End, Next, Goes, Draws, Asks, Ends}
use Rattle.wasm_reduction.specs.Combinators.{cost_under, past}
use Rattle.wasm_reduction.specs.Control.{finish}
use Rattle.wasm_reduction.specs.Steps.{step, step_code}
use Rattle.wasm_reduction.specs.Instantiation.{instantiated, invoked}
use Rattle.wasm_reduction.specs.Outermost.{Ready}
use Rattle.wasm_reduction.specs.Widths.{HasWidths}
use Rattle.wasm_reduction.specs.Runs.{Going, Deep, Bound, Turned, On, Over, follow, follow_by, follows, then_follow, started, started_by, is_due, most_frames, by_list, replied}
use Rattle.wasm_reduction.proofs.Moves.{Legal, act-legal}
use Rattle.wasm_reduction.proofs.Endings.{moves-units, turn-progress}
use Rattle.wasm_reduction.proofs.OneRun.{begins, Begins}
use Rattle.sym_state.specs.Nodes.{CanExplore, Node}
use Rattle.sym_state.specs.States.{HasOver, over_terms}
use Rattle.sym_state.proofs.DrawnLemmas.{words-held}
use Rattle.sym_state.proofs.PlaceLemmas.{turn-next}
use Rattle.sym_state.proofs.DrawnLemmas.{config-wider}

module _ (n : Node) where
  -- what the run does in a turn
  abbrev pub turn : Going Term → Turned Term
  turn g = follow terms terms.symbol (by_list n.answers) n.invocation.«module» n.invocation.steps g

  -- What holds where the run begins, and after a turn from where it holds, holds wherever the run comes to.
  pub everywhere : (P : Config Term → Type 0) →
      ((g : Going Term) → started terms n.invocation.«module» n.invocation.entry n.invocation.args ≡ On g → P g.config) →
      ((g t : Going Term) → P g.config → turn g ≡ On t → P t.config) →
      (k : ℕ) (g : Going Term) → over_terms n k ≡ On g → P g.config
  everywhere P first more zero g e = at (started terms n.invocation.«module» n.invocation.entry n.invocation.args) refl e
    where
      at : (x : Turned Term) → started terms n.invocation.«module» n.invocation.entry n.invocation.args ≡ x → then_follow x (follows terms terms.symbol (by_list n.answers) n.invocation.«module» n.invocation.steps zero) ≡ On g → P g.config
      at (On s) is f = first g (is ∙ f)
      at (Over halt trace) is f = absurd cc
  everywhere P first more (suc k) g e = at (λ s f. everywhere P first more k s f) (over_terms n k) refl (sym (turn-next n.invocation n.answers k) ∙ e)
    where
      at : ((s : Going Term) → over_terms n k ≡ On s → P s.config) → (x : Turned Term) → over_terms n k ≡ x → then_follow x (follow terms terms.symbol (by_list n.answers) n.invocation.«module» n.invocation.steps) ≡ On g → P g.config
      at before (On s) is f = more s g (before s is) f
      at before (Over halt trace) is f = absurd cc

  -- the outermost frame only calls
  pub reached-ready : (k : ℕ) (g : Going Term) → over_terms n k ≡ On g → Ready g.config
  reached-ready k g e =
      everywhere Ready (λ s is. subst Begins is (begins terms n.invocation.«module» n.invocation.entry n.invocation.args))
      (λ s t ready f. (turn-progress terms n.invocation.«module» n.invocation.steps terms.symbol (by_list n.answers) s t ready f).ready) k g e

  -- ---- units

  abbrev Spends : Config Term → Next Term → Type 0
  Spends c (Goes d) = d.units ≤ n.invocation.steps
  Spends c (Draws wide d) = d.units ≤ n.invocation.steps
  Spends c (Asks q w) = Unit {0}
  Spends c (Ends e) = Unit {0}

  finish-spends : (c : Config Term) (ls : List (Label Term)) (fs : List (Frame Term)) → c.frame.outer ≡ ls → c.callers ≡ fs → c.units ≤ n.invocation.steps → Spends c (finish c c.frame.here.vals c.frame.outer)
  finish-spends c (l ∷ ls) fs o cs h = rw o h
  finish-spends c [] [] o cs h = rw (o, cs) tt
  finish-spends c [] (f ∷ fs) o cs h = rw (o, cs) h

  legal-spends : (c : Config Term) (is : List Instr) (a q : ℕ) (x : Next Term) → c.units + cost_under c.callers ≤ n.invocation.steps → Legal n.invocation.«module» (past c is) a q x → Spends c x
  legal-spends c is a q (Goes d) h l = omega (arith, h, moves-units n.invocation.«module» (past c is) d l)
  legal-spends c is a q (Draws wide d) h l = omega (arith, h, l.units)
  legal-spends c is a q (Asks question w) h l = tt
  legal-spends c is a q (Ends e) h l = tt

  step-spends : (c : Config Term) → c.units ≤ n.invocation.steps → is_due c.frame.here.code c.callers && nat_le n.invocation.steps c.units ≡ false → Spends c (step terms n.invocation.«module» c)
  step-spends c h free = at c.frame.here.code c.callers refl refl
    where
      at : (code : List Instr) (fs : List (Frame Term)) → c.frame.here.code ≡ code → c.callers ≡ fs → Spends c (step_code terms n.invocation.«module» c c.frame.here.code)
      at [] fs e cs = rw e (finish-spends c c.frame.outer fs refl cs h)
      at (i ∷ is) [] e cs = rw e (legal-spends c is _ _ _ (omega (arith, h, ap (λ l. cost_under l) cs)) (act-legal terms n.invocation.«module» (past c is) c.frame.here.vals c.answers i))
      at (i ∷ is) (f ∷ fs) e cs =
          let room : nat_le n.invocation.steps c.units ≡ false = sym (ap (λ l. is_due l c.callers && nat_le n.invocation.steps c.units) e ∙ ap (λ l. is_due (i ∷ is) l && nat_le n.invocation.steps c.units) cs) ∙ free in
          let below : c.units < n.invocation.steps = grind (arith, nat_tests, room) in
          rw e (legal-spends c is _ _ _ (omega (arith, below, ap (λ l. cost_under l) cs)) (act-legal terms n.invocation.«module» (past c is) c.frame.here.vals c.answers i))

  abbrev units_of : Turned Term → ℕ
  units_of (On g) = g.config.units
  units_of (Over halt trace) = 0

  pub reached-units : (k : ℕ) (g : Going Term) → over_terms n k ≡ On g → g.config.units ≤ n.invocation.steps
  reached-units k g e = everywhere (λ c. c.units ≤ n.invocation.steps) (λ s is. begun (instantiated n.invocation.«module») s is) more k g e
    where
      begun : (x : Result (Store ℕ) (End ℕ)) (s : Going Term) → started_by (invoked terms n.invocation.«module» n.invocation.entry n.invocation.args x) ≡ On s → s.config.units ≤ n.invocation.steps
      begun (Ok t) s is = let same : 0 ≡ s.config.units = ap units_of is in omega (arith, same)
      begun (Err t) s is = absurd cc

      asked : (s t : Going Term) (q : Question) (w : Term) (o : Option ℕ) → s.config.units ≤ n.invocation.steps → replied s q w o ≡ On t → t.config.units ≤ n.invocation.steps
      asked s t q w None h f = absurd cc
      asked s t q w (Some a) h f = let same : s.config.units ≡ t.config.units = ap units_of f in omega (arith, h, same)

      followed : (s t : Going Term) (x : Next Term) → s.config.units ≤ n.invocation.steps → Spends s.config x → follow_by terms.symbol (by_list n.answers) s x ≡ On t → t.config.units ≤ n.invocation.steps
      followed s t (Goes d) h k f = let same : d.units ≡ t.config.units = ap units_of f in omega (arith, k, same)
      followed s t (Draws wide d) h k f = let same : d.units ≡ t.config.units = ap units_of f in omega (arith, k, same)
      followed s t (Asks q w) h k f = asked s t q w (by_list n.answers q w s.trace.answers) h f
      followed s t (Ends e) h k f = absurd cc

      more : (s t : Going Term) → s.config.units ≤ n.invocation.steps → turn s ≡ On t → t.config.units ≤ n.invocation.steps
      more s t h f = deep (nat_lt most_frames (length s.config.callers)) f
        where
          due : (b : Bool) → is_due s.config.frame.here.code s.config.callers && nat_le n.invocation.steps s.config.units ≡ b → (if b then Over Bound s.trace else follow_by terms.symbol (by_list n.answers) s (step terms n.invocation.«module» s.config)) ≡ On t → t.config.units ≤ n.invocation.steps
          due true is f = absurd cc
          due false is f = followed s t (step terms n.invocation.«module» s.config) h (step-spends s.config h is) f

          deep : (b : Bool) → (if b then Over Deep s.trace else if is_due s.config.frame.here.code s.config.callers && nat_le n.invocation.steps s.config.units then Over Bound s.trace else follow_by terms.symbol (by_list n.answers) s (step terms n.invocation.«module» s.config)) ≡ On t → t.config.units ≤ n.invocation.steps
          deep true f = absurd cc
          deep false f = due (is_due s.config.frame.here.code s.config.callers && nat_le n.invocation.steps s.config.units) refl f

  -- its words have their widths
  pub reached-widths : CanExplore n.invocation → (k : ℕ) (g : Going Term) → over_terms n k ≡ On g → HasWidths HasBits g.config
  reached-widths can k g e = config-wider (HasOver g.trace.symbols) HasBits (λ bits t h. h.0) g.config (words-held n can k g e)
