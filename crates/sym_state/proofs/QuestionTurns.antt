-- The turn before a question.
use Rattle.std.proofs.Common.{◌≡◌, ℕ, zero, suc, List, Bool, refl, sym, ap, ◌∙◌, subst}
use Rattle.std.specs.Prelude.{Result, Ok, Err}
use Rattle.wasm_reduction.specs.Configurations.{Question, End, Config}
use Rattle.wasm_reduction.specs.Instantiation.{first_config}
use Rattle.wasm_reduction.specs.Runs.{Trace, no_trace, Going, Stands, Turned, On, Over, by_list, follow, follows, started_by, then_follow}
use Rattle.wasm_reduction.specs.RunImages.{IsAnswered, trace_of}
use Rattle.wasm_reduction.proofs.ListedRuns.{turn-asks}
use Rattle.bv_terms.specs.Terms.{Term}
use Rattle.bv_terms.specs.Making.{terms}
use Rattle.sym_state.specs.Nodes.{Node}
use Rattle.sym_state.specs.States.{over_terms}
use Rattle.sym_state.proofs.PlaceLemmas.{turn-next}

-- a run that stands at a question had drawn as much the turn before, when it didn't
pub record Before (n : Node) (symbols : List Bool) : Type 0 where
  pub turns : ℕ
  pub answered : IsAnswered (over_terms n turns)
  pub drawn : (trace_of (over_terms n turns)).symbols ≡ symbols

start-asks : (r : Result (Config Term) (End Term)) (go : Going Term → Turned Term) → ((g : Going Term) → go g ≡ On g) → (q : Question) (t : Term) (trace : Trace) → then_follow (started_by r) go ≡ Over (Stands q t) trace → ⊥
start-asks (Ok c) go h q t trace e = let f : On (record { config = c; trace = no_trace }) ≡ Over (Stands q t) trace = sym (h (record { config = c; trace = no_trace })) ∙ e in cc
start-asks (Err x) go h q t trace e = cc

pub turn-before : (n : Node) (k : ℕ) (q : Question) (t : Term) (trace : Trace) → over_terms n k ≡ Over (Stands q t) trace → Before n trace.symbols
turn-before n zero q t trace e =
    let i = n.invocation in
    absurd (start-asks (first_config terms i.«module» i.entry i.args) (follows terms terms.symbol (by_list n.answers) i.«module» i.steps zero) (λ g. refl) q t trace e)
turn-before n (suc k) q t trace e = at (λ f. turn-before n k q t trace f) (over_terms n k) refl (sym (turn-next n.invocation n.answers k) ∙ e)
  where
    at : (over_terms n k ≡ Over (Stands q t) trace → Before n trace.symbols) → (x : Turned Term) → over_terms n k ≡ x → then_follow x (follow terms terms.symbol (by_list n.answers) n.invocation.«module» n.invocation.steps) ≡ Over (Stands q t) trace → Before n trace.symbols
    at earlier (On g) is f =
        let asks = turn-asks terms terms.symbol n.invocation.«module» n.invocation.steps n.answers g q t trace f in
        record { turns = k; answered = subst (λ x. IsAnswered x) (sym is) tt; drawn = ap (λ x. (trace_of x).symbols) is ∙ ap (λ t. t.symbols) asks.1 }
    at earlier (Over halt was) is f = earlier (is ∙ f)
