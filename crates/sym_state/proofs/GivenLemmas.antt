-- The least input of a node, at a question of a term, is the least that meets the conditions.
use Rattle.std.proofs.Common.{◌≡◌, ℕ, suc, ◌+◌, ◌%◌, ◌^◌, List, [], ◌∷◌, ◌++◌, refl, sym, ap, ◌∙◌, subst, arith}
use Rattle.std.specs.Prelude.{Bool, true, false, slice_index}
use Rattle.wasm_rules.specs.Words.{taken}
use Rattle.wasm_reduction.specs.Runs.{Trace, Halt, Over, draws_from}
use Rattle.wasm_reduction.specs.RunImages.{trace_of}
use Rattle.wasm_reduction.specs.Scripts.{Script, Passes, as_input}
use Rattle.wasm_reduction.proofs.ScriptLaws.{left-comes}
use Rattle.bv_terms.specs.Terms.{Term, value_of}
use Rattle.sym_state.specs.Nodes.{CanExplore, Condition, IsMet, Node, IsMemberAt, IsAtMost, draws_before}
use Rattle.sym_state.specs.States.{Path, over_terms, Follows, Least, IsLeastGiven, numbers_taken}
use Rattle.sym_state.proofs.ValueLemmas.{listed}
use Rattle.sym_state.proofs.LeastLemmas.{stays, over-of, first-drawn}
use Rattle.sym_state.proofs.MemberLemmas.{met-more, met-less}

-- ---- what members draw before a question

-- what a member draws before a question at which the run over terms stands
pub drawn-there : (n : Node) → CanExplore n.invocation → (turns : ℕ) (halt : Halt Term) (trace : Trace) → over_terms n turns ≡ Over halt trace
    → (I : List ℕ) (left : Script) → IsMemberAt n I left → draws_before left ≡ numbers_taken I trace.symbols
drawn-there n can turns halt trace there I left at =
    let i = n.invocation in
    let c = left-comes i.«module» i.entry i.args I i.steps Passes n.answers at.script left at.is_script at.past in
    let o = over-of (value_of I) (over_terms n c.turns) c.halt c.trace (sym (listed n can I c.turns) ∙ c.over) in
    let later : over_terms n (turns + c.turns) ≡ Over o.0 c.trace = stays n c.turns turns o.0 c.trace o.1 in
    let other : over_terms n (c.turns + turns) ≡ Over halt trace = stays n turns c.turns halt trace there in
    let order : turns + c.turns ≡ c.turns + turns = omega arith in
    let both : Over o.0 c.trace ≡ Over halt trace = sym later ∙ ap (λ k. over_terms n k) order ∙ other in
    let same : c.trace ≡ trace = ap trace_of both in
    ap as_input (sym (first-drawn I c.halt c.trace left c.first)) ∙ ap (λ t. numbers_taken I t.symbols) same

-- ---- numbers that are taken again

twice : (n : ℕ) (wide : Bool) (I : List ℕ) (k : ℕ) (L : List ℕ) (j : ℕ) → slice_index L j ≡ taken I k wide → taken L j wide ≡ taken I k wide
twice n true I k L j e = ap (λ v. v % 2 ^ 64) e ∙ omega arith
twice n false I k L j e = ap (λ v. v % 2 ^ 32) e ∙ omega arith

pub taken-again : (I L : List ℕ) (k : ℕ) (draws : List Bool) → ((j : ℕ) → slice_index L (k + j) ≡ slice_index (as_input (draws_from I k draws)) j)
    → as_input (draws_from L k draws) ≡ as_input (draws_from I k draws)
taken-again I L k [] same = refl
taken-again I L k (wide ∷ draws) same =
    let here : slice_index L k ≡ taken I k wide = ap (λ i. slice_index L i) (let none : k ≡ k + 0 = omega arith in none) ∙ same 0 in
    let rest = taken-again I L (k + 1) draws (λ j. ap (λ i. slice_index L i) (let next : k + 1 + j ≡ k + suc j = omega arith in next) ∙ same (suc j)) in
    ap (λ v. v ∷ as_input (draws_from L (k + 1) draws)) (twice 0 wide I k L k here) ∙ ap (λ l. taken I k wide ∷ l) rest

-- ---- the least input

pub given-of-least : (n : Node) (p : Path) → CanExplore n.invocation → (h : Follows n p) → (halt : Halt Term) → over_terms n (suc h.place.turns) ≡ Over halt (trace_of (over_terms n h.place.turns))
    → Least n p → IsLeastGiven p.conditions p.draws p.least
given-of-least n p can h halt there least =
    let w = least.0 in
    let l = least.1 in
    let drawn : (I : List ℕ) (left : Script) → IsMemberAt n I left → draws_before left ≡ numbers_taken I (trace_of (over_terms n h.place.turns)).symbols = λ I left at. drawn-there n can (suc h.place.turns) halt (trace_of (over_terms n h.place.turns)) there I left at in
    let draws : (trace_of (over_terms n h.place.turns)).symbols ≡ p.draws = sym h.place.draws in
    let w_is : w ≡ numbers_taken l.input p.draws = sym l.draws_are ∙ drawn l.input l.left l.member ∙ ap (numbers_taken l.input) draws in
    let again : numbers_taken p.least p.draws ≡ numbers_taken l.input p.draws =
    taken-again l.input p.least 0 p.draws (λ j. ap (λ i. slice_index p.least i) (let none : 0 + j ≡ j = omega arith in none) ∙ least.2 j ∙ ap (λ x. slice_index x j) w_is) in
    record {
      meets = (h.members p.least).1 h.least;
      over = λ k. least.2 k ∙ ap (λ x. slice_index x k) (w_is ∙ sym again);
      least = λ other met.
          let m = (h.members other).0 met in
          let less = l.least other m.0 m.1 in
          subst (λ x. IsAtMost x (numbers_taken other p.draws)) (w_is ∙ sym again)
          (subst (λ x. IsAtMost w x) (drawn other m.0 m.1 ∙ ap (numbers_taken other) draws) less);
    }

-- a condition more that the least input meets
pub given-more : (C : List Condition) (draws : List Bool) (I : List ℕ) (c : Condition) → IsLeastGiven C draws I → IsMet I c → IsLeastGiven (C ++ c ∷ []) draws I
given-more C draws I c given met = record {
  meets = met-more I C c given.meets met;
  over = given.over;
  least = λ other k. given.least other (met-less other C c k).0;
}
