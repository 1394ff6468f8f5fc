-- The sequences of an expression, laid out in the order in which they open, are numbered in that order: what both forms of a
-- module, bytes and text, need of the bodies that they spell.
use Rattle.std.proofs.Common.{◌≡◌, ℕ, zero, suc, ◌+◌, ◌-◌, ◌<◌, inl, inr, Bool, true, false, cond, List, [], ◌∷◌, ◌++◌, length, Option, Some, None, refl, sym, ap, ◌∙◌, arith, length-append, zero-add}
use Rattle.std.specs.Prelude.{slice_get, slice_index, nat_lt, ◌==◌, ◌&&◌, option_and_then}
use Rattle.std.proofs.lemmas.List.{get_or_append_left, get_or-append-add}
use Rattle.std.proofs.lemmas.Bool.{cases_lt}
use Rattle.std.proofs.lemmas.Bool.Decides.{nat_tests}
use Rattle.wasm_ast.specs.Numbering.{after, names, IsNumbered}
use Rattle.wasm_ast.specs.declared.instructions.Instr.{Instr}
use Rattle.wasm_ast.proofs.NumberingLemmas.{after-append, if_some}

taken : {X : Type 0} (b : Bool) (x y : X) → b ≡ true → cond b x y ≡ x
taken true x y e = refl
taken false x y e = absurd cc

-- the ends stand among all ends from k on
abbrev pub StandAt : List ℕ → ℕ → List ℕ → Type 0
StandAt all k ends = (i : ℕ) → i < length ends → (k + i < length all) × (slice_index all (k + i) ≡ slice_index ends i)

-- Sequences with these names open one after another, the first with the number k, and inside are they and all inside them.
pub record IsLaid (k : ℕ) (ns : List ℕ) (inside : List (List Instr)) : Type 0 where
  pub ends : List ℕ
  pub long : length ends ≡ length inside
  pub outer : (all : List ℕ) → StandAt all k ends → after all ns k ≡ Some (k + length inside)
  pub inner : (all : List ℕ) → StandAt all k ends → (i : ℕ) (instrs : List Instr) → slice_get inside i ≡ Some instrs → after all (names instrs) (k + i + 1) ≡ Some (slice_index all (k + i))

some : ℕ → Option ℕ
some n = Some n

none_laid_inner : (all : List ℕ) (k i : ℕ) (instrs : List Instr) → slice_get (let l : List (List Instr) = [] in l) i ≡ Some instrs → after all (names instrs) (k + i + 1) ≡ Some (slice_index all (k + i))
none_laid_inner all k i instrs e = absurd cc

pub none_laid : (k : ℕ) → IsLaid k [] []
none_laid k = record {
  ends = [];
  long = refl;
  outer = λ all h. let same : k ≡ k + 0 = omega arith in ap (λ n. let o : Option ℕ = Some n in o) same;
  inner = λ all h i instrs e. none_laid_inner all k i instrs e;
}

inner_of : (all : List ℕ) (k : ℕ) (body : List Instr) (inside : List (List Instr)) → after all (names body) (k + 1) ≡ Some (slice_index all k)
    → ((i : ℕ) (instrs : List Instr) → slice_get inside i ≡ Some instrs → after all (names instrs) (k + 1 + i + 1) ≡ Some (slice_index all (k + 1 + i)))
    → (i : ℕ) (instrs : List Instr) → slice_get (body ∷ inside) i ≡ Some instrs → after all (names instrs) (k + i + 1) ≡ Some (slice_index all (k + i))
inner_of all k body inside first later zero instrs e =
    let same : body ≡ instrs = cc in
    let place : k + 0 ≡ k = omega arith in
    rw (place, ← same) first
inner_of all k body inside first later (suc i) instrs e =
    let place : k + suc i ≡ k + 1 + i = omega arith in
    rw place (later i instrs e)

-- a sequence and all inside it
pub wrapped : (k : ℕ) (body : List Instr) (inside : List (List Instr)) → IsLaid (k + 1) (names body) inside → IsLaid k (k ∷ []) (body ∷ inside)
wrapped k body inside p =
    let end = k + 1 + length inside in
    let deeper : (all : List ℕ) → StandAt all k (end ∷ p.ends) → StandAt all (k + 1) p.ends =
    λ all h i lt. let at = h (suc i) (omega arith) in let place : k + 1 + i ≡ k + suc i = omega arith in (omega (arith, at.0), ap (slice_index all) place ∙ at.1) in
    let here : (all : List ℕ) → StandAt all k (end ∷ p.ends) → (k < length all) × (slice_index all k ≡ end) =
    λ all h. let at = h 0 (omega arith) in let place : k ≡ k + 0 = omega arith in (omega (arith, at.0), ap (slice_index all) place ∙ at.1) in
    record {
      ends = end ∷ p.ends;
      long = ap suc p.long;
      outer = λ all h.
          let lt = (here all h).0 in
          let test : (k == k && nat_lt k (length all)) ≡ true = grind (arith, nat_tests) in
          let place : end ≡ k + suc (length inside) = omega arith in
          taken (k == k && nat_lt k (length all)) (let o : Option ℕ = Some (slice_index all k) in o) None test
          ∙ ap (λ n. let o : Option ℕ = Some n in o) ((here all h).1 ∙ place);
      inner = λ all h. inner_of all k body inside (p.outer all (deeper all h) ∙ ap (λ n. let o : Option ℕ = Some n in o) (sym (here all h).1)) (p.inner all (deeper all h));
    }

get_left : {A : Type 0} (xs ys : List A) (i : ℕ) → i < length xs → slice_get (xs ++ ys) i ≡ slice_get xs i
get_left [] ys i lt = absurd (omega arith)
get_left (x ∷ xs) ys zero lt = refl
get_left (x ∷ xs) ys (suc i) lt = get_left xs ys i (omega arith)

get_right : {A : Type 0} (xs ys : List A) (i : ℕ) → slice_get (xs ++ ys) (length xs + i) ≡ slice_get ys i
get_right [] ys i = ap (slice_get ys) (zero-add i)
get_right (x ∷ xs) ys i = let place : suc (length xs) + i ≡ suc (length xs + i) = omega arith in ap (slice_get (x ∷ (xs ++ ys))) place ∙ get_right xs ys i

-- some sequences, and then others
pub appended : (k : ℕ) (ns ms : List ℕ) (a b : List (List Instr)) → IsLaid k ns a → IsLaid (k + length a) ms b → IsLaid k (ns ++ ms) (a ++ b)
appended k ns ms a b p q =
    let left : (all : List ℕ) → StandAt all k (p.ends ++ q.ends) → StandAt all k p.ends =
    λ all h i lt. let at = h i (omega (arith, length-append p.ends q.ends)) in (at.0, at.1 ∙ get_or_append_left p.ends q.ends 0 i lt) in
    let right : (all : List ℕ) → StandAt all k (p.ends ++ q.ends) → StandAt all (k + length a) q.ends =
    λ all h i lt.
    let at = h (length p.ends + i) (omega (arith, length-append p.ends q.ends)) in
    let place : k + length a + i ≡ k + (length p.ends + i) = omega (arith, p.long) in
    (omega (arith, at.0, p.long), ap (slice_index all) place ∙ at.1 ∙ get_or-append-add p.ends q.ends i 0) in
    record {
      ends = p.ends ++ q.ends;
      long = length-append p.ends q.ends ∙ ap (λ n. n + length q.ends) p.long ∙ ap (λ n. length a + n) q.long ∙ sym (length-append a b);
      outer = λ all h.
          let place : k + length a + length b ≡ k + length (a ++ b) = omega (arith, length-append a b) in
          after-append all ns ms k ∙ ap (option_and_then (after all ms)) (p.outer all (left all h)) ∙ q.outer all (right all h) ∙ ap (λ n. let o : Option ℕ = Some n in o) place;
      inner = λ all h i instrs e.
          elim (cases_lt i (length a)) [
            | inl lt ↦ p.inner all (left all h) i instrs (sym (get_left a b i lt) ∙ e)
            | inr le ↦
                let place : i ≡ length a + (i - length a) = omega arith in
                let at : k + i ≡ k + length a + (i - length a) = omega arith in
                rw at (q.inner all (right all h) (i - length a) instrs (sym (get_right a b (i - length a)) ∙ ap (slice_get (a ++ b)) (sym place) ∙ e))
          ];
    }

some_same : (m n : ℕ) → (let o : Option ℕ = Some m in o) ≡ Some n → m ≡ n
some_same m n e = cc

-- all sequences of an expression
pub numbered : (body : List Instr) (inside : List (List Instr)) → IsLaid 1 (names body) inside → IsNumbered (body ∷ inside)
numbered body inside p =
    let w = wrapped 0 body inside p in
    let stand : StandAt w.ends 0 w.ends = λ i lt. (omega arith, ap (slice_index w.ends) (zero-add i)) in
    let outer = if_some (0 == 0 && nat_lt 0 (length w.ends)) (let o : Option ℕ = Some (slice_index w.ends 0) in o) (0 + length (body ∷ inside)) (w.outer w.ends stand) in
    record {
      outermost = omega arith;
      ends = w.ends;
      are_ends = record {
        long = w.long;
        each = λ i instrs e. let place : 0 + i ≡ i = zero-add i in rw place at (w.inner w.ends stand i instrs e);
      };
      all_inside = some_same (slice_index w.ends 0) (0 + length (body ∷ inside)) outer.1 ∙ zero-add (length (body ∷ inside));
    }
