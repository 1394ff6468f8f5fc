-- The walk down a term: the stack has terms whose values are wanted, each an operand of the one before it.
use Rattle.std.proofs.Common.{◌≡◌, ◌≢◌, ℕ, zero, suc, ◌+◌, ◌-◌, ◌*◌, ◌<◌, ◌≤◌, Bool, true, false, cond, ◌==◌, List, [], ◌∷◌, length, All, refl, ap, sym, ◌∙◌, subst, arith}
use Rattle.std.specs.Prelude.{slice_index, slice_set}
use Rattle.std.proofs.lemmas.List.{length-set, get_or-set_same}
use Rattle.std.proofs.lemmas.List.Elements.{All-weaker}
use Rattle.std.proofs.lemmas.Bool.{false≢true}
use Rattle.std.proofs.lemmas.Bool.Decides.{nat_tests}
use Rattle.bv_terms.specs.declared.words.Word.TheVariants.{Term as Numbered}
use Rattle.bv_terms.specs.Terms.{value_of}
use Rattle.bv_terms.specs.Graphs.{TermGraph, terms_of, term_of, Holds}
use Rattle.bv_terms.specs.code.KnownValues.{AreValues}
use Rattle.bv_terms.proofs.GraphLemmas.{length-terms_of}

-- a term on the stack, whose value isn't known, with room above it for those below it
pub record IsOpen (g : TermGraph) (round : ℕ) (rounds : List ℕ) (k s : ℕ) : Type 0 where
  pub low : 256 ≤ s
  pub below : s < 256 + length g.forms
  pub open_yet : slice_index rounds (s - 256) ≢ round
  pub room : k + 1 + (s - 256) ≤ length g.forms

pub record Walking (g : TermGraph) (input : List ℕ) (t round : ℕ) (rounds values stack : List ℕ) (depth : ℕ) : Type 0 where
  pub all : AreValues (terms_of g.forms) input rounds values round
  pub stack_long : length stack ≡ length rounds
  pub within : depth ≤ length stack
  pub entries : (k : ℕ) → k < depth → IsOpen g round rounds k (slice_index stack k)
  pub falling : (k m : ℕ) → k < m → m < depth → slice_index stack m < slice_index stack k
  pub past : All (λ r. r ≤ round) rounds
  pub bottom : 0 < depth → slice_index stack 0 ≡ t
  pub ended : depth ≡ 0 → slice_index rounds (t - 256) ≡ round

-- ---- the measure

-- how many values aren't known
abbrev pub open_count : ℕ → List ℕ → ℕ
open_count round [] = 0
open_count round (r ∷ rs) = cond (r == round) 0 1 + open_count round rs

open-set : (round : ℕ) (rs : List ℕ) (i : ℕ) → i < length rs → slice_index rs i ≢ round → open_count round (slice_set rs i round) + 1 ≡ open_count round rs
open-set round [] i h apart = absurd (omega arith)
open-set round (r ∷ rs) zero h apart = go (r == round) (round == round) refl refl
  where
    go : (a b : Bool) → (r == round) ≡ a → (round == round) ≡ b → cond b 0 1 + open_count round rs + 1 ≡ cond a 0 1 + open_count round rs
    go true b e f = absurd (apart (equal r round e))
      where
        equal : (m n : ℕ) → (m == n) ≡ true → m ≡ n
        equal m n e = grind (arith, nat_tests)
    go false true e f = omega arith
    go false false e f = absurd (unequal round f)
      where
        unequal : (n : ℕ) → (n == n) ≡ false → ⊥
        unequal n e = let wrong : (n == n) ≡ true = grind (arith, nat_tests) in false≢true (sym e ∙ wrong)
open-set round (r ∷ rs) (suc i) h apart = omega (arith, open-set round rs i (omega arith) apart)

abbrev pub steps : ℕ → List ℕ → List ℕ → ℕ → ℕ
steps round rounds stack depth = open_count round rounds * (length stack + 1) + (length stack - depth)

product-more : (c k : ℕ) → (c + 1) * k ≡ c * k + k
product-more c k = grind arith

pub steps-pop : (round : ℕ) (rounds stack : List ℕ) (depth i : ℕ) → 0 < depth → depth ≤ length stack → i < length rounds → slice_index rounds i ≢ round
    → steps round (slice_set rounds i round) stack (depth - 1) < steps round rounds stack depth
steps-pop round rounds stack depth i some within here apart =
    let more : open_count round rounds * (length stack + 1) ≡ open_count round (slice_set rounds i round) * (length stack + 1) + (length stack + 1) =
    ap (λ n. n * (length stack + 1)) (sym (open-set round rounds i here apart)) ∙ product-more (open_count round (slice_set rounds i round)) (length stack + 1) in
    omega arith

-- ---- the steps

pub walk-start : (g : TermGraph) (input : List ℕ) (t round : ℕ) (rounds values stack : List ℕ) → Holds g (Numbered t) → length g.forms ≤ length rounds → length values ≡ length rounds
    → length stack ≡ length rounds → All (λ r. r < round) rounds → Walking g input t round rounds values (slice_set stack 0 t) 1
walk-start g input t round rounds values stack held room values_long stack_long fresh = record {
  all = record {
    long = omega (arith, length-terms_of g.forms);
    same_long = values_long;
    each = λ i below known. absurd (not_yet i (omega (arith, length-terms_of g.forms)) known);
  };
  stack_long = simp length-set stack_long;
  within = omega (arith, length-set stack 0 t, held);
  entries = λ k h. subst (λ s. IsOpen g round rounds k s) (sym (at k h)) (record { low = held.0; below = held.1; open_yet = not_yet (t - 256) (omega (arith, held)); room = omega (arith, held, h) });
  falling = λ k m h below. absurd (omega arith);
  past = All-weaker (λ r. r < round) (λ r. r ≤ round) (λ r h. omega arith) rounds fresh;
  bottom = λ h. at 0 (omega arith);
  ended = λ h. absurd (omega arith);
}
  where
    not_yet : (i : ℕ) → i < length rounds → slice_index rounds i ≡ round → ⊥
    not_yet i below e = omega (arith, fresh i 0 below, e)

    at : (k : ℕ) → k < 1 → slice_index (slice_set stack 0 t) k ≡ t
    at zero h = get_or-set_same stack 0 t 0 (omega (arith, held, stack_long))
    at (suc k) h = absurd (omega arith)

pub walked : (g : TermGraph) (input : List ℕ) (t round : ℕ) (rounds values stack : List ℕ) (depth : ℕ) → Walking g input t round rounds values stack depth → depth ≡ 0 → Holds g (Numbered t)
    → slice_index values (t - 256) ≡ value_of input (term_of g (Numbered t))
walked g input t round rounds values stack depth walk e held = walk.all.each (t - 256) (omega (arith, held, length-terms_of g.forms)) (walk.ended e)
