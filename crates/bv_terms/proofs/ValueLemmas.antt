-- The value of a term, from those of its operands.
use Rattle.std.proofs.Common.{◌≡◌, ℕ, ◌+◌, ◌-◌, ◌^◌, ◌<◌, ◌≤◌, Bool, List, [], ◌∷◌, ◌++◌, length, map, take, All, refl, ap, ap₂, sym, ◌∙◌, subst, arith, ⊎_elim, add-one}
use Rattle.std.specs.Prelude.{slice_index_or, slice_set, Result, Ok, Err}
use Rattle.std.proofs.lemmas.List.{take_more, take_all, length-map, length-set, get_or-map, get_or_default}
use Rattle.std.proofs.lemmas.Bool.{cases_eq}
use Rattle.std.proofs.lemmas.List.Elements.{All-head, All-tail}
use Rattle.std.proofs.Math.Seq.{take-suc-set}
use Rattle.int_ops.specs.Bytes.{joined}
use Rattle.bv_terms.specs.declared.words.Word.{Word}
use Rattle.bv_terms.specs.declared.words.Word.TheVariants.{Num, Term as Numbered}
use Rattle.bv_terms.specs.Terms.{Term, Join, bytes_from, value_of, values_of, HasWidth}
use Rattle.bv_terms.specs.Graphs.{TermGraph, word_among, terms_of, term_of, IsBelow}
use Rattle.bv_terms.specs.code.KnownValues.{IsKnown, known_value, AreValues, Looks, LooksAll, Evaluates}
use Rattle.bv_terms.proofs.WidthLemmas.{value-below}
use Rattle.bv_terms.proofs.GraphLemmas.{length-terms_of, below-more}

-- ---- a known value is the word's

pub known-is : (terms : List Term) (input rounds values : List ℕ) (round : ℕ) (w : Word) → AreValues terms input rounds values round → IsBelow (256 + length terms) w
    → IsKnown rounds round w → known_value values w ≡ value_of input (word_among terms w)
known-is terms input rounds values round (Num n) all below known = refl
known-is terms input rounds values round (Numbered t) all below known = all.each (t - 256) (omega arith) known

pub looked : (g : TermGraph) (input rounds values : List ℕ) (round bound : ℕ) (w : Word) (r : Result ℕ ℕ) → AreValues (terms_of g.forms) input rounds values round
    → bound ≤ 256 + length g.forms → IsBelow bound w → Looks rounds values round w r → Evaluates input rounds round bound (term_of g w) r
looked g input rounds values round bound w (Ok x) all fits below looks =
    looks.1 ∙ known-is (terms_of g.forms) input rounds values round w all
    (below-more bound (256 + length (terms_of g.forms)) w (omega (arith, length-terms_of g.forms)) below) looks.0
looked g input rounds values round bound w (Err s) all fits below looks =
    let there : IsBelow bound (Numbered s) = subst (IsBelow bound) looks.0 below in (there.0, there.1, looks.1)

-- ---- the loop over bytes

pub record AreLooked (rounds values : List ℕ) (round : ℕ) (words : List Word) (all : List ℕ) (i : ℕ) : Type 0 where
  pub room : length all ≡ 8
  pub known : (k : ℕ) → k < i → IsKnown rounds round (slice_index_or words k (Num 0))
  pub filled : take i (map (known_value values) words) ≡ take i all

pub looked-more : (rounds values : List ℕ) (round : ℕ) (words : List Word) (all : List ℕ) (i x : ℕ) → i < length words → length words ≤ 8 → AreLooked rounds values round words all i
    → IsKnown rounds round (slice_index_or words i (Num 0)) × (x ≡ known_value values (slice_index_or words i (Num 0)))
    → AreLooked rounds values round words (slice_set all i x) (i + 1)
looked-more rounds values round words all i x below few l one = record {
  room = simp length-set l.room;
  known = λ k h. ⊎_elim (λ e. subst (λ n. IsKnown rounds round (slice_index_or words n (Num 0))) (sym e) one.0) (λ apart. l.known k (under k i h apart)) (cases_eq k i);
  filled = take_more (map (known_value values) words) i 0 (omega (arith, length-map words (known_value values)))
      ∙ ap₂ (λ (xs ys : List ℕ). xs ++ ys) l.filled (ap (λ v. v ∷ []) (get_or-map (known_value values) words i (Num 0) 0 below ∙ sym one.1))
      ∙ sym (take_set all i x (omega (arith, l.room)));
}
  where
    under : (k i : ℕ) → k < i + 1 → (k ≡ i → ⊥) → k < i
    under k i below apart = omega arith

    take_set : (all : List ℕ) (i n : ℕ) → i < length all → take (i + 1) (slice_set all i n) ≡ take i all ++ n ∷ []
    take_set all i n within = rw add-one (take-suc-set all i n within)

pub looked-whole : (rounds values : List ℕ) (round : ℕ) (words : List Word) (all : List ℕ) (i : ℕ) → AreLooked rounds values round words all i → i ≤ length words → length words ≤ i
    → map (known_value values) words ≡ take (length words) all
looked-whole rounds values round words all i l below above =
    let at : i ≡ length words = omega arith in
    sym (take_all (length words) (map (known_value values) words) (omega (arith, length-map words (known_value values))))
    ∙ subst (λ n. take n (map (known_value values) words) ≡ take n all) at l.filled

pub looked-known : (rounds values : List ℕ) (round : ℕ) (words : List Word) (all : List ℕ) (i : ℕ) → AreLooked rounds values round words all i → length words ≤ i → All (IsKnown rounds round) words
looked-known rounds values round words all i l above = λ k d below.
    subst (IsKnown rounds round) (get_or_default words k (Num 0) d below) (l.known k (omega arith))

pub looked-small : (rounds values : List ℕ) (round : ℕ) (words : List Word) (all : List ℕ) (i : ℕ) → AreLooked rounds values round words all i → i ≤ length words → length words ≤ i
    → All (λ w. IsKnown rounds round w → known_value values w < 256) words → All (λ n. n < 256) (take (length words) all)
looked-small rounds values round words all i l below above small =
    subst (All (λ n. n < 256)) (looked-whole rounds values round words all i l below above)
    (λ k d h. let within : k < length words = omega (arith, length-map words (known_value values)) in
    subst (λ n. n < 256) (sym (get_or-map (known_value values) words k (Num 0) d within)) (small k (Num 0) within (looked-known rounds values round words all i l above k (Num 0) within)))

-- ---- operands

pub operand-fits : (g : TermGraph) (input rounds values : List ℕ) (round bound : ℕ) (w : Word) (x bits : ℕ) → AreValues (terms_of g.forms) input rounds values round
    → bound ≤ 256 + length g.forms → IsBelow bound w → IsKnown rounds round w × (x ≡ known_value values w) → HasWidth bits (term_of g w) → x < 2 ^ bits
operand-fits g input rounds values round bound w x bits all fits below looks has =
    subst (λ n. n < 2 ^ bits) (sym (looked g input rounds values round bound w (Ok x) all fits below looks)) (value-below bits (term_of g w) input has)

pub bytes-fit : (g : TermGraph) (input rounds values : List ℕ) (round bound : ℕ) (words : List Word) → AreValues (terms_of g.forms) input rounds values round
    → bound ≤ 256 + length g.forms → All (IsBelow bound) words → All (λ b. HasWidth 8 (term_of g b)) words
    → All (λ w. IsKnown rounds round w → known_value values w < 256) words
bytes-fit g input rounds values round bound words all fits below each = λ i d within known.
    operand-fits g input rounds values round bound (slice_index_or words i d) (known_value values (slice_index_or words i d)) 8 all fits (below i d within) (known, refl) (each i d within)

known-map : (g : TermGraph) (input rounds values : List ℕ) (round bound : ℕ) (words : List Word) → AreValues (terms_of g.forms) input rounds values round
    → bound ≤ 256 + length g.forms → All (IsBelow bound) words → All (IsKnown rounds round) words
    → map (known_value values) words ≡ values_of input (bytes_from (map (term_of g) words))
known-map g input rounds values round bound [] all fits below known = refl
known-map g input rounds values round bound (w ∷ ws) all fits below known =
    let first : known_value values w ≡ value_of input (term_of g w) = looked g input rounds values round bound w (Ok (known_value values w)) all fits (All-head (IsBelow bound) w ws below) (All-head (IsKnown rounds round) w ws known, refl) in
    let others : map (known_value values) ws ≡ values_of input (bytes_from (map (term_of g) ws)) =
    known-map g input rounds values round bound ws all fits (All-tail (IsBelow bound) w ws below) (All-tail (IsKnown rounds round) w ws known) in cc

pub looked-all : (g : TermGraph) (input rounds values : List ℕ) (round bound : ℕ) (wide : Bool) (words : List Word) (r : Result ℕ ℕ) → AreValues (terms_of g.forms) input rounds values round
    → bound ≤ 256 + length g.forms → All (IsBelow bound) words → LooksAll rounds values round words r
    → Evaluates input rounds round bound (Join wide (bytes_from (map (term_of g) words))) r
looked-all g input rounds values round bound wide words (Ok x) all fits below looks =
    looks.1 ∙ ap joined (known-map g input rounds values round bound words all fits below looks.0)
looked-all g input rounds values round bound wide words (Err s) all fits below looks =
    let there : IsBelow bound (Numbered s) = subst (IsBelow bound) looks.2 (below looks.0 (Num 0) looks.1) in (there.0, there.1, looks.3)
