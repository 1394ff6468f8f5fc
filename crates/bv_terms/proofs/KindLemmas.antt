-- The operations of the kind of terms: their widths.
use Rattle.std.proofs.Common.{◌≡◌, ℕ, Bool, List, [], ◌∷◌, length, map, All, refl, ap, sym, subst, ⊎_elim, inl, inr, arith}
use Rattle.std.proofs.lemmas.List.Elements.{All-head, All-tail}
use Rattle.int_ops.specs.Operators.{result_bits}
use Rattle.wasm_rules.specs.Words.{bits_where, CanJoin, HasSome, Gives}
use Rattle.bv_terms.specs.Terms.{Term, Unary, Binary, Choose, Byte, Join, bytes_from, count_of, value_of, values_of, HasWidth, HaveByteWidths, HasBits}
use Rattle.bv_terms.specs.Making.{made, terms}
use Rattle.bv_terms.proofs.WidthLemmas.{value-below}
use Rattle.bv_terms.proofs.RuleLemmas.{made-keeps}

pub has : (t : Term) (bits : ℕ) → HasWidth bits t → HasBits bits t
has t bits h = (h, λ input. value-below bits t input h)

pub made-has : (t : Term) (bits : ℕ) → HasWidth bits t → HasBits bits (made t)
made-has t bits h = has (made t) bits (made-keeps t bits h).0

pub some : (t : Term) → HasSome HasBits t → HasSome HasWidth t
some t h = ⊎_elim (λ a. inl a.0) (λ more. inr (⊎_elim (λ a. inl a.0) (λ a. inr a.0) more)) h

pub count_of-bytes_from : (ts : List Term) → count_of (bytes_from ts) ≡ length ts
count_of-bytes_from [] = refl
count_of-bytes_from (t ∷ ts) = omega (arith, count_of-bytes_from ts)

pub are_bytes : (ts : List Term) → All (HasWidth 8) ts → HaveByteWidths (bytes_from ts)
are_bytes [] each = tt
are_bytes (t ∷ ts) each = (All-head (HasWidth 8) t ts each, are_bytes ts (All-tail (HasWidth 8) t ts each))

pub values_of-bytes_from : (input : List ℕ) (ts : List Term) → values_of input (bytes_from ts) ≡ map (value_of input) ts
values_of-bytes_from input [] = refl
values_of-bytes_from input (t ∷ ts) = ap (λ vs. value_of input t ∷ vs) (values_of-bytes_from input ts)

pub join-width : (wide : Bool) (ts : List Term) → CanJoin wide (length ts) → All (HasWidth 8) ts → HasWidth (bits_where wide) (Join wide (bytes_from ts))
join-width wide ts count each = (refl, subst (CanJoin wide) (sym (count_of-bytes_from ts)) count, are_bytes ts each)

widths : (ts : List Term) → All (HasBits 8) ts → All (HasWidth 8) ts
widths ts each = λ i d below. (each i d below).0

pub terms-give : Gives terms HasBits
terms-give = record {
  number = λ bits n h. (h, λ input. h);
  unary = λ op a class h. made-has (Unary op a) (result_bits op) (refl, class, h.0);
  binary = λ op a b class h k. made-has (Binary op a b) (result_bits op) (refl, class, h.0, k.0);
  choose = λ wide c a b s h k. made-has (Choose wide c a b) (bits_where wide) (refl, some c s, h.0, k.0);
  byte = λ a i place s. made-has (Byte a i) 8 (refl, place, some a s);
  join = λ wide ts count each. made-has (Join wide (bytes_from ts)) (bits_where wide) (join-width wide ts count (widths ts each));
}
