-- A term's value hangs on the drawn symbols alone.
use Rattle.std.proofs.Common.{◌≡◌, ℕ, zero, suc, ◌%◌, ◌^◌, Bool, List, [], ◌∷◌, slice_get, refl, ap, ◌∙◌, ap₂, Some}
use Rattle.std.proofs.Math.Nat.{mod-mod}
use Rattle.std.proofs.lemmas.Nat.{pow_pos, mod_below}
use Rattle.int_ops.specs.Operators.{unary, total}
use Rattle.int_ops.specs.Bytes.{byte_of, joined}
use Rattle.wasm_rules.specs.Words.{bits_where, chosen, taken}
use Rattle.bv_terms.specs.Terms.{Term, Number, Symbol, Unary, Binary, Choose, Byte, Join, Bytes, NoBytes, Then, value_of, values_of, HasSymbols, HaveSymbols}
use Rattle.bit_blast.specs.Inputs.{IsInput, numbers_for}

abbrev Alike : List Bool → List ℕ → List ℕ → Type 0
Alike draws one other = (k : ℕ) (wide : Bool) → slice_get draws k ≡ Some wide → taken one k wide ≡ taken other k wide

mutual
  pub same_value : (draws : List Bool) (one other : List ℕ) → Alike draws one other → (t : Term) → HasSymbols draws t → value_of one t ≡ value_of other t
  same_value draws one other h (Number n) d = refl
  same_value draws one other h (Symbol k wide) d = h k wide d
  same_value draws one other h (Unary op a) d = ap (λ (n : ℕ). unary op n) (same_value draws one other h a d)
  same_value draws one other h (Binary op a b) d = ap₂ (λ (m n : ℕ). total op m n) (same_value draws one other h a d.0) (same_value draws one other h b d.1)
  same_value draws one other h (Choose wide c a b) d =
      ap (λ (n : ℕ). chosen n (value_of one a) (value_of one b)) (same_value draws one other h c d.0)
      ∙ ap₂ (λ (m n : ℕ). chosen (value_of other c) m n) (same_value draws one other h a d.1) (same_value draws one other h b d.2)
  same_value draws one other h (Byte a i) d = ap (λ (n : ℕ). byte_of n i) (same_value draws one other h a d)
  same_value draws one other h (Join wide bytes) d = ap joined (same_values draws one other h bytes d)

  pub same_values : (draws : List Bool) (one other : List ℕ) → Alike draws one other → (bytes : Bytes) → HaveSymbols draws bytes → values_of one bytes ≡ values_of other bytes
  same_values draws one other h NoBytes d = refl
  same_values draws one other h (Then t rest) d = ap₂ (λ (n : ℕ) (ns : List ℕ). n ∷ ns) (same_value draws one other h t d.0) (same_values draws one other h rest d.1)

pub numbers-fit : (draws : List Bool) (input : List ℕ) → IsInput draws (numbers_for draws input)
numbers-fit [] input = tt
numbers-fit (wide ∷ draws) [] = (pow_pos (bits_where wide), numbers-fit draws [])
numbers-fit (wide ∷ draws) (x ∷ input) = (mod_below x (2 ^ bits_where wide) (pow_pos (bits_where wide)), numbers-fit draws input)

pub numbers-alike : (draws : List Bool) (input : List ℕ) → Alike draws (numbers_for draws input) input
numbers-alike [] input k wide h = cc
numbers-alike (w ∷ draws) [] zero wide h = refl
numbers-alike (w ∷ draws) (x ∷ input) zero wide h = let e : w ≡ wide = cc in ap (λ (b : Bool). (x % 2 ^ bits_where b) % 2 ^ bits_where wide) e ∙ mod-mod x (2 ^ bits_where wide)
numbers-alike (w ∷ draws) [] (suc k) wide h = numbers-alike draws [] k wide h
numbers-alike (w ∷ draws) (x ∷ input) (suc k) wide h = numbers-alike draws input k wide h
