-- Each making rule gives a term of the same width and the same value at every input.
use Rattle.std.proofs.Common.{◌≡◌, ℕ, zero, suc, ◌+◌, ◌*◌, ◌/◌, ◌%◌, ◌^◌, ◌<◌, Bool, true, false, cond, ◌==◌, List, [], ◌∷◌, refl, ap, sym, ◌∙◌, subst, arith, Option, Some, None, mod-eq_of_lt, ⊎_elim, mul_comm}
use Rattle.std.specs.Prelude.{◌&&◌, ◌⊎◌, option_map, unwrap_or}
use Rattle.std.specs.List.{AllByRecursion}
use Rattle.std.proofs.lemmas.Bool.{and_parts}
use Rattle.std.proofs.lemmas.Nat.{mod_below}
use Rattle.std.proofs.Math.Nat.{div-div-eq-div-mul, zero-div}
use Rattle.std.proofs.Math.Nat.{pow-suc}
use Rattle.int_ops.specs.Operators.{result_bits, unary, total}
use Rattle.int_ops.specs.Bytes.{byte_of, joined}
use Rattle.int_ops.proofs.WidthLemmas.{unary-below, binary-below}
use Rattle.int_ops.proofs.BytesLemmas.{joined-bytes_of}
use Rattle.wasm_rules.specs.Words.{bits_where, chosen, CanJoin}
use Rattle.wasm_rules.proofs.NumbersLemmas.{joined-fits}
use Rattle.bv_terms.specs.Terms.{Term, Number, Symbol, Unary, Binary, Choose, Byte, Join, Bytes, NoBytes, Then, value_of, values_of, width_of, HasWidth, HaveByteWidths, number_of, is_same, are_same}
use Rattle.bv_terms.specs.Making.{Rule, IsSound, Keeps, of_numbers, numbers_of, chosen_side, chosen_by, byte_of_join, byte_at, join_of_bytes, whole, bytes_of_term, bytes_where, rules, first_of, first_made, made}
use Rattle.bv_terms.proofs.WidthLemmas.{at_width, value-below, values-below, length-values_of}
use Rattle.bv_terms.proofs.SameLemmas.{is_same-is, are_same-are, same_number}
use Rattle.bv_terms.proofs.OperationRules.{given, nothing, adds_nothing-sound, changes_nothing-sound, leaves_nothing-sound, of_comparison-sound, of_same-sound}
use Rattle.int_ops.proofs.WidthLemmas.{either}

-- ---- numbers

numbers_of-values : (bytes : Bytes) (ns : List ℕ) → numbers_of bytes ≡ Some ns → (input : List ℕ) → values_of input bytes ≡ ns
numbers_of-values NoBytes ns e input = cc
numbers_of-values (Then (Number n) rest) ns e input = go (λ ms is. numbers_of-values rest ms is input) (numbers_of rest) refl e
  where
    go : ((ms : List ℕ) → numbers_of rest ≡ Some ms → values_of input rest ≡ ms) → (o : Option (List ℕ)) → numbers_of rest ≡ o
        → option_map (λ (ms : List ℕ). n ∷ ms) o ≡ Some ns → n ∷ values_of input rest ≡ ns
    go more None is e = cc
    go more (Some ms) is e = let others : values_of input rest ≡ ms = more ms is in cc
numbers_of-values (Then _ rest) ns e input = cc

of_numbers-sound : IsSound of_numbers
of_numbers-sound (Unary op (Number n)) s bits e h =
    given (Keeps bits (Unary op (Number n))) (Number (unary op n)) s e (at_width bits (result_bits op) _ h.0 (unary-below op n h.1 h.2), λ input. refl)
of_numbers-sound (Binary op (Number n) (Number m)) s bits e h =
    given (Keeps bits (Binary op (Number n) (Number m))) (Number (total op n m)) s e
    (at_width bits (result_bits op) _ h.0 (binary-below op n m h.1 h.2 h.3).0, λ input. refl)
of_numbers-sound (Choose wide (Number c) (Number n) (Number m)) s bits e h =
    given (Keeps bits (Choose wide (Number c) (Number n) (Number m))) (Number (chosen c n m)) s e
    (at_width bits (bits_where wide) _ h.0 (either (λ k. k < 2 ^ bits_where wide) (c == 0) m n h.3 h.2), λ input. refl)
of_numbers-sound (Byte (Number n) i) s bits e h =
    given (Keeps bits (Byte (Number n) i)) (Number (byte_of n i)) s e (at_width bits 8 _ h.0 (mod_below (n / 256 ^ i) 256 (omega arith)), λ input. refl)
of_numbers-sound (Join wide bytes) s bits e h = go (numbers_of bytes) refl e
  where
    go : (o : Option (List ℕ)) → numbers_of bytes ≡ o → option_map (λ (ns : List ℕ). Number (joined ns)) o ≡ Some s → Keeps bits (Join wide bytes) s
    go None is e = nothing (Keeps bits (Join wide bytes) s) s e
    go (Some ns) is e =
        given (Keeps bits (Join wide bytes)) (Number (joined ns)) s e (
          at_width bits (bits_where wide) (joined ns) h.0
              (subst (λ (l : List ℕ). joined l < 2 ^ bits_where wide) (numbers_of-values bytes ns is [])
              (joined-fits wide (values_of [] bytes) (subst (CanJoin wide) (sym (length-values_of [] bytes)) h.1) (values-below bytes [] h.2))),
          λ input. ap joined (sym (numbers_of-values bytes ns is input)),
        )
of_numbers-sound _ s bits e h = nothing _ s e

-- ---- choices

term_either : (P : Term → Type 0) (b : Bool) (t s : Term) → (b ≡ true → P t) → (b ≡ false → P s) → P (cond b t s)
term_either P true t s p q = p refl
term_either P false t s p q = q refl

chosen_side-sound : IsSound chosen_side
chosen_side-sound (Choose wide (Number c) a b) s bits e h =
    given (Keeps bits (Choose wide (Number c) a b)) (cond (c == 0) b a) s e
    (term_either (Keeps bits (Choose wide (Number c) a b)) (c == 0) b a
    (λ test. (subst (λ n. HasWidth n b) (sym h.0) h.3, λ input. rw test))
    (λ test. (subst (λ n. HasWidth n a) (sym h.0) h.2, λ input. rw test)))
chosen_side-sound (Choose wide c a b) s bits e h = go (is_same a b) refl (one (number_of c) no_number e)
  where
    -- no number: so it is one term twice
    no_number : number_of c ≡ None
    no_number = refl

    one : (o : Option ℕ) → o ≡ None → chosen_by o a b ≡ Some s → cond (is_same a b) (Some a) None ≡ Some s
    one None is e = e
    one (Some n) is e = let wrong : ⊥ = cc in absurd wrong

    either_way : (x : Bool) (n : ℕ) → cond x n n ≡ n
    either_way true n = refl
    either_way false n = refl

    go : (x : Bool) → is_same a b ≡ x → cond x (Some a) None ≡ Some s → Keeps bits (Choose wide c a b) s
    go true test e =
        let same : a ≡ b = is_same-is a b test in
        given (Keeps bits (Choose wide c a b)) a s e (
          subst (λ n. HasWidth n a) (sym h.0) h.2,
          λ input. sym (ap (λ t. cond (value_of input c == 0) (value_of input t) (value_of input a)) (sym same) ∙ either_way (value_of input c == 0) (value_of input a)),
        )
    go false test e = nothing (Keeps bits (Choose wide c a b) s) s e
chosen_side-sound _ s bits e h = nothing _ s e

-- ---- bytes of joins

byte-first : (n rest : ℕ) → n < 256 → byte_of (n + 256 * rest) 0 ≡ n
byte-first n rest below = omega arith

byte-later : (n rest i : ℕ) → n < 256 → byte_of (n + 256 * rest) (suc i) ≡ byte_of rest i
byte-later n rest i below =
    let down : (n + 256 * rest) / 256 ≡ rest = omega arith in
    ap (λ (k : ℕ). (n + 256 * rest) / k % 256) (pow-suc 256 i ∙ mul_comm (256 ^ i) 256)
    ∙ ap (λ (k : ℕ). k % 256) (sym (div-div-eq-div-mul (n + 256 * rest) 256 (256 ^ i)))
    ∙ ap (λ (k : ℕ). k / 256 ^ i % 256) down

byte_of-zero : (i : ℕ) → byte_of 0 i ≡ 0
byte_of-zero i = ap (λ (k : ℕ). k % 256) (zero-div (256 ^ i))

byte_at-sound : (bytes : Bytes) (i : ℕ) → HaveByteWidths bytes → HasWidth 8 (byte_at bytes i) × ((input : List ℕ) → value_of input (byte_at bytes i) ≡ byte_of (joined (values_of input bytes)) i)
byte_at-sound NoBytes i h = (omega arith, λ input. sym (byte_of-zero i))
byte_at-sound (Then t rest) zero h =
    (h.0, λ input. sym (byte-first (value_of input t) (joined (values_of input rest)) (value-below 8 t input h.0)))
byte_at-sound (Then t rest) (suc i) h =
    let later = byte_at-sound rest i h.1 in
    (later.0, λ input. later.1 input ∙ sym (byte-later (value_of input t) (joined (values_of input rest)) i (value-below 8 t input h.0)))

-- what is known of a word of which a byte is taken
join-bytes : (wide : Bool) (bytes : Bytes) → (HasWidth 8 (Join wide bytes) ⊎ HasWidth 32 (Join wide bytes) ⊎ HasWidth 64 (Join wide bytes)) → HaveByteWidths bytes
join-bytes wide bytes h = ⊎_elim (λ a. a.2) (λ b. ⊎_elim (λ a. a.2) (λ a. a.2) b) h

byte_of_join-sound : IsSound byte_of_join
byte_of_join-sound (Byte (Join wide bytes) i) s bits e h =
    let all : HaveByteWidths bytes = join-bytes wide bytes h.2 in
    let at = byte_at-sound bytes i all in
    given (Keeps bits (Byte (Join wide bytes) i)) (byte_at bytes i) s e (subst (λ n. HasWidth n (byte_at bytes i)) (sym h.0) at.0, at.1)
byte_of_join-sound _ s bits e h = nothing _ s e

-- ---- joins of all bytes

-- a width of a term that is no number is its own
own_width : (t : Term) (bits : ℕ) → (width_of t ≡ 0 → ⊥) → HasWidth bits t → bits ≡ width_of t
own_width (Number n) bits own h = absurd (own refl)
own_width (Symbol k wide) bits own h = h
own_width (Unary op a) bits own h = h.0
own_width (Binary op a b) bits own h = h.0
own_width (Choose wide c a b) bits own h = h.0
own_width (Byte a i) bits own h = h.0
own_width (Join wide bytes) bits own h = h.0

own : (t : Term) (bits : ℕ) → (width_of t ≡ 0 → ⊥) → HasWidth bits t → HasWidth (width_of t) t
own t bits apart h = subst (λ n. HasWidth n t) (own_width t bits apart h) h

own_of_some : (t : Term) → (width_of t ≡ 0 → ⊥) → (HasWidth 8 t ⊎ HasWidth 32 t ⊎ HasWidth 64 t) → HasWidth (width_of t) t
own_of_some t apart h = ⊎_elim (own t 8 apart) (λ more. ⊎_elim (own t 32 apart) (own t 64 apart) more) h

bits_apart : (wide : Bool) → bits_where wide ≡ 0 → ⊥
bits_apart true e = omega arith
bits_apart false e = omega arith

-- the bytes of a term joined are its value
joined-whole : (wide : Bool) (t : Term) (input : List ℕ) → value_of input t < 2 ^ bits_where wide → joined (values_of input (bytes_of_term t 0 (bytes_where wide))) ≡ value_of input t
joined-whole true t input below = joined-bytes_of 8 (value_of input t) ∙ mod-eq_of_lt below
joined-whole false t input below = joined-bytes_of 4 (value_of input t) ∙ mod-eq_of_lt below

whole-sound : (wide : Bool) (first rest : Bytes) (t s : Term) (bits : ℕ) → whole wide rest t ≡ Some s → (HasWidth 8 t ⊎ HasWidth 32 t ⊎ HasWidth 64 t) → bits ≡ bits_where wide
    → Keeps bits (Join wide rest) s
whole-sound wide first rest t s bits e some is = go (width_of t == bits_where wide && are_same rest (bytes_of_term t 0 (bytes_where wide))) refl e
  where
    go : (b : Bool) → (width_of t == bits_where wide && are_same rest (bytes_of_term t 0 (bytes_where wide))) ≡ b → cond b (Some t) None ≡ Some s → Keeps bits (Join wide rest) s
    go false test e = nothing (Keeps bits (Join wide rest) s) s e
    go true test e =
        let p = and_parts (width_of t == bits_where wide) (are_same rest (bytes_of_term t 0 (bytes_where wide))) test in
        let width : width_of t ≡ bits_where wide = same_number (width_of t) (bits_where wide) p.0 in
        let apart : (width_of t ≡ 0 → ⊥) = λ zero_width. bits_apart wide (sym width ∙ zero_width) in
        let has : HasWidth (width_of t) t = own_of_some t apart some in
        let all : rest ≡ bytes_of_term t 0 (bytes_where wide) = are_same-are rest (bytes_of_term t 0 (bytes_where wide)) p.1 in
        given (Keeps bits (Join wide rest)) t s e (
          subst (λ n. HasWidth n t) (width ∙ sym is) has,
          λ input. sym (joined-whole wide t input (subst (λ n. value_of input t < 2 ^ n) width (value-below (width_of t) t input has)))
              ∙ ap (λ bytes. joined (values_of input bytes)) (sym all),
        )

join_of_bytes-sound : IsSound join_of_bytes
join_of_bytes-sound (Join wide (Then (Byte t i) rest)) s bits e h =
    whole-sound wide NoBytes (Then (Byte t i) rest) t s bits e h.2.0.2 h.0
join_of_bytes-sound _ s bits e h = nothing _ s e

-- ---- all rules

pub rules-sound : AllByRecursion IsSound rules
rules-sound = (
  of_numbers-sound,
  (chosen_side-sound, (byte_of_join-sound, (join_of_bytes-sound, (adds_nothing-sound, (changes_nothing-sound, (leaves_nothing-sound, (of_comparison-sound, (of_same-sound, tt)))))))),
)

first_of-sound : (all : List Rule) → AllByRecursion IsSound all → IsSound (first_of all)
first_of-sound [] each t s bits e h = nothing (Keeps bits t s) s e
first_of-sound (rule ∷ others) each t s bits e h = go (λ e. first_of-sound others each.1 t s bits e h) (rule t) refl e
  where
    go : (first_of others t ≡ Some s → Keeps bits t s) → (o : Option Term) → rule t ≡ o → first_made o (first_of others t) ≡ Some s → Keeps bits t s
    go later (Some r) is e = each.0 t s bits (is ∙ e) h
    go later None is e = later e

pub made-keeps : (t : Term) (bits : ℕ) → HasWidth bits t → Keeps bits t (made t)
unfolding made
made-keeps t bits h = go (first_of rules t) refl
  where
    go : (o : Option Term) → first_of rules t ≡ o → Keeps bits t (unwrap_or o t)
    go None is = (h, λ input. refl)
    go (Some s) is = first_of-sound rules rules-sound t s bits is h
