-- The wires of a term are the bits of its value, where those of its operands are.
use Rattle.std.proofs.Common.{◌≡◌, ℕ, zero, suc, ◌+◌, ◌*◌, ◌/◌, ◌%◌, ◌^◌, ◌<◌, ◌≤◌, Bool, true, false, not, ◌==◌, cond, IsTrue, ◌⊎◌, inl, inr, ⊎_elim, List, [], ◌∷◌, length, drop, slice_get, slice_index, refl, sym, ap, ◌∙◌, subst, arith, ap₂, length-append, length-drop, mul-suc, pow-suc, pow-add, mod-eq_of_lt, lt_of_lt_of_le, pow_mono, Some}
use Rattle.std.proofs.lemmas.Bool.{cases_lt}
use Rattle.std.proofs.Math.Nat.{div-eq_of_lt}
use Rattle.int_ops.specs.Operators.{operand_bits, unary, total}
use Rattle.int_ops.specs.Bytes.{byte_of, joined}
use Rattle.wasm_rules.specs.Words.{CanJoin, bits_where, chosen, taken}
use Rattle.bv_terms.specs.Terms.{Term, Number, Symbol, Unary, Binary, Choose, Byte, Join, Bytes, NoBytes, Then, count_of, is_number, width_of, HasWidth, HaveByteWidths, value_of, values_of}
use Rattle.refute_check.specs.Clauses.{Assignment}
use Rattle.bit_blast.specs.Gates.{Wires, false_wire, negation, Circuit}
use Rattle.bit_blast.specs.Blocks.{none, choose}
use Rattle.bit_blast.specs.Operators.{fitted}
use Rattle.bit_blast.specs.Formulas.{symbol_first, falling_wires, symbol_wires, Known, wires_in, operand, byte_wires, term_wires}
use Rattle.bit_blast.specs.Meanings.{holds, value_of_wires, input_from, input_of, IsProper}
use Rattle.bit_blast.proofs.BitNumbers.{number}
use Rattle.bit_blast.proofs.NumberLemmas.{number_below, number_append, number_drop, number_bits_of}
use Rattle.bit_blast.proofs.SumLemmas.{either_is}
use Rattle.bit_blast.proofs.WireLemmas.{read, number_read, read_append, read_drop, read_number, length_read, holds_negation}
use Rattle.bit_blast.proofs.LengthLemmas.{length_number, length_choose}
use Rattle.bit_blast.proofs.BlockLemmas.{Valued, none_reads, mux_reads}
use Rattle.bit_blast.proofs.FittingLemmas.{length_fitted, filled_reads}
use Rattle.bit_blast.proofs.OpcodeLemmas.{unary_operator_reads, length_unary_operator, binary_operator_reads, length_binary_operator}
use Rattle.bit_blast.proofs.OrderLemmas.{Ready, BytesReady, OperandsReady, own_width}
use Rattle.int_ops.proofs.BytesLemmas.{bits_of_bytes as byte_bits}

-- ---- symbols

pub length_falling : (first bits : ℕ) → length (falling_wires first bits) ≡ bits
length_falling first zero = refl
length_falling first (suc bits) = ap suc (length_falling first bits)

-- the input's number for a symbol is what its wires spell
input-at : (s : Assignment) (first : ℕ) (draws : List Bool) (k : ℕ) (wide : Bool) → slice_get draws k ≡ Some wide
    → slice_index (input_from s first draws) k ≡ value_of_wires s (falling_wires (symbol_first first draws k) (bits_where wide))
input-at s first [] k wide h = cc
input-at s first (w ∷ draws) zero wide h = let e : w ≡ wide = cc in ap (λ (b : Bool). value_of_wires s (falling_wires first (bits_where b))) e
input-at s first (w ∷ draws) (suc k) wide h = input-at s (first + bits_where w) draws k wide h

pub symbol_reads : (s : Assignment) (draws : List Bool) (k : ℕ) (wide : Bool) → slice_get draws k ≡ Some wide
    → number (read s (symbol_wires draws k wide)) ≡ taken (input_of s draws) k wide
symbol_reads s draws k wide h =
    let wires = falling_wires (symbol_first 2 draws k) (bits_where wide) in
    let below : number (read s wires) < 2 ^ bits_where wide = subst (λ (n : ℕ). number (read s wires) < 2 ^ n) (length_read s wires ∙ length_falling (symbol_first 2 draws k) (bits_where wide)) (number_below (read s wires)) in
    sym (ap (λ (n : ℕ). n % 2 ^ bits_where wide) (input-at s 2 draws k wide h ∙ number_read s wires) ∙ mod-eq_of_lt below)

-- ---- operands

-- the terms that are there have as many wires as bits
abbrev pub LongKnown : List Term → Known → Type 0
LongKnown seen known = (t : Term) → IsTrue (not (is_number t)) → Ready seen t → length (wires_in known t) ≡ width_of t

-- and those are the bits of their values
abbrev pub ReadKnown : Assignment → List ℕ → List Term → Known → Type 0
ReadKnown s input seen known = (t : Term) → IsTrue (not (is_number t)) → Ready seen t → number (read s (wires_in known t)) ≡ value_of input t

own_wires : (known : Known) (bits : ℕ) (t : Term) → IsTrue (not (is_number t)) → operand known bits t ≡ wires_in known t
own_wires known bits (Number n) h = cc
own_wires known bits (Symbol k wide) h = refl
own_wires known bits (Unary op a) h = refl
own_wires known bits (Binary op a b) h = refl
own_wires known bits (Choose wide c a b) h = refl
own_wires known bits (Byte a i) h = refl
own_wires known bits (Join wide bytes) h = refl

pub operand_long : (seen : List Term) (known : Known) → LongKnown seen known → (bits : ℕ) (t : Term) → HasWidth bits t → Ready seen t → length (operand known bits t) ≡ bits
operand_long seen known long bits t typed ready = go (own_width t bits typed)
  where
    go : ((n : ℕ) × (t ≡ Number n) × (n < 2 ^ bits)) ⊎ (IsTrue (not (is_number t)) × (bits ≡ width_of t)) → length (operand known bits t) ≡ bits
    go (inl h) = ap (λ (u : Term). length (operand known bits u)) h.1 ∙ length_number bits h.0
    go (inr h) = ap (λ (ws : Wires). length ws) (own_wires known bits t h.0) ∙ long t h.0 ready ∙ sym h.1

module _ (s : Assignment) (one : s 1 ≡ true) (input : List ℕ) (seen : List Term) (known : Known) where
  pub operand_reads : ReadKnown s input seen known → (bits : ℕ) (t : Term) → HasWidth bits t → Ready seen t → number (read s (operand known bits t)) ≡ value_of input t
  operand_reads right bits t typed ready = go (own_width t bits typed)
    where
      go : ((n : ℕ) × (t ≡ Number n) × (n < 2 ^ bits)) ⊎ (IsTrue (not (is_number t)) × (bits ≡ width_of t)) → number (read s (operand known bits t)) ≡ value_of input t
      go (inl h) =
          ap (λ (u : Term). number (read s (operand known bits u))) h.1 ∙ ap (λ (bs : List Bool). number bs) (read_number s one bits h.0)
          ∙ number_bits_of bits h.0 h.2 ∙ sym (ap (λ (u : Term). value_of input u) h.1)
      go (inr h) = ap (λ (ws : Wires). number (read s ws)) (own_wires known bits t h.0) ∙ right t h.0 ready

  -- ---- operands of which only the least width is known: a number has all 64 bits

  any_width : (t : Term) → HasWidth 8 t ⊎ HasWidth 32 t ⊎ HasWidth 64 t → ((n : ℕ) × (t ≡ Number n) × (n < 2 ^ 64)) ⊎ (IsTrue (not (is_number t)) × ((width_of t ≡ 8) ⊎ (width_of t ≡ 32) ⊎ (width_of t ≡ 64)))
  any_width t (inl h) = go (own_width t 8 h)
    where
      go : ((n : ℕ) × (t ≡ Number n) × (n < 2 ^ 8)) ⊎ (IsTrue (not (is_number t)) × (8 ≡ width_of t)) → ((n : ℕ) × (t ≡ Number n) × (n < 2 ^ 64)) ⊎ (IsTrue (not (is_number t)) × ((width_of t ≡ 8) ⊎ (width_of t ≡ 32) ⊎ (width_of t ≡ 64)))
      go (inl h) = let small = h.2 in inl (h.0, h.1, omega arith)
      go (inr h) = inr (h.0, inl (sym h.1))
  any_width t (inr (inl h)) = go (own_width t 32 h)
    where
      go : ((n : ℕ) × (t ≡ Number n) × (n < 2 ^ 32)) ⊎ (IsTrue (not (is_number t)) × (32 ≡ width_of t)) → ((n : ℕ) × (t ≡ Number n) × (n < 2 ^ 64)) ⊎ (IsTrue (not (is_number t)) × ((width_of t ≡ 8) ⊎ (width_of t ≡ 32) ⊎ (width_of t ≡ 64)))
      go (inl h) = let small = h.2 in inl (h.0, h.1, omega arith)
      go (inr h) = inr (h.0, inr (inl (sym h.1)))
  any_width t (inr (inr h)) = go (own_width t 64 h)
    where
      go : ((n : ℕ) × (t ≡ Number n) × (n < 2 ^ 64)) ⊎ (IsTrue (not (is_number t)) × (64 ≡ width_of t)) → ((n : ℕ) × (t ≡ Number n) × (n < 2 ^ 64)) ⊎ (IsTrue (not (is_number t)) × ((width_of t ≡ 8) ⊎ (width_of t ≡ 32) ⊎ (width_of t ≡ 64)))
      go (inl h) = inl h
      go (inr h) = inr (h.0, inr (inr (sym h.1)))

  any_long : LongKnown seen known → (t : Term) → HasWidth 8 t ⊎ HasWidth 32 t ⊎ HasWidth 64 t → Ready seen t → 0 < length (operand known 64 t)
  any_long long t typed ready = go (any_width t typed)
    where
      go : ((n : ℕ) × (t ≡ Number n) × (n < 2 ^ 64)) ⊎ (IsTrue (not (is_number t)) × ((width_of t ≡ 8) ⊎ (width_of t ≡ 32) ⊎ (width_of t ≡ 64))) → 0 < length (operand known 64 t)
      go (inl h) = let e : length (operand known 64 t) ≡ 64 = ap (λ (u : Term). length (operand known 64 u)) h.1 ∙ length_number 64 h.0 in omega arith
      go (inr h) =
          let e : length (operand known 64 t) ≡ width_of t = ap (λ (ws : Wires). length ws) (own_wires known 64 t h.0) ∙ long t h.0 ready in
          let w = h.1 in omega arith

  any_reads : ReadKnown s input seen known → (t : Term) → HasWidth 8 t ⊎ HasWidth 32 t ⊎ HasWidth 64 t → Ready seen t → number (read s (operand known 64 t)) ≡ value_of input t
  any_reads right t typed ready = go (any_width t typed)
    where
      go : ((n : ℕ) × (t ≡ Number n) × (n < 2 ^ 64)) ⊎ (IsTrue (not (is_number t)) × ((width_of t ≡ 8) ⊎ (width_of t ≡ 32) ⊎ (width_of t ≡ 64))) → number (read s (operand known 64 t)) ≡ value_of input t
      go (inl h) =
          ap (λ (u : Term). number (read s (operand known 64 u))) h.1 ∙ ap (λ (bs : List Bool). number bs) (read_number s one 64 h.0)
          ∙ number_bits_of 64 h.0 h.2 ∙ sym (ap (λ (u : Term). value_of input u) h.1)
      go (inr h) = ap (λ (ws : Wires). number (read s ws)) (own_wires known 64 t h.0) ∙ right t h.0 ready

-- ---- choices

pub choose_reads : (s : Assignment) → s 1 ≡ true → (condition xs ys : Wires) (c : Circuit) → 0 < length condition → length xs ≡ length ys
    → Valued s (choose condition xs ys c).circuit
    → Valued s c × (number (read s (choose condition xs ys c).result) ≡ chosen (number (read s condition)) (number (read s xs)) (number (read s ys)))
choose_reads s one condition xs ys c some same h =
    let test = none condition c in
    let all = mux_reads s (negation test.result) xs ys test.circuit h in
    let clear = none_reads s condition c one some all.0 in
    let turned : holds s (negation test.result) ≡ not (number (read s condition) == 0) = holds_negation s test.result ∙ ap not clear.1 in (
      clear.0,
      ap (λ (bs : List Bool). number bs) all.1
          ∙ either_is (holds s (negation test.result)) (read s xs) (read s ys) (length_read s xs ∙ same ∙ sym (length_read s ys))
          ∙ ap (λ (b : Bool). cond b (number (read s xs)) (number (read s ys))) turned ∙ turn (number (read s condition) == 0) (number (read s xs)) (number (read s ys)),
    )
  where
    turn : (b : Bool) (x y : ℕ) → cond (not b) x y ≡ cond b y x
    turn true x y = refl
    turn false x y = refl

-- ---- bytes

-- also past the end, where nothing is left
number_beyond : (k : ℕ) (xs : List Bool) → number (drop k xs) ≡ number xs / 2 ^ k
number_beyond k xs = ⊎_elim past within (cases_lt (length xs) k)
  where
    past : length xs < k → number (drop k xs) ≡ number xs / 2 ^ k
    past h =
        let none : length (drop k xs) ≡ 0 = length-drop k xs ∙ omega arith in
        let small : number xs < 2 ^ k = lt_of_lt_of_le (number_below xs) (pow_mono (omega arith)) in
        let least : number (drop k xs) < 2 ^ 0 = subst (λ (n : ℕ). number (drop k xs) < 2 ^ n) none (number_below (drop k xs)) in
        let zero_left : number (drop k xs) ≡ 0 = omega arith in
        zero_left ∙ sym (div-eq_of_lt small)

    within : k ≤ length xs → number (drop k xs) ≡ number xs / 2 ^ k
    within h = number_drop k xs h

pub byte_reads : (s : Assignment) → s 1 ≡ true → (i : ℕ) (ws : Wires) → number (read s (fitted 8 false_wire (drop (8 * i) ws))) ≡ byte_of (number (read s ws)) i
byte_reads s one i ws =
    filled_reads s one 8 (drop (8 * i) ws)
    ∙ ap (λ (n : ℕ). n % 256) (ap (λ (bs : List Bool). number bs) (read_drop s (8 * i) ws) ∙ number_beyond (8 * i) (read s ws) ∙ ap (λ (p : ℕ). number (read s ws) / p) (byte_bits i))

-- ---- joins

pub bytes_long : (seen : List Term) (known : Known) → LongKnown seen known → (bytes : Bytes) → HaveByteWidths bytes → BytesReady seen bytes → length (byte_wires known bytes) ≡ 8 * count_of bytes
bytes_long seen known long NoBytes typed ready = refl
bytes_long seen known long (Then t rest) typed ready =
    length-append (operand known 8 t) (byte_wires known rest)
    ∙ ap₂ (λ (m n : ℕ). m + n) (operand_long seen known long 8 t typed.0 ready.0) (bytes_long seen known long rest typed.1 ready.1) ∙ omega arith

pub bytes_read : (s : Assignment) → s 1 ≡ true → (input : List ℕ) (seen : List Term) (known : Known) → LongKnown seen known → ReadKnown s input seen known
    → (bytes : Bytes) → HaveByteWidths bytes → BytesReady seen bytes → number (read s (byte_wires known bytes)) ≡ joined (values_of input bytes)
bytes_read s one input seen known long right NoBytes typed ready = refl
bytes_read s one input seen known long right (Then t rest) typed ready =
    ap (λ (bs : List Bool). number bs) (read_append s (operand known 8 t) (byte_wires known rest))
    ∙ number_append (read s (operand known 8 t)) (read s (byte_wires known rest))
    ∙ ap₂ (λ (m n : ℕ). m + 2 ^ n * number (read s (byte_wires known rest))) (operand_reads s one input seen known right 8 t typed.0 ready.0)
    (length_read s (operand known 8 t) ∙ operand_long seen known long 8 t typed.0 ready.0)
    ∙ ap (λ (n : ℕ). value_of input t + 256 * n) (bytes_read s one input seen known long right rest typed.1 ready.1)

join_fits : (wide : Bool) (count : ℕ) → CanJoin wide count → 8 * count ≤ bits_where wide
join_fits true count (inl h) = omega arith
join_fits true count (inr (inl h)) = omega arith
join_fits true count (inr (inr (inl h))) = omega arith
join_fits true count (inr (inr (inr h))) = let e = h.0 in omega arith
join_fits false count (inl h) = omega arith
join_fits false count (inr (inl h)) = omega arith
join_fits false count (inr (inr (inl h))) = omega arith
join_fits false count (inr (inr (inr h))) = let e = h.1 in cc

-- ---- all forms

pub term_long : (draws : List Bool) (seen : List Term) (known : Known) → LongKnown seen known → (t : Term) → IsProper draws t → OperandsReady seen t → (c : Circuit)
    → length (term_wires draws known t c).result ≡ width_of t
term_long draws seen known long (Number n) proper ready c = refl
term_long draws seen known long (Symbol k wide) proper ready c = length_falling (symbol_first 2 draws k) (bits_where wide)
term_long draws seen known long (Unary op a) proper ready c =
    length_unary_operator op (operand known (operand_bits op) a) c proper.typed.1
term_long draws seen known long (Binary op a b) proper ready c =
    length_binary_operator op (operand known (operand_bits op) a) (operand known (operand_bits op) b) c proper.typed.1
    (operand_long seen known long (operand_bits op) a proper.typed.2 ready.0) (operand_long seen known long (operand_bits op) b proper.typed.3 ready.1)
term_long draws seen known long (Choose wide d a b) proper ready c =
    let first = operand_long seen known long (bits_where wide) a proper.typed.2 ready.1 in
    let second = operand_long seen known long (bits_where wide) b proper.typed.3 ready.2 in
    length_choose (operand known 64 d) (operand known (bits_where wide) a) (operand known (bits_where wide) b) c (first ∙ sym second) ∙ second
term_long draws seen known long (Byte a i) proper ready c = length_fitted 8 false_wire (drop (8 * i) (operand known 64 a))
term_long draws seen known long (Join wide bytes) proper ready c = length_fitted (bits_where wide) false_wire (byte_wires known bytes)

-- where each gate has its value, and the operands' wires are the bits of their values, so are the term's
pub term_reads : (s : Assignment) → s 1 ≡ true → (draws : List Bool) (seen : List Term) (known : Known) → LongKnown seen known → (t : Term) → IsProper draws t → OperandsReady seen t → (c : Circuit)
    → Valued s (term_wires draws known t c).circuit
    → Valued s c × (ReadKnown s (input_of s draws) seen known → number (read s (term_wires draws known t c).result) ≡ value_of (input_of s draws) t)
term_reads s one draws seen known long (Number n) proper ready c h = let e = proper.no_number in cc
term_reads s one draws seen known long (Symbol k wide) proper ready c h = (h, λ right. symbol_reads s draws k wide proper.drawn)
term_reads s one draws seen known long (Unary op a) proper ready c h =
    let all = unary_operator_reads s one op (operand known (operand_bits op) a) c proper.typed.1 (operand_long seen known long (operand_bits op) a proper.typed.2 ready) h in
    (all.0, λ right. all.1 ∙ ap (λ (n : ℕ). unary op n) (operand_reads s one (input_of s draws) seen known right (operand_bits op) a proper.typed.2 ready))
term_reads s one draws seen known long (Binary op a b) proper ready c h =
    let all = binary_operator_reads s one op (operand known (operand_bits op) a) (operand known (operand_bits op) b) c proper.typed.1
    (operand_long seen known long (operand_bits op) a proper.typed.2 ready.0) (operand_long seen known long (operand_bits op) b proper.typed.3 ready.1) h in (
      all.0,
      λ right. all.1 ∙ ap₂ (λ (m n : ℕ). total op m n) (operand_reads s one (input_of s draws) seen known right (operand_bits op) a proper.typed.2 ready.0)
          (operand_reads s one (input_of s draws) seen known right (operand_bits op) b proper.typed.3 ready.1),
    )
term_reads s one draws seen known long (Choose wide d a b) proper ready c h =
    let first = operand_long seen known long (bits_where wide) a proper.typed.2 ready.1 in
    let second = operand_long seen known long (bits_where wide) b proper.typed.3 ready.2 in
    let all = choose_reads s one (operand known 64 d) (operand known (bits_where wide) a) (operand known (bits_where wide) b) c
    (any_long s one (input_of s draws) seen known long d proper.typed.1 ready.0) (first ∙ sym second) h in (
      all.0,
      λ right. all.1
          ∙ ap (λ (n : ℕ). chosen n (number (read s (operand known (bits_where wide) a))) (number (read s (operand known (bits_where wide) b)))) (any_reads s one (input_of s draws) seen known right d proper.typed.1 ready.0)
          ∙ ap₂ (λ (m n : ℕ). chosen (value_of (input_of s draws) d) m n) (operand_reads s one (input_of s draws) seen known right (bits_where wide) a proper.typed.2 ready.1)
          (operand_reads s one (input_of s draws) seen known right (bits_where wide) b proper.typed.3 ready.2),
    )
term_reads s one draws seen known long (Byte a i) proper ready c h =
    (h, λ right. byte_reads s one i (operand known 64 a) ∙ ap (λ (n : ℕ). byte_of n i) (any_reads s one (input_of s draws) seen known right a proper.typed.2 ready))
term_reads s one draws seen known long (Join wide bytes) proper ready c h =
    let wires = byte_wires known bytes in
    let count = bytes_long seen known long bytes proper.typed.2 ready in
    let fits = join_fits wide (count_of bytes) proper.typed.1 in
    let below : number (read s wires) < 2 ^ bits_where wide = lt_of_lt_of_le (number_below (read s wires)) (pow_mono (subst (λ (n : ℕ). n ≤ bits_where wide) (sym (length_read s wires ∙ count)) fits)) in
    (h, λ right. filled_reads s one (bits_where wide) wires ∙ mod-eq_of_lt below ∙ bytes_read s one (input_of s draws) seen known long right bytes proper.typed.2 ready)
