-- Bits moved by a number of places, and shifts in stages.
use Rattle.std.proofs.Common.{◌≡◌, ℕ, zero, suc, ◌+◌, ◌-◌, ◌*◌, ◌/◌, ◌%◌, ◌^◌, ◌<◌, ◌≤◌, Bool, true, false, not, cond, nat_le, List, [], ◌∷◌, ◌++◌, length, map, take, drop, replicate, refl, sym, ap, ◌∙◌, subst, arith, ap₂, length-append, length-take, length-drop, pow-suc, mul_assoc, mul-le-mul_left}
use Rattle.std.proofs.lemmas.Bool.Decides.{nat_tests}
use Rattle.std.proofs.lemmas.Nat.{pow_pos}
use Rattle.int_ops.proofs.IntegerLemmas.{shifted_up}
use Rattle.refute_check.specs.Clauses.{Assignment}
use Rattle.bit_blast.specs.declared.gates.Gate.TheVariants.{Mux}
use Rattle.bit_blast.specs.declared.blocks.Shift.{Shift}
use Rattle.bit_blast.specs.declared.blocks.Shift.TheVariants.{Left, Right, RightSigned, RotateLeft, RotateRight}
use Rattle.bit_blast.specs.Gates.{Wires, false_wire, Circuit}
use Rattle.bit_blast.specs.Blocks.{each_two, highest, moved, shift_by}
use Rattle.bit_blast.specs.Meanings.{holds, bit}
use Rattle.bit_blast.proofs.BitNumbers.{number}
use Rattle.bit_blast.proofs.NumberLemmas.{bit_le, number_below, number_append, number_take, number_drop, number_zeros, number_not}
use Rattle.bit_blast.proofs.SumLemmas.{either_bits, either_is, length_either, length_not}
use Rattle.bit_blast.proofs.ShiftLemmas.{IsShift, staged, stages_shift, left, right, down, own_sign, right_own, turned, rotated_left_shifts, rotated_right_shifts}
use Rattle.bit_blast.proofs.WireLemmas.{read, read_append, read_take, read_drop, read_copies, read_falses, length_read, holds_false}
use Rattle.bit_blast.proofs.LengthLemmas.{length_each_two, length_moved as length_moved_wires}
use Rattle.bit_blast.proofs.BlockLemmas.{Valued, last_or, highest_or_reads, mux_reads}

-- ---- moves of bits

abbrev pub moved_bits : Shift → ℕ → List Bool → List Bool
moved_bits Left places xs = replicate places false ++ take (length xs - places) xs
moved_bits Right places xs = drop places xs ++ replicate places false
moved_bits RightSigned places xs = drop places xs ++ replicate places (last_or false xs)
moved_bits RotateLeft places xs = drop (length xs - places) xs ++ take (length xs - places) xs
moved_bits RotateRight places xs = drop places xs ++ take places xs

length_copies : (n : ℕ) (b : Bool) → length (replicate n b) ≡ n
length_copies zero b = refl
length_copies (suc n) b = ap suc (length_copies n b)

pub length_moved : (kind : Shift) (k : ℕ) (xs : List Bool) → k ≤ length xs → length (moved_bits kind k xs) ≡ length xs
length_moved Left k xs h = length-append (replicate k false) (take (length xs - k) xs) ∙ ap₂ (λ (m n : ℕ). m + n) (length_copies k false) (length-take (length xs - k) xs) ∙ omega arith
length_moved Right k xs h = length-append (drop k xs) (replicate k false) ∙ ap₂ (λ (m n : ℕ). m + n) (length-drop k xs) (length_copies k false) ∙ omega arith
length_moved RightSigned k xs h = length-append (drop k xs) (replicate k (last_or false xs)) ∙ ap₂ (λ (m n : ℕ). m + n) (length-drop k xs) (length_copies k (last_or false xs)) ∙ omega arith
length_moved RotateLeft k xs h = length-append (drop (length xs - k) xs) (take (length xs - k) xs) ∙ ap₂ (λ (m n : ℕ). m + n) (length-drop (length xs - k) xs) (length-take (length xs - k) xs) ∙ omega arith
length_moved RotateRight k xs h = length-append (drop k xs) (take k xs) ∙ ap₂ (λ (m n : ℕ). m + n) (length-drop k xs) (length-take k xs) ∙ omega arith

-- the shift of numbers of N bits that a move is
abbrev pub shift_of : Shift → ℕ → ℕ → ℕ → ℕ
shift_of Left N k x = (x * 2 ^ k) % 2 ^ N
shift_of Right N k x = x / 2 ^ k
shift_of RightSigned N k x = down N (own_sign N x) k x
shift_of RotateLeft N k x = turned (N - k) k x
shift_of RotateRight N k x = turned k (N - k) x

pub is_shift : (kind : Shift) (N : ℕ) → 0 < N → IsShift N (shift_of kind N)
is_shift Left N some = left N
is_shift Right N some = right N
is_shift RightSigned N some = right_own N some
is_shift RotateLeft N some = rotated_left_shifts N
is_shift RotateRight N some = rotated_right_shifts N

-- ---- the number of moved bits

-- the highest bit is the sign
pub sign_bit : (x : Bool) (xs : List Bool) → last_or x xs ≡ nat_le (2 ^ length xs) (bit x + 2 * number xs)
sign_bit true [] = refl
sign_bit false [] = refl
sign_bit x (y ∷ xs) = sign_bit y xs ∙ doubled (2 ^ length xs) (bit y + 2 * number xs) (bit x) (bit_le x) ∙ ap (λ (p : ℕ). nat_le p (bit x + 2 * (bit y + 2 * number xs))) (sym (pow-suc 2 (length xs)))
  where
    doubled : (p n d : ℕ) → d ≤ 1 → nat_le p n ≡ nat_le (p * 2) (d + 2 * n)
    doubled p n d h = grind (arith, nat_tests)

pub own_sign_bit : (xs : List Bool) → 0 < length xs → last_or false xs ≡ own_sign (length xs) (number xs)
own_sign_bit [] some = absurd (omega arith)
own_sign_bit (x ∷ xs) some = sign_bit x xs ∙ ap (λ (n : ℕ). nat_le (2 ^ n) (bit x + 2 * number xs)) (omega arith)

module _ (xs : List Bool) (k : ℕ) (h : k < length xs) where
  N : ℕ
  N = length xs

  number_left : number (moved_bits Left k xs) ≡ (number xs * 2 ^ k) % 2 ^ length xs
  number_left =
      let all : length xs - k + k ≡ length xs = omega arith in
      number_append (replicate k false) (take (length xs - k) xs)
      ∙ ap₂ (λ (m n : ℕ). m + 2 ^ length (replicate k false) * n) (number_zeros k) (number_take (length xs - k) xs (omega arith))
      ∙ ap (λ (n : ℕ). 0 + 2 ^ n * (number xs % 2 ^ (length xs - k))) (length_copies k false)
      ∙ front (2 ^ k) (number xs % 2 ^ (length xs - k))
      ∙ sym (shifted_up (number xs) k (length xs - k)) ∙ ap (λ (n : ℕ). (number xs * 2 ^ k) % 2 ^ n) all
    where
      front : (p n : ℕ) → 0 + p * n ≡ n * p
      front p n = omega arith

  number_right : number (moved_bits Right k xs) ≡ number xs / 2 ^ k
  number_right =
      number_append (drop k xs) (replicate k false)
      ∙ ap₂ (λ (m n : ℕ). m + 2 ^ length (drop k xs) * n) (number_drop k xs (omega arith)) (number_zeros k)
      ∙ plain (number xs / 2 ^ k) (2 ^ length (drop k xs))
    where
      plain : (n p : ℕ) → n + p * 0 ≡ n
      plain n p = omega arith

  number_rotated_left : number (moved_bits RotateLeft k xs) ≡ turned (length xs - k) k (number xs)
  number_rotated_left =
      let long : length (drop (length xs - k) xs) ≡ k = simp length-drop (omega arith) in
      number_append (drop (length xs - k) xs) (take (length xs - k) xs)
      ∙ ap₂ (λ (m n : ℕ). m + 2 ^ length (drop (length xs - k) xs) * n) (number_drop (length xs - k) xs (omega arith)) (number_take (length xs - k) xs (omega arith))
      ∙ ap (λ (n : ℕ). number xs / 2 ^ (length xs - k) + 2 ^ n * (number xs % 2 ^ (length xs - k))) long
      ∙ turn (number xs / 2 ^ (length xs - k)) (2 ^ k) (number xs % 2 ^ (length xs - k))
    where
      turn : (m p n : ℕ) → m + p * n ≡ n * p + m
      turn m p n = omega arith

  number_rotated_right : number (moved_bits RotateRight k xs) ≡ turned k (length xs - k) (number xs)
  number_rotated_right =
      let long : length (drop k xs) ≡ length xs - k = simp length-drop refl in
      number_append (drop k xs) (take k xs)
      ∙ ap₂ (λ (m n : ℕ). m + 2 ^ length (drop k xs) * n) (number_drop k xs (omega arith)) (number_take k xs (omega arith))
      ∙ ap (λ (n : ℕ). number xs / 2 ^ k + 2 ^ n * (number xs % 2 ^ k)) long
      ∙ turn (number xs / 2 ^ k) (2 ^ (length xs - k)) (number xs % 2 ^ k)
    where
      turn : (m p n : ℕ) → m + p * n ≡ n * p + m
      turn m p n = omega arith

negated_copies : (k : ℕ) → map not (replicate k true) ≡ replicate k false
negated_copies zero = refl
negated_copies (suc k) = ap (λ (bs : List Bool). false ∷ bs) (negated_copies k)

map_append : (xs ys : List Bool) → map not (xs ++ ys) ≡ map not xs ++ map not ys
map_append [] ys = refl
map_append (x ∷ xs) ys = ap (λ (bs : List Bool). not x ∷ bs) (map_append xs ys)

map_drop : (k : ℕ) (xs : List Bool) → map not (drop k xs) ≡ drop k (map not xs)
map_drop zero xs = refl
map_drop (suc k) [] = refl
map_drop (suc k) (x ∷ xs) = map_drop k xs

-- where the sign is set, the negations are shifted
number_down : (xs : List Bool) (k : ℕ) → k < length xs → (s : Bool) → number (drop k xs ++ replicate k s) ≡ down (length xs) s k (number xs)
number_down xs k h false = number_right xs k h
number_down xs k h true =
    let turned_moved : map not (drop k xs ++ replicate k true) ≡ drop k (map not xs) ++ replicate k false =
    map_append (drop k xs) (replicate k true) ∙ ap₂ (λ (bs cs : List Bool). bs ++ cs) (map_drop k xs) (negated_copies k) in
    let low : number (map not (drop k xs ++ replicate k true)) ≡ number (map not xs) / 2 ^ k =
    ap (λ (bs : List Bool). number bs) turned_moved ∙ number_right (map not xs) k (subst (λ (n : ℕ). k < n) (sym (length_not xs)) h) in
    let whole = number_not (drop k xs ++ replicate k true) in
    let long : length (drop k xs ++ replicate k true) ≡ length xs = length-append (drop k xs) (replicate k true) ∙ ap₂ (λ (m n : ℕ). m + n) (length-drop k xs) (length_copies k true) ∙ omega arith in
    let before = number_not xs in
    let sizes : 2 ^ length (drop k xs ++ replicate k true) ≡ 2 ^ length xs = ap (λ (n : ℕ). 2 ^ n) long in
    let turn : number (map not xs) ≡ 2 ^ length xs - 1 - number xs = omega arith in
    let quotients : number (map not xs) / 2 ^ k ≡ (2 ^ length xs - 1 - number xs) / 2 ^ k = ap (λ (n : ℕ). n / 2 ^ k) turn in
    apart (number (drop k xs ++ replicate k true)) (number (map not (drop k xs ++ replicate k true))) (2 ^ length xs) ((2 ^ length xs - 1 - number xs) / 2 ^ k) (whole ∙ sizes) (low ∙ quotients)
  where
    apart : (a b p q : ℕ) → b + a + 1 ≡ p → b ≡ q → a ≡ p - 1 - q
    apart a b p q e f = omega arith

pub number_moved : (kind : Shift) (xs : List Bool) (k : ℕ) → k < length xs → number (moved_bits kind k xs) ≡ shift_of kind (length xs) k (number xs)
number_moved Left xs k h = number_left xs k h
number_moved Right xs k h = number_right xs k h
number_moved RightSigned xs k h = ap (λ (s : Bool). number (drop k xs ++ replicate k s)) (own_sign_bit xs (omega arith)) ∙ number_down xs k h (own_sign (length xs) (number xs))
number_moved RotateLeft xs k h = number_rotated_left xs k h
number_moved RotateRight xs k h = number_rotated_right xs k h

-- ---- the wires of a shift

pub moved_reads : (s : Assignment) → s 1 ≡ true → (kind : Shift) (k : ℕ) (ws : Wires) → read s (moved kind k ws) ≡ moved_bits kind k (read s ws)
moved_reads s one Left k ws =
    read_append s (replicate k false_wire) (take (length ws - k) ws)
    ∙ ap₂ (λ (bs cs : List Bool). bs ++ cs) (read_falses s one k) (read_take s (length ws - k) ws ∙ ap (λ (n : ℕ). take (n - k) (read s ws)) (sym (length_read s ws)))
moved_reads s one Right k ws =
    read_append s (drop k ws) (replicate k false_wire) ∙ ap₂ (λ (bs cs : List Bool). bs ++ cs) (read_drop s k ws) (read_falses s one k)
moved_reads s one RightSigned k ws =
    read_append s (drop k ws) (replicate k (highest ws))
    ∙ ap₂ (λ (bs cs : List Bool). bs ++ cs) (read_drop s k ws)
    (read_copies s k (highest ws) ∙ ap (λ (b : Bool). replicate k b) (highest_or_reads s false_wire ws ∙ ap (λ (b : Bool). last_or b (read s ws)) (holds_false s one)))
moved_reads s one RotateLeft k ws =
    read_append s (drop (length ws - k) ws) (take (length ws - k) ws)
    ∙ ap₂ (λ (bs cs : List Bool). bs ++ cs) (read_drop s (length ws - k) ws) (read_take s (length ws - k) ws)
    ∙ ap (λ (n : ℕ). drop (n - k) (read s ws) ++ take (n - k) (read s ws)) (sym (length_read s ws))
moved_reads s one RotateRight k ws =
    read_append s (drop k ws) (take k ws) ∙ ap₂ (λ (bs cs : List Bool). bs ++ cs) (read_drop s k ws) (read_take s k ws)

-- one stage: moved where the wire is true
stage_reads : (s : Assignment) → s 1 ≡ true → (kind : Shift) (k y : ℕ) (xs : Wires) (c : Circuit) → k < length xs
    → Valued s (each_two (Mux y) (moved kind k xs) xs c).circuit
    → Valued s c × (number (read s (each_two (Mux y) (moved kind k xs) xs c).result) ≡ cond (holds s y) (shift_of kind (length xs) k (number (read s xs))) (number (read s xs)))
    × (length (each_two (Mux y) (moved kind k xs) xs c).result ≡ length xs)
stage_reads s one kind k y xs c small h =
    let all = mux_reads s y (moved kind k xs) xs c h in
    let row : read s (each_two (Mux y) (moved kind k xs) xs c).result ≡ either_bits (holds s y) (moved_bits kind k (read s xs)) (read s xs) =
    all.1 ∙ ap (λ (bs : List Bool). either_bits (holds s y) bs (read s xs)) (moved_reads s one kind k xs) in
    let small_read : k < length (read s xs) = subst (λ (n : ℕ). k < n) (sym (length_read s xs)) small in
    let long : length (moved_bits kind k (read s xs)) ≡ length (read s xs) = length_moved kind k (read s xs) (omega arith) in (
      all.0,
      ap (λ (bs : List Bool). number bs) row ∙ either_is (holds s y) (moved_bits kind k (read s xs)) (read s xs) long
          ∙ ap (λ (n : ℕ). cond (holds s y) n (number (read s xs)))
          (number_moved kind (read s xs) k small_read ∙ ap (λ (n : ℕ). shift_of kind n k (number (read s xs))) (length_read s xs)),
      sym (length_read s (each_two (Mux y) (moved kind k xs) xs c).result) ∙ ap (λ (bs : List Bool). length bs) row
          ∙ length_either (holds s y) (moved_bits kind k (read s xs)) (read s xs) long ∙ length_read s xs,
    )

stages_read : (s : Assignment) → s 1 ≡ true → (kind : Shift) (places : ℕ) (ys xs : Wires) (c : Circuit) → 0 < places
    → places * 2 ^ length ys ≤ length xs → Valued s (shift_by kind places ys xs c).circuit
    → Valued s c × (number (read s (shift_by kind places ys xs c).result) ≡ staged (shift_of kind (length xs)) places (read s ys) (number (read s xs)))
    × (length (shift_by kind places ys xs c).result ≡ length xs)
stages_read s one kind places [] xs c some fit h = (h, refl, refl)
stages_read s one kind places (y ∷ ys) xs c some fit h =
    let first = each_two (Mux y) (moved kind places xs) xs c in
    let double : places * 2 ^ length (y ∷ ys) ≡ 2 * places * 2 ^ length ys = ap (λ (n : ℕ). places * n) (pow-suc 2 (length ys)) ∙ omega arith in
    let power = pow_pos (length ys) in
    let small : places < length xs = smaller places (2 ^ length ys) (length xs) some power (subst (λ (n : ℕ). n ≤ length xs) double fit) in
    let long : length first.result ≡ length xs = mux_long places y xs c small in
    let rest = stages_read s one kind (2 * places) ys first.result first.circuit (omega arith) (subst (λ (n : ℕ). 2 * places * 2 ^ length ys ≤ n) (sym long) (subst (λ (n : ℕ). n ≤ length xs) double fit)) h in
    let here = stage_reads s one kind places y xs c small rest.0 in (
      here.0,
      rest.1 ∙ ap₂ (λ (n x : ℕ). staged (shift_of kind n) (2 * places) (read s ys) x) long here.1,
      rest.2 ∙ long,
    )
  where
    smaller : (p q n : ℕ) → 0 < p → 0 < q → 2 * p * q ≤ n → p < n
    smaller p q n some more fit =
        let one_of : p * 1 ≤ p * q = mul-le-mul_left p more in
        let turn : 2 * p * q ≡ 2 * (p * q) = mul_assoc 2 p q in
        omega arith

    mux_long : (k y : ℕ) (xs : Wires) (c : Circuit) → k < length xs → length (each_two (Mux y) (moved kind k xs) xs c).result ≡ length xs
    mux_long k y xs c small = length_each_two (Mux y) (moved kind k xs) xs c (length_moved_wires kind k xs (omega arith))

pub shift_reads : (s : Assignment) → s 1 ≡ true → (kind : Shift) (ys xs : Wires) (c : Circuit) → 2 ^ length ys ≡ length xs
    → Valued s (shift_by kind 1 ys xs c).circuit
    → Valued s c × (number (read s (shift_by kind 1 ys xs c).result) ≡ shift_of kind (length xs) (number (read s ys)) (number (read s xs)))
    × (length (shift_by kind 1 ys xs c).result ≡ length xs)
shift_reads s one kind ys xs c whole h =
    let some : 0 < length xs = subst (λ (n : ℕ). 0 < n) whole (pow_pos (length ys)) in
    let fit : 1 * 2 ^ length ys ≤ length xs = omega arith in
    let all = stages_read s one kind 1 ys xs c (omega arith) fit h in
    let same : length (read s xs) ≡ length xs = length_read s xs in
    let below : number (read s xs) < 2 ^ length xs = subst (λ (n : ℕ). number (read s xs) < 2 ^ n) same (number_below (read s xs)) in
    let count : number (read s ys) < 2 ^ length (read s ys) = number_below (read s ys) in
    let rows : 2 ^ length (read s ys) ≡ length xs = ap (λ (n : ℕ). 2 ^ n) (length_read s ys) ∙ whole in
    let within : 1 * number (read s ys) < length xs = omega arith in
    let once : 1 * number (read s ys) ≡ number (read s ys) = omega arith in (
      all.0,
      all.1 ∙ stages_shift (length xs) (shift_of kind (length xs)) (is_shift kind (length xs) some) (read s ys) 1 (number (read s xs)) within below
          ∙ ap (λ (n : ℕ). shift_of kind (length xs) n (number (read s xs))) once,
      all.2,
    )
