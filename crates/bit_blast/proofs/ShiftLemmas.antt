-- Shifts and rotations, in stages by powers of 2.
use Rattle.std.proofs.Common.{◌≡◌, ℕ, ◌+◌, ◌-◌, ◌*◌, ◌/◌, ◌%◌, ◌^◌, ◌<◌, ◌≤◌, Bool, true, false, cond, nat_le, List, [], ◌∷◌, refl, sym, ap, ◌∙◌, subst, arith, ap₂, mod-eq_of_lt, mul-zero, mul_assoc, mul_comm, add_comm, pow-add, shr-shr, add_assoc, lt_of_le_of_lt, div-le_self, mul-one, div-one}
use Rattle.std.proofs.Math.Nat.{div-eq_of_lt, mod-one}
use Rattle.std.proofs.lemmas.Nat.{pow_pos, mod_below, shr_split, shr_below, mul-mod_first, mul-add-lt, shr_high, mod_low}
use Rattle.std.proofs.lemmas.Bool.Decides.{nat_tests}
use Rattle.int_ops.proofs.IntegerLemmas.{pow_half}
use Rattle.bit_blast.proofs.BitNumbers.{number}

-- ---- any shift that can be done in two goes

-- by 0 nothing is changed, and by j and then by k is by j + k, as long as that is below N
pub record IsShift (N : ℕ) (shift : ℕ → ℕ → ℕ) : Type 0 where
  pub none : (x : ℕ) → x < 2 ^ N → shift 0 x ≡ x
  pub below : (j x : ℕ) → j < N → x < 2 ^ N → shift j x < 2 ^ N
  pub twice : (j k x : ℕ) → j + k < N → x < 2 ^ N → shift k (shift j x) ≡ shift (j + k) x

-- in stages, the first by so much and each by twice as much as the one before
abbrev pub staged : (ℕ → ℕ → ℕ) → ℕ → List Bool → ℕ → ℕ
staged shift amount [] x = x
staged shift amount (b ∷ bs) x = staged shift (2 * amount) bs (cond b (shift amount x) x)

pub stages_shift : (N : ℕ) (shift : ℕ → ℕ → ℕ) → IsShift N shift → (bs : List Bool) (amount x : ℕ) → amount * number bs < N → x < 2 ^ N
    → staged shift amount bs x ≡ shift (amount * number bs) x
stages_shift N shift s [] amount x h below = sym (ap (λ (n : ℕ). shift n x) (mul-zero amount) ∙ s.none x below)
stages_shift N shift s (true ∷ bs) amount x h below =
    let parts : amount * (1 + 2 * number bs) ≡ amount + 2 * amount * number bs = omega arith in
    let all : amount + 2 * amount * number bs < N = omega arith in
    stages_shift N shift s bs (2 * amount) (shift amount x) (omega arith) (s.below amount x (omega arith) below)
    ∙ s.twice amount (2 * amount * number bs) x all below ∙ ap (λ (n : ℕ). shift n x) (sym parts)
stages_shift N shift s (false ∷ bs) amount x h below =
    let parts : amount * (0 + 2 * number bs) ≡ 2 * amount * number bs = omega arith in
    stages_shift N shift s bs (2 * amount) x (omega arith) below ∙ ap (λ (n : ℕ). shift n x) (sym parts)

-- ---- the shifts

pub left : (N : ℕ) → IsShift N (λ k x. (x * 2 ^ k) % 2 ^ N)
left N = record {
  none = λ x h. ap (λ (n : ℕ). n % 2 ^ N) (mul-one x) ∙ mod-eq_of_lt h;
  below = λ j x h k. mod_below (x * 2 ^ j) (2 ^ N) (pow_pos N);
  twice = λ j k x h below.
      mul-mod_first (x * 2 ^ j) (2 ^ k) (2 ^ N)
      ∙ ap (λ (n : ℕ). n % 2 ^ N) (mul_assoc x (2 ^ j) (2 ^ k) ∙ ap (λ (n : ℕ). x * n) (sym (pow-add 2 j k)));
}

pub right : (N : ℕ) → IsShift N (λ k x. x / 2 ^ k)
right N = record {
  none = λ x h. div-one x;
  below = λ j x h k. lt_of_le_of_lt (div-le_self x (2 ^ j)) k;
  twice = λ j k x h below. shr-shr x j k;
}

-- with copies of the highest bit: where it is set, the negations are shifted
abbrev pub down : ℕ → Bool → ℕ → ℕ → ℕ
down N true k x = 2 ^ N - 1 - (2 ^ N - 1 - x) / 2 ^ k
down N false k x = x / 2 ^ k

pub right_signed : (N : ℕ) (s : Bool) → IsShift N (down N s)
right_signed N false = right N
right_signed N true = record {
  none = λ x h. ap (λ (n : ℕ). 2 ^ N - 1 - n) (div-one (2 ^ N - 1 - x)) ∙ omega arith;
  below = λ j x h k. let some = pow_pos N in omega (arith, some);
  twice = λ j k x h below.
      let small = div-le_self (2 ^ N - 1 - x) (2 ^ j) in
      let back : 2 ^ N - 1 - (2 ^ N - 1 - (2 ^ N - 1 - x) / 2 ^ j) ≡ (2 ^ N - 1 - x) / 2 ^ j = omega (arith, small) in
      ap (λ (n : ℕ). 2 ^ N - 1 - n / 2 ^ k) back ∙ ap (λ (n : ℕ). 2 ^ N - 1 - n) (shr-shr (2 ^ N - 1 - x) j k);
}

-- where the sign is the number's own
abbrev pub own_sign : ℕ → ℕ → Bool
own_sign N x = nat_le (2 ^ (N - 1)) x

sign_stays : (N j x : ℕ) → 0 < N → x < 2 ^ N → own_sign N (down N (own_sign N x) j x) ≡ own_sign N x
sign_stays N j x some below = go (own_sign N x) refl
  where
    half : 2 ^ N ≡ 2 * 2 ^ (N - 1)
    half = pow_half N some

    go : (s : Bool) → own_sign N x ≡ s → own_sign N (down N s j x) ≡ s
    go true e =
        let high : 2 ^ (N - 1) ≤ x = passed (2 ^ (N - 1)) x e in
        let less = div-le_self (2 ^ N - 1 - x) (2 ^ j) in
        passes (2 ^ (N - 1)) (2 ^ N - 1 - (2 ^ N - 1 - x) / 2 ^ j) (omega arith)
      where
        passed : (m n : ℕ) → nat_le m n ≡ true → m ≤ n
        passed m n e = grind (arith, nat_tests)

        passes : (m n : ℕ) → m ≤ n → nat_le m n ≡ true
        passes m n h = grind (arith, nat_tests)
    go false e =
        let low : x < 2 ^ (N - 1) = failed (2 ^ (N - 1)) x e in
        let less = div-le_self x (2 ^ j) in
        fails (2 ^ (N - 1)) (x / 2 ^ j) (omega arith)
      where
        failed : (m n : ℕ) → nat_le m n ≡ false → n < m
        failed m n e = grind (arith, nat_tests)

        fails : (m n : ℕ) → n < m → nat_le m n ≡ false
        fails m n h = grind (arith, nat_tests)

pub right_own : (N : ℕ) → 0 < N → IsShift N (λ k x. down N (own_sign N x) k x)
right_own N some = record {
  none = λ x h. (right_signed N (own_sign N x)).none x h;
  below = λ j x h k. (right_signed N (own_sign N x)).below j x h k;
  twice = λ j k x h below.
      ap (λ (s : Bool). down N s k (down N (own_sign N x) j x)) (sign_stays N j x some below)
      ∙ (right_signed N (own_sign N x)).twice j k x h below;
}

-- ---- rotations

-- the n lowest bits change places with the k above them
abbrev pub turned : ℕ → ℕ → ℕ → ℕ
turned n k x = x % 2 ^ n * 2 ^ k + x / 2 ^ n

parts_fit : (n k a b : ℕ) → a < 2 ^ n → b < 2 ^ k → a * 2 ^ k + b < 2 ^ (n + k)
parts_fit n k a b h l = subst (λ (m : ℕ). a * 2 ^ k + b < m) (mul_comm (2 ^ k) (2 ^ n) ∙ sym (pow-add 2 n k)) (mul-add-lt a (2 ^ k) b (2 ^ n) h l)

pub turned_below : (n k x : ℕ) → x < 2 ^ (k + n) → turned n k x < 2 ^ (n + k)
turned_below n k x h = parts_fit n k (x % 2 ^ n) (x / 2 ^ n) (mod_below x (2 ^ n) (pow_pos n)) (shr_below x k n h)

-- three parts in a row
spread : (a b c p q : ℕ) → (a * p + b) * q + c ≡ a * (p * q) + (b * q + c)
spread a b c p q = grind arith

three : (a b c m k : ℕ) → (a * 2 ^ k + b) * 2 ^ m + c ≡ a * 2 ^ (k + m) + (b * 2 ^ m + c)
three a b c m k = spread a b c (2 ^ k) (2 ^ m) ∙ ap (λ (n : ℕ). a * n + (b * 2 ^ m + c)) (sym (pow-add 2 k m))

-- of three parts, of any, k and m bits, the highest and the two lower
high_of_three : (a b c m k : ℕ) → b < 2 ^ k → c < 2 ^ m → ((a * 2 ^ k + b) * 2 ^ m + c) / 2 ^ (k + m) ≡ a
high_of_three a b c m k h l = ap (λ (n : ℕ). n / 2 ^ (k + m)) (three a b c m k) ∙ shr_high a (k + m) (b * 2 ^ m + c) (parts_fit k m b c h l)

low_of_three : (a b c m k : ℕ) → b < 2 ^ k → c < 2 ^ m → ((a * 2 ^ k + b) * 2 ^ m + c) % 2 ^ (k + m) ≡ b * 2 ^ m + c
low_of_three a b c m k h l = ap (λ (n : ℕ). n % 2 ^ (k + m)) (three a b c m k) ∙ mod_low a (k + m) (b * 2 ^ m + c) (parts_fit k m b c h l)

-- the three parts of a number
in_three : (x m k : ℕ) → x ≡ (x / 2 ^ m / 2 ^ k * 2 ^ k + x / 2 ^ m % 2 ^ k) * 2 ^ m + x % 2 ^ m
in_three x m k = sym (ap (λ (n : ℕ). n * 2 ^ m + x % 2 ^ m) (shr_split (x / 2 ^ m) k) ∙ shr_split x m)

-- three parts, of j, k and m bits: the highest goes below, and then the next, as both at once
turned_left_parts : (a b c j k m : ℕ) → a < 2 ^ j → b < 2 ^ k → c < 2 ^ m
    → turned (j + m) k (turned (k + m) j ((a * 2 ^ k + b) * 2 ^ m + c)) ≡ turned m (j + k) ((a * 2 ^ k + b) * 2 ^ m + c)
turned_left_parts a b c j k m h i l =
    ap (λ (n : ℕ). turned (j + m) k n) (ap₂ (λ (x y : ℕ). x * 2 ^ j + y) (low_of_three a b c m k i l) (high_of_three a b c m k i l))
    ∙ ap (λ (n : ℕ). n % 2 ^ (j + m) * 2 ^ k + n / 2 ^ (j + m)) here
    ∙ ap₂ (λ (x y : ℕ). x * 2 ^ k + y) (mod_low b (j + m) (c * 2 ^ j + a) small) (shr_high b (j + m) (c * 2 ^ j + a) small)
    ∙ three c a b k j
    ∙ sym (ap₂ (λ (x y : ℕ). x * 2 ^ (j + k) + y) (mod_low (a * 2 ^ k + b) m c l) (shr_high (a * 2 ^ k + b) m c l))
  where
    small : c * 2 ^ j + a < 2 ^ (j + m)
    small = subst (λ (n : ℕ). c * 2 ^ j + a < 2 ^ n) (add_comm m j) (parts_fit m j c a l h)

    here : (b * 2 ^ m + c) * 2 ^ j + a ≡ b * 2 ^ (j + m) + (c * 2 ^ j + a)
    here = three b c a j m ∙ ap (λ (n : ℕ). b * 2 ^ n + (c * 2 ^ j + a)) (add_comm m j)

-- the lowest goes above, and then the next, as both at once
turned_right_parts : (a b c j k m : ℕ) → a < 2 ^ m → b < 2 ^ k → c < 2 ^ j
    → turned k (j + m) (turned j (k + m) ((a * 2 ^ k + b) * 2 ^ j + c)) ≡ turned (j + k) m ((a * 2 ^ k + b) * 2 ^ j + c)
turned_right_parts a b c j k m h i l =
    ap (λ (n : ℕ). turned k (j + m) n) (ap₂ (λ (x y : ℕ). x * 2 ^ (k + m) + y) (mod_low (a * 2 ^ k + b) j c l) (shr_high (a * 2 ^ k + b) j c l))
    ∙ ap (λ (n : ℕ). n % 2 ^ k * 2 ^ (j + m) + n / 2 ^ k) here
    ∙ ap₂ (λ (x y : ℕ). x * 2 ^ (j + m) + y) (mod_low (c * 2 ^ m + a) k b i) (shr_high (c * 2 ^ m + a) k b i)
    ∙ sym (three b c a m j)
    ∙ sym (ap (λ (n : ℕ). ((a * 2 ^ k + b) * 2 ^ j + c) % 2 ^ n * 2 ^ m + ((a * 2 ^ k + b) * 2 ^ j + c) / 2 ^ n) (add_comm j k)
    ∙ ap₂ (λ (x y : ℕ). x * 2 ^ m + y) (low_of_three a b c j k i l) (high_of_three a b c j k i l))
  where
    here : c * 2 ^ (k + m) + (a * 2 ^ k + b) ≡ (c * 2 ^ m + a) * 2 ^ k + b
    here = ap (λ (n : ℕ). c * 2 ^ n + (a * 2 ^ k + b)) (add_comm k m) ∙ sym (three c a b k m)

pub turned_left_twice : (j k m x : ℕ) → x < 2 ^ (j + (k + m)) → turned (j + m) k (turned (k + m) j x) ≡ turned m (j + k) x
turned_left_twice j k m x h =
    ap (λ (n : ℕ). turned (j + m) k (turned (k + m) j n)) (in_three x m k)
    ∙ turned_left_parts (x / 2 ^ m / 2 ^ k) (x / 2 ^ m % 2 ^ k) (x % 2 ^ m) j k m high (mod_below (x / 2 ^ m) (2 ^ k) (pow_pos k)) (mod_below x (2 ^ m) (pow_pos m))
    ∙ ap (λ (n : ℕ). turned m (j + k) n) (sym (in_three x m k))
  where
    high : x / 2 ^ m / 2 ^ k < 2 ^ j
    high = shr_below (x / 2 ^ m) j k (shr_below x (j + k) m (subst (λ (n : ℕ). x < 2 ^ n) (sym (add_assoc j k m)) h))

pub turned_right_twice : (j k m x : ℕ) → x < 2 ^ (m + (k + j)) → turned k (j + m) (turned j (k + m) x) ≡ turned (j + k) m x
turned_right_twice j k m x h =
    ap (λ (n : ℕ). turned k (j + m) (turned j (k + m) n)) (in_three x j k)
    ∙ turned_right_parts (x / 2 ^ j / 2 ^ k) (x / 2 ^ j % 2 ^ k) (x % 2 ^ j) j k m high (mod_below (x / 2 ^ j) (2 ^ k) (pow_pos k)) (mod_below x (2 ^ j) (pow_pos j))
    ∙ ap (λ (n : ℕ). turned (j + k) m n) (sym (in_three x j k))
  where
    high : x / 2 ^ j / 2 ^ k < 2 ^ m
    high = shr_below (x / 2 ^ j) m k (shr_below x (m + k) j (subst (λ (n : ℕ). x < 2 ^ n) (sym (add_assoc m k j)) h))

no_turn : (N x : ℕ) → x < 2 ^ N → turned N 0 x ≡ x
no_turn N x h = ap₂ (λ (a b : ℕ). a * 1 + b) (mod-eq_of_lt h) (div-eq_of_lt h) ∙ omega arith

pub rotated_left_shifts : (N : ℕ) → IsShift N (λ k x. turned (N - k) k x)
rotated_left_shifts N = record {
  none = λ x h. ap (λ (n : ℕ). turned n 0 x) whole ∙ no_turn N x h;
  below = λ j x h k.
      let all : j + (N - j) ≡ N = omega arith in
      let back : N - j + j ≡ N = omega arith in
      subst (λ (n : ℕ). turned (N - j) j x < 2 ^ n) back (turned_below (N - j) j x (subst (λ (n : ℕ). x < 2 ^ n) (sym all) k));
  twice = λ j k x h below.
      let m : ℕ = N - (j + k) in
      let first : N - j ≡ k + (N - (j + k)) = omega arith in
      let second : N - k ≡ j + (N - (j + k)) = omega arith in
      let all : N ≡ j + (k + (N - (j + k))) = omega arith in
      ap₂ (λ (n o : ℕ). turned n k (turned o j x)) second first
      ∙ turned_left_twice j k (N - (j + k)) x (subst (λ (n : ℕ). x < 2 ^ n) all below);
}
  where
    whole : N - 0 ≡ N
    whole = omega arith

pub rotated_right_shifts : (N : ℕ) → IsShift N (λ k x. turned k (N - k) x)
rotated_right_shifts N = record {
  none = λ x h. nothing x;
  below = λ j x h k.
      let all : N - j + j ≡ N = omega arith in
      let back : j + (N - j) ≡ N = omega arith in
      subst (λ (n : ℕ). turned j (N - j) x < 2 ^ n) back (turned_below j (N - j) x (subst (λ (n : ℕ). x < 2 ^ n) (sym all) k));
  twice = λ j k x h below.
      let first : N - j ≡ k + (N - (j + k)) = omega arith in
      let second : N - k ≡ j + (N - (j + k)) = omega arith in
      let all : N ≡ N - (j + k) + (k + j) = omega arith in
      ap₂ (λ (n o : ℕ). turned k n (turned j o x)) second first
      ∙ turned_right_twice j k (N - (j + k)) x (subst (λ (n : ℕ). x < 2 ^ n) all below);
}
  where
    nothing : (x : ℕ) → turned 0 (N - 0) x ≡ x
    nothing x = ap₂ (λ (a b : ℕ). a * 2 ^ (N - 0) + b) (mod-one x) (div-one x) ∙ omega arith
