-- Integers of N bits in a machine word of 64.
use Rattle.std.proofs.Common.{◌≡◌, ℕ, zero, suc, ◌+◌, ◌-◌, ◌*◌, ◌/◌, ◌%◌, ◌^◌, ◌<◌, ◌≤◌, min, ℤ, pos, negsuc, ◌-ℤ◌, Bool, bit_and, bit_or, int_div, int_rem, refl, sym, ap, ◌∙◌, subst, arith, to_z, of_z, w64, cond, lt-ltb, le-ltb, ⊎_elim, mod-eq_of_lt, FitsSigned, le_trans, div-le_self, mul-lt-mul_of_pos_right, mul-le-mul_right, lt_of_le_of_lt, lt_trans, neg_ℤ, zero-le, ap₂, suc-add}
use Rattle.std.proofs.lemmas.Nat.{one_shl, and_mask, mod-pow-add, shl-shr, shr_high, mod_low, pow-add, pow_pos, shr_below, shr_split, mod_below, or_shifted, leading_length, pow_below}
use Rattle.std.proofs.lemmas.Int.{ints, of_z-to_z, to_z-of_z}
use Rattle.std.proofs.lemmas.Bool.{cases_lt}
use Rattle.std.proofs.Math.Nat.{mul-mod_left}
use Rattle.std.specs.Int.Count.{count_leading_zeros, count_trailing_zeros, under, leading_unique}
use lib.Signed.{mag, shr_z, mag_shr}
use Rattle.int_ops.specs.Integers.{signed, unsigned, rotated_left}

-- ---- the lowest bits

-- the mask of b ones
pub masked : (x b : ℕ) → b < 64 → bit_and x (1 * 2 ^ b % 2 ^ 64 - 1) ≡ x % 2 ^ b
masked x b h = ap (λ (m : ℕ). bit_and x (m - 1)) (one_shl b 64 h) ∙ and_mask x b

-- a shift up leaves the lowest b bits, at the top
pub shifted_up : (x a b : ℕ) → (x * 2 ^ a) % 2 ^ (b + a) ≡ (x % 2 ^ b) * 2 ^ a
shifted_up x a b =
    let low : (x * 2 ^ a) % 2 ^ a ≡ zero = mul-mod_left x (2 ^ a) in
    mod-pow-add (x * 2 ^ a) b a ∙ ap (λ (n : ℕ). (n % 2 ^ b) * 2 ^ a + (x * 2 ^ a) % 2 ^ a) (shl-shr x a)
    ∙ omega (arith, low)

-- the lowest b bits of a word
wrap-wrap : (x b : ℕ) → b ≤ 64 → (x % 2 ^ 64) % 2 ^ b ≡ x % 2 ^ b
wrap-wrap x b most =
    let all : 64 - b + b ≡ 64 = omega arith in
    ap (λ (n : ℕ). (x % 2 ^ n) % 2 ^ b) (sym all) ∙ ap (λ (n : ℕ). n % 2 ^ b) (mod-pow-add x (64 - b) b)
    ∙ mod_low (x / 2 ^ b % 2 ^ (64 - b)) b (x % 2 ^ b) (mod_below x (2 ^ b) (pow_pos b))

-- ---- signs

-- below the middle the signed interpretation is the number itself, from there on it is negative
pub signed_low : (b m : ℕ) → m < 2 ^ (b - 1) → signed b m ≡ pos m
signed_low b m h = ap (λ (t : Bool). cond t (pos m) (pos m -ℤ pos (2 ^ b))) (lt-ltb m (2 ^ (b - 1)) h)

below_all : (m n : ℕ) → m < n → pos m -ℤ pos n ≡ negsuc (n - suc m)
below_all m n h = omega (arith, ints)

pub signed_high : (b m : ℕ) → 2 ^ (b - 1) ≤ m → m < 2 ^ b → signed b m ≡ negsuc (2 ^ b - suc m)
signed_high b m h below =
    ap (λ (t : Bool). cond t (pos m) (pos m -ℤ pos (2 ^ b))) (le-ltb m (2 ^ (b - 1)) h) ∙ below_all m (2 ^ b) below

-- ---- a word shifted up, read with its sign and shifted down again

-- of all n rows of width w, those above row m, without the last place
places_above : (k m w : ℕ) → zero < w → (k + suc m) * w - suc (m * w) ≡ k * w + (w - 1)
places_above k m w some = omega arith

-- what is left above m * 2 ^ a of j + a ones: the ones above m, and a ones
ones_above : (j a m : ℕ) → m < 2 ^ j → 2 ^ (j + a) - suc (m * 2 ^ a) ≡ (2 ^ j - suc m) * 2 ^ a + (2 ^ a - 1)
ones_above j a m h =
    let all : 2 ^ j ≡ (2 ^ j - suc m) + suc m = omega arith in
    ap (λ (n : ℕ). n - suc (m * 2 ^ a)) (pow-add 2 j a ∙ ap (λ (n : ℕ). n * 2 ^ a) all)
    ∙ places_above (2 ^ j - suc m) m (2 ^ a) (pow_pos a)

pub pow_half : (b : ℕ) → zero < b → 2 ^ b ≡ 2 * 2 ^ (b - 1)
pow_half b some =
    let whole : b ≡ 1 + (b - 1) = omega arith in
    ap (λ (n : ℕ). 2 ^ n) whole ∙ pow-add 2 1 (b - 1)

module _ (b a m : ℕ) (some : zero < b) (all : b + a ≡ 64) (h : m < 2 ^ b) where
  top_half : 2 ^ (b - 1) * 2 ^ a ≡ 2 ^ 63
  top_half = let e : b - 1 + a ≡ 63 = omega arith in sym (pow-add 2 (b - 1) a) ∙ ap (λ (n : ℕ). 2 ^ n) e

  down_low : m < 2 ^ (b - 1) → shr_z (to_z w64 (m * 2 ^ a)) (2 ^ a) ≡ signed b m
  down_low low =
      let up : m * 2 ^ a < 2 ^ 63 = subst (λ (n : ℕ). m * 2 ^ a < n) top_half (mul-lt-mul_of_pos_right low (pow_pos a)) in
      ap (λ (t : Bool). shr_z (cond t (pos (m * 2 ^ a)) (negsuc (2 ^ 64 - suc (m * 2 ^ a)))) (2 ^ a)) (lt-ltb (m * 2 ^ a) (2 ^ 63) up)
      ∙ ap pos (shl-shr m a) ∙ sym (signed_low b m low)

  down_high : 2 ^ (b - 1) ≤ m → shr_z (to_z w64 (m * 2 ^ a)) (2 ^ a) ≡ signed b m
  down_high high =
      let up : 2 ^ 63 ≤ m * 2 ^ a = subst (λ (n : ℕ). n ≤ m * 2 ^ a) top_half (mul-le-mul_right (2 ^ a) high) in
      let some : zero < 2 ^ a = pow_pos a in
      ap (λ (t : Bool). shr_z (cond t (pos (m * 2 ^ a)) (negsuc (2 ^ 64 - suc (m * 2 ^ a)))) (2 ^ a)) (le-ltb (m * 2 ^ a) (2 ^ 63) up)
      ∙ ap (λ (n : ℕ). negsuc ((2 ^ n - suc (m * 2 ^ a)) / 2 ^ a)) (sym all)
      ∙ ap (λ (n : ℕ). negsuc (n / 2 ^ a)) (ones_above b a m h)
      ∙ ap negsuc (shr_high (2 ^ b - suc m) a (2 ^ a - 1) (omega arith))
      ∙ sym (signed_high b m high h)

  pub shifted_down : shr_z (to_z w64 (m * 2 ^ a)) (2 ^ a) ≡ signed b m
  shifted_down = ⊎_elim down_low down_high (cases_lt m (2 ^ (b - 1)))

pub signed_is : (b x : ℕ) (up : ℤ) → zero < b → b ≤ 64 → FitsSigned w64 up → up ≡ to_z w64 ((x * 2 ^ (64 - b)) % 2 ^ 64)
    → to_z w64 (of_z w64 (shr_z (to_z w64 (of_z w64 up)) (2 ^ (64 - b)))) ≡ signed b (x % 2 ^ b)
signed_is b x up some most fits is =
    let all : b + (64 - b) ≡ 64 = omega arith in
    let down = mag_shr up (2 ^ (64 - b)) in
    let fits_down : FitsSigned w64 (shr_z up (2 ^ (64 - b))) = record { sfits = lt_of_le_of_lt down fits.sfits } in
    ap (λ (z : ℤ). to_z w64 (of_z w64 (shr_z z (2 ^ (64 - b))))) (to_z-of_z w64 up fits)
    ∙ to_z-of_z w64 (shr_z up (2 ^ (64 - b))) fits_down
    ∙ ap (λ (z : ℤ). shr_z z (2 ^ (64 - b))) is
    ∙ ap (λ (n : ℕ). shr_z (to_z w64 ((x * 2 ^ (64 - b)) % 2 ^ n)) (2 ^ (64 - b))) (sym all)
    ∙ ap (λ (n : ℕ). shr_z (to_z w64 n) (2 ^ (64 - b))) (shifted_up x (64 - b) b)
    ∙ shifted_down b (64 - b) (x % 2 ^ b) some all (mod_below x (2 ^ b) (pow_pos b))

-- ---- from signed numbers back to integers of b bits

-- of n places, those before place m in rows of width w: the last of row r
place_before : (q r w n : ℕ) → r < w → q < n → n * w - suc (q * w + r) ≡ (n - suc q) * w + (w - suc r)
place_before q r w n below within =
    let rows : n ≡ (n - suc q) + suc q = omega arith in
    ap (λ (k : ℕ). k * w - suc (q * w + r)) rows ∙ last_place (n - suc q) q r w below
  where
    last_place : (k q r w : ℕ) → r < w → (k + suc q) * w - suc (q * w + r) ≡ k * w + (w - suc r)
    last_place k q r w below = omega arith

-- -(n + 1) in a word, and its lowest b bits
pub wrapped_below : (a b n : ℕ) → n < 2 ^ (a + b) → (2 ^ (a + b) - suc n) % 2 ^ b ≡ 2 ^ b - 1 - n % 2 ^ b
wrapped_below a b n h =
    let rest : n % 2 ^ b < 2 ^ b = mod_below n (2 ^ b) (pow_pos b) in
    let row : n / 2 ^ b < 2 ^ a = shr_below n a b h in
    ap (λ (m : ℕ). (2 ^ (a + b) - suc m) % 2 ^ b) (sym (shr_split n b))
    ∙ ap (λ (m : ℕ). (m - suc (n / 2 ^ b * 2 ^ b + n % 2 ^ b)) % 2 ^ b) (pow-add 2 a b)
    ∙ ap (λ (m : ℕ). m % 2 ^ b) (place_before (n / 2 ^ b) (n % 2 ^ b) (2 ^ b) (2 ^ a) rest row)
    ∙ mod_low (2 ^ a - suc (n / 2 ^ b)) b (2 ^ b - suc (n % 2 ^ b)) (omega arith)
    ∙ omega arith

pub unsigned_is : (b : ℕ) (z : ℤ) → b ≤ 64 → mag z < 2 ^ 64 → of_z w64 z % 2 ^ b ≡ unsigned b z
unsigned_is b (pos n) most h = refl
unsigned_is b (negsuc n) most h =
    let all : 64 - b + b ≡ 64 = omega arith in
    let word : n < 2 ^ (64 - b + b) = subst (λ (k : ℕ). n < 2 ^ k) (sym all) h in
    ap (λ (k : ℕ). (2 ^ k - suc n) % 2 ^ b) (sym all) ∙ wrapped_below (64 - b) b n word

-- the same after it passed through a word
pub unsigned-word : (b : ℕ) (z : ℤ) → b ≤ 64 → mag z < 2 ^ 64 → of_z w64 z < 2 ^ 64 → FitsSigned w64 (to_z w64 (of_z w64 z))
    → unsigned b (to_z w64 (of_z w64 z)) ≡ unsigned b z
unsigned-word b z most h word fits =
    sym (unsigned_is b (to_z w64 (of_z w64 z)) most (lt_trans fits.sfits (pow_below 63 64 (omega arith))))
    ∙ ap (λ (n : ℕ). n % 2 ^ b) (of_z-to_z w64 (of_z w64 z) word) ∙ unsigned_is b z most h

pub fits_word : (z : ℤ) → FitsSigned w64 z → mag z < 2 ^ 64
fits_word z fits = lt_trans fits.sfits (pow_below 63 64 (omega arith))

-- ---- signed operations in a word

of_z-below : (z : ℤ) → mag z < 2 ^ 64 → of_z w64 z < 2 ^ 64
of_z-below (pos n) h = h
of_z-below (negsuc n) h = omega arith

mag-neg : (n : ℕ) → mag (neg_ℤ (pos n)) ≤ n
mag-neg zero = zero-le
mag-neg (suc n) = omega arith

mag-div : (p q : ℤ) → mag (int_div p q) ≤ suc (mag p)
mag-div (pos a) (pos b) = le_trans (div-le_self a b) (omega arith)
mag-div (pos a) (negsuc b) = le_trans (mag-neg (a / suc b)) (le_trans (div-le_self a (suc b)) (omega arith))
mag-div (negsuc a) (pos b) = le_trans (mag-neg (suc a / b)) (div-le_self (suc a) b)
mag-div (negsuc a) (negsuc b) = div-le_self (suc a) (suc b)

-- a number that a word holds passes through it
word_keeps : (z : ℤ) → mag z < 2 ^ 63 → to_z w64 (of_z w64 z) ≡ z
word_keeps z h = to_z-of_z w64 z (record { sfits = h })

wrap-in : (b x : ℕ) → x < 2 ^ b → signed b (x % 2 ^ b) ≡ signed b x
wrap-in b x h = ap (signed b) (mod-eq_of_lt h)

pub divided : (b x y : ℕ) (p q t : ℤ) (r : ℕ) → b ≤ 64 → x < 2 ^ b → y < 2 ^ b → mag p < 2 ^ 63 → mag q < 2 ^ 63 → mag t < 2 ^ 63
    → p ≡ signed b (x % 2 ^ b) → q ≡ signed b (y % 2 ^ b)
    → t ≡ to_z w64 (of_z w64 (int_div (to_z w64 (of_z w64 p)) (to_z w64 (of_z w64 q))))
    → r ≡ unsigned b (to_z w64 (of_z w64 t)) → r ≡ unsigned b (int_div (signed b x) (signed b y))
divided b x y p q t r most xb yb pb qb tb p_is q_is t_is r_is =
    let size : mag (int_div p q) < 2 ^ 64 = omega (arith, mag-div p q) in
    let same : t ≡ to_z w64 (of_z w64 (int_div p q)) =
    t_is ∙ ap₂ (λ (v w : ℤ). to_z w64 (of_z w64 (int_div v w))) (word_keeps p pb) (word_keeps q qb) in
    let fits : FitsSigned w64 (to_z w64 (of_z w64 (int_div p q))) = subst (λ (z : ℤ). FitsSigned w64 z) same (record { sfits = tb }) in
    r_is ∙ ap (unsigned b) (word_keeps t tb ∙ same)
    ∙ unsigned-word b (int_div p q) most size (of_z-below (int_div p q) size) fits
    ∙ ap₂ (λ (v w : ℤ). unsigned b (int_div v w)) (p_is ∙ wrap-in b x xb) (q_is ∙ wrap-in b y yb)

pub remaindered : (b x y : ℕ) (p q t : ℤ) (r : ℕ) → x < 2 ^ b → y < 2 ^ b → mag p < 2 ^ 63 → mag q < 2 ^ 63 → mag t < 2 ^ 63
    → p ≡ signed b (x % 2 ^ b) → q ≡ signed b (y % 2 ^ b)
    → t ≡ int_rem (to_z w64 (of_z w64 p)) (to_z w64 (of_z w64 q))
    → r ≡ unsigned b (to_z w64 (of_z w64 t)) → r ≡ unsigned b (int_rem (signed b x) (signed b y))
remaindered b x y p q t r xb yb pb qb tb p_is q_is t_is r_is =
    r_is ∙ ap (unsigned b) (word_keeps t tb ∙ t_is)
    ∙ ap₂ (λ (v w : ℤ). unsigned b (int_rem v w)) (word_keeps p pb ∙ p_is ∙ wrap-in b x xb) (word_keeps q qb ∙ q_is ∙ wrap-in b y yb)

pub shifted : (b x k : ℕ) (p : ℤ) (r : ℕ) → x < 2 ^ b → mag p < 2 ^ 63 → p ≡ signed b (x % 2 ^ b)
    → r ≡ unsigned b (to_z w64 (of_z w64 (shr_z (to_z w64 (of_z w64 p)) (2 ^ k))))
    → r ≡ unsigned b (shr_z (signed b x) (2 ^ k))
shifted b x k p r xb pb p_is r_is =
    r_is ∙ ap (λ (z : ℤ). unsigned b (to_z w64 (of_z w64 (shr_z z (2 ^ k))))) (word_keeps p pb)
    ∙ ap (unsigned b) (word_keeps (shr_z p (2 ^ k)) (lt_of_le_of_lt (mag_shr p (2 ^ k)) pb))
    ∙ ap (λ (z : ℤ). unsigned b (shr_z z (2 ^ k))) (p_is ∙ wrap-in b x xb)

signed-not_zero : (b y : ℕ) → zero < y → y < 2 ^ b → mag (signed b y) < 2 ^ 63 → zero < of_z w64 (signed b y)
signed-not_zero b y some below fits =
    ⊎_elim
    (λ low. subst (λ (z : ℤ). zero < of_z w64 z) (sym (signed_low b y low)) some)
    (λ high.
    let e = signed_high b y high below in
    let small : 2 ^ b - suc y < 2 ^ 63 = subst (λ (z : ℤ). mag z < 2 ^ 63) e fits in
    subst (λ (z : ℤ). zero < of_z w64 z) (sym e) (omega arith))
    (cases_lt y (2 ^ (b - 1)))

pub not_zero : (b y : ℕ) (q : ℤ) → zero < y → y < 2 ^ b → mag q < 2 ^ 63 → q ≡ signed b (y % 2 ^ b)
    → zero < of_z w64 (to_z w64 (of_z w64 q))
not_zero b y q some below fits is =
    let e = is ∙ wrap-in b y below in
    subst (λ (z : ℤ). zero < of_z w64 z) (sym (word_keeps q fits ∙ e))
    (signed-not_zero b y some below (subst (λ (z : ℤ). mag z < 2 ^ 63) e fits))

-- ---- rotations

-- the bits that are shifted out come in below those that stay
pub rotated : (x k b : ℕ) → x < 2 ^ b → k ≤ b → b ≤ 64 → bit_or (((x * 2 ^ k) % 2 ^ 64) % 2 ^ b) (x / 2 ^ (b - k)) ≡ rotated_left b x k
rotated x k b below within most =
    let parts : b - k + k ≡ b = omega arith in
    let turned : k + (b - k) ≡ b = omega arith in
    let stays : (x * 2 ^ k) % 2 ^ b ≡ (x % 2 ^ (b - k)) * 2 ^ k =
    ap (λ (n : ℕ). (x * 2 ^ k) % 2 ^ n) (sym parts) ∙ shifted_up x k (b - k) in
    let leaves : x / 2 ^ (b - k) < 2 ^ k = shr_below x k (b - k) (subst (λ (n : ℕ). x < 2 ^ n) (sym turned) below) in
    ap (λ (n : ℕ). bit_or n (x / 2 ^ (b - k))) (wrap-wrap (x * 2 ^ k) b most ∙ stays)
    ∙ or_shifted (x % 2 ^ (b - k)) k (x / 2 ^ (b - k)) leaves
    ∙ ap (λ (n : ℕ). n + x / 2 ^ (b - k)) (sym stays)

-- ---- counts

pub leading : (b x : ℕ) → b ≤ 64 → x < 2 ^ b → (64 - b ≤ count_leading_zeros 64 x) × (count_leading_zeros 64 x - (64 - b) ≡ count_leading_zeros b x)
leading b x most below =
    let found = leading_length b x below in
    let same : count_leading_zeros b x + (64 - b) ≡ count_leading_zeros 64 x =
    leading_unique 64 x (count_leading_zeros b x + (64 - b)) found.0 (omega (arith, found.1)) found.2 found.3 in
    (omega arith, omega arith)

-- one more place to look at
under-min : (digit m n b : ℕ) → min m b ≡ n → min (under digit m) (suc b) ≡ under digit n
under-min zero m n b e = omega (arith, e)
under-min (suc digit) m n b e = omega arith

pub trailing : (b k x : ℕ) → min (count_trailing_zeros (b + k) x) b ≡ count_trailing_zeros b x
unfolding count_trailing_zeros
trailing zero k x = omega arith
trailing (suc b) k x =
    ap (λ (n : ℕ). min (count_trailing_zeros n x) (suc b)) (suc-add b k)
    ∙ under-min (x % 2) (count_trailing_zeros (b + k) (x / 2)) (count_trailing_zeros b (x / 2)) b (trailing b k (x / 2))
