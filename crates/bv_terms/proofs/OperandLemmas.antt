-- What operations give of a number that leaves the other side as it is, of one that clears it, and of one operand twice.
use Rattle.std.proofs.Common.{◌≡◌, ℕ, suc, ◌+◌, ◌-◌, ◌*◌, ◌/◌, ◌%◌, ◌^◌, ◌<◌, ℤ, pos, negsuc, neg_ℤ, true, false, nat_lt, nat_le, ◌==◌, int_div, int_rem, bit_and, bit_or, bit_xor, Some, refl, ap, ◌∙◌, arith, mod-eq_of_lt}
use Rattle.std.specs.Prelude.{not, int_lt, int_le}
use Rattle.std.proofs.lemmas.Bool.Decides.{nat_tests}
use Rattle.std.proofs.Math.Nat.{mod_self, add-mod_right, div-eq_of_lt}
use lib.Bits.{and_comm, and_mask, and_self, or_self, xor_self, and_zero_r, and_zero_l, or_zero_r, or_zero_l, xor_zero_r, xor_zero_l}
use lib.Signed.{shr_z}
use Rattle.int_ops.specs.declared.operators.Width.{Width}
use Rattle.int_ops.specs.declared.operators.Width.TheVariants.{W32, W64}
use Rattle.int_ops.specs.declared.operators.Binary.{Binary}
use Rattle.int_ops.specs.declared.operators.Binary.TheVariants.{Eq, Ne, LtS, LtU, LeS, LeU, Add, Sub, Mul, DivS, DivU, RemS, RemU, And, Or, Xor, Shl, ShrS, ShrU, Rotl, Rotr}
use Rattle.int_ops.specs.Integers.{signed, unsigned, minus_one, truth}
use Rattle.int_ops.specs.Operators.{bits_of, total_value}
use Rattle.int_ops.proofs.LawLemmas.{unsigned-signed, rotated-parts}
use Rattle.int_ops.proofs.WidthLemmas.{compares}
use Rattle.bv_terms.specs.Making.{zero_on_left, zero_on_right, one_on_left, one_on_right, clearing_left, clearing_right}

-- ---- numbers

whole : (N x : ℕ) → x < 2 ^ N → x % 2 ^ N ≡ x
whole N x h = mod-eq_of_lt h

plus_zero : (N x y : ℕ) → y ≡ x → x < 2 ^ N → y % 2 ^ N ≡ x
plus_zero N x y e h = ap (λ (n : ℕ). n % 2 ^ N) e ∙ whole N x h

less_zero : (N x : ℕ) → x < 2 ^ N → (x + 2 ^ N - 0) % 2 ^ N ≡ x
less_zero N x h =
    let e : x + 2 ^ N - 0 ≡ x + 2 ^ N = omega arith in
    ap (λ (n : ℕ). n % 2 ^ N) e ∙ add-mod_right x (2 ^ N) ∙ whole N x h

less_itself : (N x : ℕ) → (x + 2 ^ N - x) % 2 ^ N ≡ 0
less_itself N x =
    let e : x + 2 ^ N - x ≡ 2 ^ N = omega arith in
    ap (λ (n : ℕ). n % 2 ^ N) e ∙ mod_self (2 ^ N)

by_one : (x : ℕ) → x / 1 ≡ x
by_one x = omega arith

beyond_one : (x : ℕ) → x % 1 ≡ 0
beyond_one x = omega arith

times_one : (x : ℕ) → x * 1 ≡ x
times_one x = omega arith

one_times : (x : ℕ) → 1 * x ≡ x
one_times x = omega arith

no_bits : (w : Width) → 0 % bits_of w ≡ 0
no_bits W32 = refl
no_bits W64 = refl

less_none : (n : ℕ) → n - 0 ≡ n
less_none n = omega arith

all_ones : (N x : ℕ) → x < 2 ^ N → bit_and x (2 ^ N - 1) ≡ x
all_ones N x h = and_mask x N ∙ whole N x h

ones_all : (N x : ℕ) → x < 2 ^ N → bit_and (2 ^ N - 1) x ≡ x
ones_all N x h = and_comm (2 ^ N - 1) x ∙ all_ones N x h

-- ---- signs

signed_one : (w : Width) → signed (bits_of w) 1 ≡ pos 1
signed_one W32 = refl
signed_one W64 = refl

div_one : (z : ℤ) → int_div z (pos 1) ≡ z
div_one (pos a) = ap pos (by_one a)
div_one (negsuc a) = let e : suc a / 1 ≡ suc a = omega arith in ap (λ (n : ℕ). neg_ℤ (pos n)) e

rem_one : (z : ℤ) → int_rem z (pos 1) ≡ pos 0
rem_one (pos a) = ap pos (beyond_one a)
rem_one (negsuc a) = let e : suc a % 1 ≡ 0 = omega arith in ap (λ (n : ℕ). neg_ℤ (pos n)) e

shr_one : (z : ℤ) → shr_z z 1 ≡ z
shr_one (pos a) = ap pos (by_one a)
shr_one (negsuc a) = ap negsuc (by_one a)

none : (N : ℕ) → 0 % 2 ^ N ≡ 0
none N = omega arith

lt_itself : (z : ℤ) → int_lt z z ≡ false
lt_itself (pos a) = grind (arith, nat_tests)
lt_itself (negsuc a) = grind (arith, nat_tests)

le_itself : (z : ℤ) → int_le z z ≡ true
le_itself (pos a) = grind (arith, nat_tests)
le_itself (negsuc a) = grind (arith, nat_tests)

below_itself : (n : ℕ) → nat_lt n n ≡ false
below_itself n = grind (arith, nat_tests)

within_itself : (n : ℕ) → nat_le n n ≡ true
within_itself n = grind (arith, nat_tests)

is_itself : (n : ℕ) → (n == n) ≡ true
is_itself n = grind (arith, nat_tests)

-- ---- rotations

rotated_none : (N x : ℕ) → x < 2 ^ N → (x * 2 ^ 0) % 2 ^ N + x / 2 ^ (N - 0) ≡ x
rotated_none N x h =
    let first : (x * 2 ^ 0) % 2 ^ N ≡ x = plus_zero N x (x * 2 ^ 0) (times_one x) h in
    let all : N - 0 ≡ N = omega arith in
    let second : x / 2 ^ (N - 0) ≡ 0 = ap (λ (k : ℕ). x / 2 ^ k) all ∙ div-eq_of_lt h in
    omega (arith, first, second)

rotated_all : (N x : ℕ) → x < 2 ^ N → (x * 2 ^ N) % 2 ^ N + x / 2 ^ (N - N) ≡ x
rotated_all N x h =
    let rest : N - N ≡ 0 = omega arith in
    rotated-parts N x N (omega arith)
    ∙ ap (λ (k : ℕ). (x % 2 ^ k) * 2 ^ N + x / 2 ^ k) rest ∙ low (2 ^ N)
  where
    low : (n : ℕ) → (x % 1) * n + x / 1 ≡ x
    low n = ap (λ (k : ℕ). k * n + x / 1) (beyond_one x) ∙ omega arith

-- ---- the number that leaves the other side as it is

-- such an operation has as many bits as its operands
pub left_zero : (operation : Binary) (w : Width) (n y : ℕ) → zero_on_left operation ≡ Some n → y < 2 ^ bits_of w
    → (compares operation ≡ false) × (total_value operation (bits_of w) n y ≡ y)
left_zero Add w n y e h = let is : n ≡ 0 = cc in (refl, ap (λ (k : ℕ). (k + y) % 2 ^ bits_of w) is ∙ plus_zero (bits_of w) y (0 + y) (omega arith) h)
left_zero Or w n y e h = let is : n ≡ 0 = cc in (refl, ap (λ (k : ℕ). bit_or k y) is ∙ or_zero_l y)
left_zero Xor w n y e h = let is : n ≡ 0 = cc in (refl, ap (λ (k : ℕ). bit_xor k y) is ∙ xor_zero_l y)
left_zero _ w n y e h = let wrong : ⊥ = cc in absurd wrong

pub right_zero : (operation : Binary) (w : Width) (n x : ℕ) → zero_on_right operation ≡ Some n → x < 2 ^ bits_of w
    → (compares operation ≡ false) × (total_value operation (bits_of w) x n ≡ x)
right_zero Add w n x e h = let is : n ≡ 0 = cc in (refl, ap (λ (k : ℕ). (x + k) % 2 ^ bits_of w) is ∙ plus_zero (bits_of w) x (x + 0) (omega arith) h)
right_zero Or w n x e h = let is : n ≡ 0 = cc in (refl, ap (λ (k : ℕ). bit_or x k) is ∙ or_zero_r x)
right_zero Xor w n x e h = let is : n ≡ 0 = cc in (refl, ap (λ (k : ℕ). bit_xor x k) is ∙ xor_zero_r x)
right_zero Sub w n x e h = let is : n ≡ 0 = cc in (refl, ap (λ (k : ℕ). (x + 2 ^ bits_of w - k) % 2 ^ bits_of w) is ∙ less_zero (bits_of w) x h)
right_zero Shl w n x e h =
    let is : n ≡ 0 = cc in (
      refl,
      ap (λ (k : ℕ). (x * 2 ^ (k % bits_of w)) % 2 ^ bits_of w) is
          ∙ ap (λ (k : ℕ). (x * 2 ^ k) % 2 ^ bits_of w) (no_bits w) ∙ plus_zero (bits_of w) x (x * 1) (times_one x) h,
    )
right_zero ShrS w n x e h =
    let is : n ≡ 0 = cc in (
      refl,
      ap (λ (k : ℕ). unsigned (bits_of w) (shr_z (signed (bits_of w) x) (2 ^ (k % bits_of w)))) is
          ∙ ap (λ (k : ℕ). unsigned (bits_of w) (shr_z (signed (bits_of w) x) (2 ^ k))) (no_bits w)
          ∙ ap (unsigned (bits_of w)) (shr_one (signed (bits_of w) x)) ∙ unsigned-signed (bits_of w) x h,
    )
right_zero ShrU w n x e h =
    let is : n ≡ 0 = cc in
    (refl, ap (λ (k : ℕ). x / 2 ^ (k % bits_of w)) is ∙ ap (λ (k : ℕ). x / 2 ^ k) (no_bits w) ∙ by_one x)
right_zero Rotl w n x e h =
    let is : n ≡ 0 = cc in (
      refl,
      ap (λ (k : ℕ). (x * 2 ^ (k % bits_of w)) % 2 ^ bits_of w + x / 2 ^ (bits_of w - k % bits_of w)) is
          ∙ ap (λ (k : ℕ). (x * 2 ^ k) % 2 ^ bits_of w + x / 2 ^ (bits_of w - k)) (no_bits w) ∙ rotated_none (bits_of w) x h,
    )
right_zero Rotr w n x e h =
    let is : n ≡ 0 = cc in (
      refl,
      ap (λ (k : ℕ). (x * 2 ^ (bits_of w - k % bits_of w)) % 2 ^ bits_of w + x / 2 ^ (bits_of w - (bits_of w - k % bits_of w))) is
          ∙ ap (λ (k : ℕ). (x * 2 ^ (bits_of w - k)) % 2 ^ bits_of w + x / 2 ^ (bits_of w - (bits_of w - k))) (no_bits w)
          ∙ ap (λ (k : ℕ). (x * 2 ^ k) % 2 ^ bits_of w + x / 2 ^ (bits_of w - k)) (less_none (bits_of w))
          ∙ rotated_all (bits_of w) x h,
    )
right_zero _ w n x e h = let wrong : ⊥ = cc in absurd wrong

pub left_one : (operation : Binary) (w : Width) (n y : ℕ) → one_on_left operation (bits_of w) ≡ Some n → y < 2 ^ bits_of w
    → (compares operation ≡ false) × (total_value operation (bits_of w) n y ≡ y)
left_one Mul w n y e h = let is : n ≡ 1 = cc in (refl, ap (λ (k : ℕ). (k * y) % 2 ^ bits_of w) is ∙ plus_zero (bits_of w) y (1 * y) (one_times y) h)
left_one And w n y e h = let is : n ≡ minus_one (bits_of w) = cc in (refl, ap (λ (k : ℕ). bit_and k y) is ∙ ones_all (bits_of w) y h)
left_one _ w n y e h = let wrong : ⊥ = cc in absurd wrong

pub right_one : (operation : Binary) (w : Width) (n x : ℕ) → one_on_right operation (bits_of w) ≡ Some n → x < 2 ^ bits_of w
    → (compares operation ≡ false) × (total_value operation (bits_of w) x n ≡ x)
right_one Mul w n x e h = let is : n ≡ 1 = cc in (refl, ap (λ (k : ℕ). (x * k) % 2 ^ bits_of w) is ∙ plus_zero (bits_of w) x (x * 1) (times_one x) h)
right_one And w n x e h = let is : n ≡ minus_one (bits_of w) = cc in (refl, ap (λ (k : ℕ). bit_and x k) is ∙ all_ones (bits_of w) x h)
right_one DivS w n x e h =
    let is : n ≡ 1 = cc in (
      refl,
      ap (λ (k : ℕ). total_value DivS (bits_of w) x k) is
          ∙ ap (λ (z : ℤ). unsigned (bits_of w) (int_div (signed (bits_of w) x) z)) (signed_one w)
          ∙ ap (unsigned (bits_of w)) (div_one (signed (bits_of w) x)) ∙ unsigned-signed (bits_of w) x h,
    )
right_one DivU w n x e h = let is : n ≡ 1 = cc in (refl, ap (λ (k : ℕ). total_value DivU (bits_of w) x k) is ∙ by_one x)
right_one _ w n x e h = let wrong : ⊥ = cc in absurd wrong

-- ---- the number that clears the other side

pub left_clears : (operation : Binary) (w : Width) (n y : ℕ) → clearing_left operation ≡ Some n → total_value operation (bits_of w) n y ≡ 0
left_clears Mul w n y e =
    let is : n ≡ 0 = cc in
    let no : 0 * y ≡ 0 = omega arith in
    ap (λ (k : ℕ). (k * y) % 2 ^ bits_of w) is ∙ ap (λ (k : ℕ). k % 2 ^ bits_of w) no ∙ none (bits_of w)
left_clears And w n y e = let is : n ≡ 0 = cc in ap (λ (k : ℕ). bit_and k y) is ∙ and_zero_l y
left_clears _ w n y e = let wrong : ⊥ = cc in absurd wrong

pub right_clears : (operation : Binary) (w : Width) (n x : ℕ) → clearing_right operation ≡ Some n → total_value operation (bits_of w) x n ≡ 0
right_clears Mul w n x e =
    let is : n ≡ 0 = cc in
    let no : x * 0 ≡ 0 = omega arith in
    ap (λ (k : ℕ). (x * k) % 2 ^ bits_of w) is ∙ ap (λ (k : ℕ). k % 2 ^ bits_of w) no ∙ none (bits_of w)
right_clears And w n x e = let is : n ≡ 0 = cc in ap (λ (k : ℕ). bit_and x k) is ∙ and_zero_r x
right_clears RemS w n x e =
    let is : n ≡ 1 = cc in
    ap (λ (k : ℕ). total_value RemS (bits_of w) x k) is
    ∙ ap (λ (z : ℤ). unsigned (bits_of w) (int_rem (signed (bits_of w) x) z)) (signed_one w)
    ∙ ap (unsigned (bits_of w)) (rem_one (signed (bits_of w) x)) ∙ none (bits_of w)
right_clears RemU w n x e = let is : n ≡ 1 = cc in ap (λ (k : ℕ). total_value RemU (bits_of w) x k) is ∙ beyond_one x
right_clears _ w n x e = let wrong : ⊥ = cc in absurd wrong

-- ---- one operand twice

pub and_itself : (N x : ℕ) → total_value And N x x ≡ x
and_itself N x = and_self x

pub or_itself : (N x : ℕ) → total_value Or N x x ≡ x
or_itself N x = or_self x

pub xor_itself : (N x : ℕ) → total_value Xor N x x ≡ 0
xor_itself N x = xor_self x

pub sub_itself : (N x : ℕ) → total_value Sub N x x ≡ 0
sub_itself N x = less_itself N x

pub ne_itself : (N x : ℕ) → total_value Ne N x x ≡ 0
ne_itself N x = ap (λ b. truth (not b)) (is_itself x)

pub eq_itself : (N x : ℕ) → total_value Eq N x x ≡ 1
eq_itself N x = ap truth (is_itself x)

pub lt_s-itself : (N x : ℕ) → total_value LtS N x x ≡ 0
lt_s-itself N x = ap truth (lt_itself (signed N x))

pub lt_u-itself : (N x : ℕ) → total_value LtU N x x ≡ 0
lt_u-itself N x = ap truth (below_itself x)

pub le_s-itself : (N x : ℕ) → total_value LeS N x x ≡ 1
le_s-itself N x = ap truth (le_itself (signed N x))

pub le_u-itself : (N x : ℕ) → total_value LeU N x x ≡ 1
le_u-itself N x = ap truth (within_itself x)
