-- Integers as bytes.
use Rattle.std.proofs.Common.{◌≡◌, ℕ, zero, suc, ◌+◌, ◌-◌, ◌*◌, ◌/◌, ◌%◌, ◌^◌, ◌<◌, ◌≤◌, List, [], ◌∷◌, length, get_or, drop, All, bit_and, bit_or, refl, sym, ap, ◌∙◌, arith, mod-eq_of_lt, drop-cons, lt_of_lt_of_le, subst, ap₂, add_comm, ◌++◌, length-append}
use Rattle.std.proofs.lemmas.Nat.{and_mask, or_shifted, pow-add, mod-pow-add}
use Rattle.std.proofs.lemmas.List.{length-drop}
use Rattle.std.proofs.lemmas.List.Elements.{All-drop, All-get_or, All-head, All-tail}
use Rattle.std.proofs.Math.Nat.{pow-suc, pow-le-pow_right, mul-suc, mod-one}
use Rattle.int_ops.specs.Bytes.{byte_of, joined, bytes_of}

-- i bytes are 8 * i bits
pub bits_of_bytes : (i : ℕ) → 2 ^ (8 * i) ≡ 256 ^ i
bits_of_bytes zero = refl
bits_of_bytes (suc i) =
    ap (λ (n : ℕ). 2 ^ n) (mul-suc 8 i) ∙ pow-add 2 (8 * i) 8 ∙ ap (λ (n : ℕ). n * 256) (bits_of_bytes i) ∙ sym (pow-suc 256 i)

pub byte_is : (x i : ℕ) → bit_and (x / 2 ^ (8 * i)) 255 ≡ byte_of x i
byte_is x i = and_mask (x / 2 ^ (8 * i)) 8 ∙ ap (λ (n : ℕ). x / n % 256) (bits_of_bytes i)

pub joined-below : (bytes : List ℕ) → All (λ b. b < 256) bytes → joined bytes < 256 ^ length bytes
joined-below [] h = omega arith
joined-below (byte ∷ rest) h =
    let small = All-head (λ (b : ℕ). b < 256) byte rest h in
    let below = joined-below rest (All-tail (λ (b : ℕ). b < 256) byte rest h) in
    rw pow-suc (omega (arith, small, below))

-- a byte below those so far
with_byte : (whole byte : ℕ) → whole < 256 ^ 7 → byte < 256 → bit_or (whole * 256 % 2 ^ 64) byte ≡ byte + 256 * whole
with_byte whole byte few small =
    let fits : whole * 256 < 2 ^ 64 = omega arith in
    ap (λ (n : ℕ). bit_or n byte) (mod-eq_of_lt fits) ∙ or_shifted whole 8 byte small ∙ omega arith

pub one_more : (bytes : List ℕ) (place whole : ℕ) → zero < place → place ≤ length bytes → length bytes ≤ 8
    → All (λ b. b < 256) bytes → whole ≡ joined (drop place bytes)
    → bit_or (whole * 256 % 2 ^ 64) (get_or bytes (place - 1) 0) ≡ joined (drop (place - 1) bytes)
one_more bytes place whole some within few each is =
    let here : place - 1 < length bytes = omega arith in
    let next : suc (place - 1) ≡ place = omega arith in
    let left : length (drop place bytes) ≤ 7 = omega (arith, length-drop place bytes) in
    let small : whole < 256 ^ 7 = subst (λ (n : ℕ). n < 256 ^ 7) (sym is)
    (lt_of_lt_of_le (joined-below (drop place bytes) (All-drop (λ (b : ℕ). b < 256) place bytes each)) (pow-le-pow_right {n = 256} (omega arith) left)) in
    with_byte whole (get_or bytes (place - 1) 0) small (All-get_or (λ (b : ℕ). b < 256) bytes (place - 1) 0 here each)
    ∙ ap (λ (n : ℕ). get_or bytes (place - 1) 0 + 256 * n) (is ∙ ap (λ (n : ℕ). joined (drop n bytes)) (sym next))
    ∙ ap joined (sym (drop-cons bytes (place - 1) 0 here))

-- ---- the bytes of a number

pub joined-append : (bytes : List ℕ) (byte : ℕ) → joined (bytes ++ byte ∷ []) ≡ joined bytes + byte * 256 ^ length bytes
joined-append [] byte = omega arith
joined-append (first ∷ rest) byte =
    let more = joined-append rest byte in
    let grown = pow-suc 256 (length rest) in
    rw (more, pow-suc) (omega arith)

pub length-bytes_of : (n x : ℕ) → length (bytes_of n x) ≡ n
length-bytes_of zero x = refl
length-bytes_of (suc n) x = length-append (bytes_of n x) (byte_of x n ∷ []) ∙ ap (λ (k : ℕ). k + 1) (length-bytes_of n x) ∙ omega arith

-- the lowest n + 1 bytes are the lowest n, and byte n above them
mod-bytes : (n x : ℕ) → x % 256 ^ suc n ≡ x % 256 ^ n + byte_of x n * 256 ^ n
mod-bytes n x =
    ap (λ (k : ℕ). x % k) (sym (bits_of_bytes (suc n)) ∙ ap (λ (k : ℕ). 2 ^ k) (mul-suc 8 n ∙ add_comm (8 * n) 8))
    ∙ mod-pow-add x 8 (8 * n)
    ∙ ap (λ (k : ℕ). (x / k % 256) * k + x % k) (bits_of_bytes n)
    ∙ add_comm ((x / 256 ^ n % 256) * 256 ^ n) (x % 256 ^ n)

pub joined-bytes_of : (n x : ℕ) → joined (bytes_of n x) ≡ x % 256 ^ n
joined-bytes_of zero x = sym (mod-one x)
joined-bytes_of (suc n) x =
    joined-append (bytes_of n x) (byte_of x n)
    ∙ ap₂ (λ (low k : ℕ). low + byte_of x n * 256 ^ k) (joined-bytes_of n x) (length-bytes_of n x)
    ∙ sym (mod-bytes n x)
