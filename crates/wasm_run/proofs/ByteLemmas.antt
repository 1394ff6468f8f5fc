-- Numbers as bytes of a memory.
use Rattle.std.proofs.Common.{◌≡◌, ℕ, zero, suc, ◌+◌, ◌*◌, ◌/◌, ◌%◌, ◌^◌, ◌≤◌, ◌<◌, List, [], ◌∷◌, ◌++◌, length, take, refl, sym, ap, ap₂, ◌∙◌, arith, All}
use Rattle.std.proofs.lemmas.List.Elements.{All-push, All-nil}
use Rattle.std.specs.Int.{bytes_low_first}
use Rattle.int_ops.specs.Bytes.{joined, byte_of}
use Rattle.byteorder.specs.Endian.{little_number}
use Rattle.byteorder.specs.Numbers.{little_from-cons}
use Rattle.wasm_rules.specs.Words.{numbers}
use Rattle.wasm_rules.specs.Accesses.{lowest_bytes}

-- the number that the first n bytes are
pub joined_front : (n : ℕ) (xs : List ℕ) → n ≤ length xs → joined (take n xs) ≡ little_number n xs
joined_front zero xs within = refl
joined_front (suc n) [] within = absurd (omega (arith, within))
joined_front (suc n) (x ∷ xs) within = ap (λ k. x + 256 * k) (joined_front n xs (omega (arith, within)) ∙ sym (little_from-cons 0 n x xs))

-- ---- the lowest n bytes of a number, where the number is cut to n bytes

pub low_bytes1 : (x : ℕ) → x % 256 ∷ [] ≡ lowest_bytes numbers 1 x
low_bytes1 x = ap (λ k. k ∷ []) (omega arith)

pub low_bytes2 : (x : ℕ) → bytes_low_first 0 2 (x % 65536) ≡ lowest_bytes numbers 2 x
low_bytes2 x = ap₂ (λ a b. a ∷ b ∷ []) (omega arith) (omega arith)

pub low_bytes4 : (x : ℕ) → bytes_low_first 0 4 (x % 4294967296) ≡ lowest_bytes numbers 4 x
low_bytes4 x =
    ap₂ (λ (f : List ℕ) (g : List ℕ). f ++ g)
    (ap₂ (λ a b. a ∷ b ∷ []) (omega arith) (omega arith))
    (ap₂ (λ a b. a ∷ b ∷ []) (omega arith) (omega arith))

pub low_bytes8 : (x : ℕ) → bytes_low_first 0 8 x ≡ lowest_bytes numbers 8 x
low_bytes8 x = ap (λ a. a ∷ (x / 256 % 256) ∷ (x / 256 ^ 2 % 256) ∷ (x / 256 ^ 3 % 256) ∷ (x / 256 ^ 4 % 256) ∷ (x / 256 ^ 5 % 256) ∷ (x / 256 ^ 6 % 256) ∷ (x / 256 ^ 7 % 256) ∷ []) (omega arith)

-- each of them is a word
pub lowest_bytes-held : (n x : ℕ) → All (λ b. b < 2 ^ 64) (lowest_bytes numbers n x)
lowest_bytes-held zero x = All-nil (λ b. b < 2 ^ 64)
lowest_bytes-held (suc n) x = All-push (λ b. b < 2 ^ 64) (lowest_bytes numbers n x) (byte_of x n) (lowest_bytes-held n x) (omega (arith, mod-lt-self (x / 256 ^ n)))
  where
    mod-lt-self : (k : ℕ) → k % 256 < 256
    mod-lt-self k = omega arith
