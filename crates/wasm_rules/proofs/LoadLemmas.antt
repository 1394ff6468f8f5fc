-- Loading what was stored.
use Rattle.std.proofs.Common.{◌≡◌, ℕ, zero, suc, ◌%◌, ◌^◌, ◌∷◌, [], ◌++◌, Option, None, refl, ap, ◌∙◌, mod-eq_of_lt, ◌<◌}
use Rattle.int_ops.specs.Bytes.{byte_of, joined, bytes_of}
use Rattle.int_ops.proofs.BytesLemmas.{joined-bytes_of}
use Rattle.wasm_rules.specs.declared.accesses.Access.{Access}
use Rattle.wasm_rules.specs.Words.{numbers}
use Rattle.wasm_rules.specs.Accesses.{load_of, store_of, accessed, extended, lowest_bytes, loaded, stored}

lowest_bytes-numbers : (n x : ℕ) → lowest_bytes numbers n x ≡ bytes_of n x
lowest_bytes-numbers zero x = refl
lowest_bytes-numbers (suc n) x = ap (λ bytes. bytes ++ byte_of x n ∷ []) (lowest_bytes-numbers n x)

pub joined-lowest_bytes : (n x : ℕ) → joined (lowest_bytes numbers n x) ≡ x % 256 ^ n
joined-lowest_bytes n x = ap joined (lowest_bytes-numbers n x) ∙ joined-bytes_of n x

pub loaded-part : (access : Access) (x : ℕ) → access.extend ≡ None → accessed numbers access (lowest_bytes numbers access.bytes x) ≡ x % 256 ^ access.bytes
loaded-part access x is =
    ap (λ (extend : Option ℕ). extended numbers extend (joined (lowest_bytes numbers access.bytes x))) is
    ∙ joined-lowest_bytes access.bytes x

pub loaded-i32 : (x : ℕ) → x < 2 ^ 32 → loaded numbers 0x28 (stored numbers 0x36 x) ≡ x
unfolding load_of store_of
loaded-i32 x below = joined-lowest_bytes 4 x ∙ mod-eq_of_lt below

pub loaded-i64 : (x : ℕ) → x < 2 ^ 64 → loaded numbers 0x29 (stored numbers 0x37 x) ≡ x
unfolding load_of store_of
loaded-i64 x below = joined-lowest_bytes 8 x ∙ mod-eq_of_lt below
