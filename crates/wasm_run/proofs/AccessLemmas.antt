-- How many bytes loads and stores take.
use Rattle.std.proofs.Common.{◌≡◌, ℕ, zero, suc, ◌+◌, ◌≤◌, ◌<◌, Option, Some, None, IsSome, length, refl, ap, ◌∙◌, arith}
use Rattle.std.proofs.lemmas.List.{length_push}
use Rattle.int_ops.specs.Bytes.{byte_of}
use Rattle.wasm_rules.specs.declared.accesses.Access.{Access}
use Rattle.wasm_rules.specs.Words.{numbers}
use Rattle.wasm_rules.specs.Accesses.{load_of, store_of, load_bytes, store_bytes, lowest_bytes, stored}
use Rattle.wasm_rules.proofs.AccessLemmas.{load_row, load_bytes-is, store_row, store_bytes-is}
use Rattle.wasm_rules.proofs.StoredLemmas.{count_small, count_some}

module _ (op : ℕ) where
  load_size : (o : Option Access) → o ≡ load_of op → IsSome o → (0 < load_bytes op) × (load_bytes op ≤ 8)
  load_size None is some = absurd cc
  load_size (Some access) is some = (
    rw (load_bytes-is op access is) (count_some access.wide access.bytes (load_row op access is).count),
    rw (load_bytes-is op access is) (count_small access.wide access.bytes (load_row op access is).count),
  )

  pub load_least : IsSome (load_of op) → 0 < load_bytes op
  load_least some = (load_size (load_of op) refl some).0

  pub load_most : IsSome (load_of op) → load_bytes op ≤ 8
  load_most some = (load_size (load_of op) refl some).1

  store_size : (o : Option Access) → o ≡ store_of op → IsSome o → (0 < store_bytes op) × (store_bytes op ≤ 8)
  store_size None is some = absurd cc
  store_size (Some access) is some = (
    rw (store_bytes-is op access is) (count_some access.wide access.bytes (store_row op access is).count),
    rw (store_bytes-is op access is) (count_small access.wide access.bytes (store_row op access is).count),
  )

  pub store_least : IsSome (store_of op) → 0 < store_bytes op
  store_least some = (store_size (store_of op) refl some).0

  pub store_most : IsSome (store_of op) → store_bytes op ≤ 8
  store_most some = (store_size (store_of op) refl some).1

lowest-long : (n x : ℕ) → length (lowest_bytes numbers n x) ≡ n
lowest-long zero x = refl
lowest-long (suc n) x = length_push (lowest_bytes numbers n x) (byte_of x n) ∙ ap (λ k. k + 1) (lowest-long n x) ∙ omega arith

pub stored_long : (op w : ℕ) → length (stored numbers op w) ≡ store_bytes op
stored_long op w = lowest-long (store_bytes op) w
