-- The tables of loads and stores.
use Rattle.std.proofs.Common.{◌≡◌, ℕ, Bool, true, false, ◌==◌, IsTrue, IfSome, List, [], ◌∷◌, Option, Some, None, refl, sym, ap, subst, inl, inr, if◌then◌else◌, ◌≤◌, arith}
use Rattle.std.specs.List.{AllByRecursion}
use Rattle.std.specs.Option.{option_map_or}
use Rattle.int_ops.specs.Operators.{operator_of, is_unary, operand_bits, result_bits}
use Rattle.wasm_rules.specs.declared.accesses.Access.{Access}
use Rattle.wasm_rules.specs.Words.{CanJoin, bits_where}
use Rattle.wasm_rules.proofs.StoredLemmas.{count_small}
use Rattle.wasm_rules.specs.Accesses.{find_access, loads, stores, load_of, store_of, load_bytes, load_bits, store_bytes, store_bits}

-- what holds in each row holds at the row that is found
find-each : (P : Access → Type 0) (op : ℕ) (rows : List (ℕ × Access)) → AllByRecursion (λ row. P row.1) rows → IfSome (find_access op rows) P
find-each P op [] h = tt
find-each P op (row ∷ rest) h = go (op == row.0) h.0 (find-each P op rest h.1)
  where
    go : (b : Bool) → P row.1 → IfSome (find_access op rest) P → IfSome (if b then Some row.1 else find_access op rest) P
    go true here later = here
    go false here later = later

-- the operator that extends a sign keeps the width
abbrev pub KeepsWidth : ℕ → Option ℕ → Type 0
KeepsWidth bits None = Unit {0}
KeepsWidth bits (Some op) = IsTrue (is_unary op) × (operand_bits op ≡ bits) × (result_bits op ≡ bits)

pub record IsRow (access : Access) : Type 0 where
  pub count : CanJoin access.wide access.bytes
  pub extends : KeepsWidth (bits_where access.wide) access.extend

loads_are : AllByRecursion (λ row. IsRow row.1) loads
unfolding operator_of
loads_are = (
  record { count = inr (inr (inl refl)); extends = tt },
  (
    record { count = inr (inr (inr (refl, refl))); extends = tt },
    (
      record { count = inl refl; extends = (refl, refl, refl) },
      (
        record { count = inl refl; extends = tt },
        (
          record { count = inr (inl refl); extends = (refl, refl, refl) },
          (
            record { count = inr (inl refl); extends = tt },
            (
              record { count = inl refl; extends = (refl, refl, refl) },
              (
                record { count = inl refl; extends = tt },
                (
                  record { count = inr (inl refl); extends = (refl, refl, refl) },
                  (
                    record { count = inr (inl refl); extends = tt },
                    (
                      record { count = inr (inr (inl refl)); extends = (refl, refl, refl) },
                      (record { count = inr (inr (inl refl)); extends = tt }, tt),
                    ),
                  ),
                ),
              ),
            ),
          ),
        ),
      ),
    ),
  ),
)

stores_are : AllByRecursion (λ row. IsRow row.1) stores
stores_are = (
  record { count = inr (inr (inl refl)); extends = tt },
  (
    record { count = inr (inr (inr (refl, refl))); extends = tt },
    (
      record { count = inl refl; extends = tt },
      (
        record { count = inr (inl refl); extends = tt },
        (
          record { count = inl refl; extends = tt },
          (
            record { count = inr (inl refl); extends = tt },
            (record { count = inr (inr (inl refl)); extends = tt }, tt),
          ),
        ),
      ),
    ),
  ),
)

module _ (op : ℕ) (access : Access) where
  pub load_row : Some access ≡ load_of op → IsRow access
  unfolding load_of
  load_row is = subst (λ (o : Option Access). IfSome o IsRow) (sym is) (find-each IsRow op loads loads_are)

  pub load_bytes-is : Some access ≡ load_of op → load_bytes op ≡ access.bytes
  load_bytes-is is = ap (λ (o : Option Access). option_map_or (λ a. a.bytes) o 0) (sym is)

  pub load_bits-is : Some access ≡ load_of op → load_bits op ≡ bits_where access.wide
  load_bits-is is = ap (λ (o : Option Access). option_map_or (λ a. bits_where a.wide) o 0) (sym is)

  pub store_row : Some access ≡ store_of op → IsRow access
  unfolding store_of
  store_row is = subst (λ (o : Option Access). IfSome o IsRow) (sym is) (find-each IsRow op stores stores_are)

  pub store_bytes-is : Some access ≡ store_of op → store_bytes op ≡ access.bytes
  store_bytes-is is = ap (λ (o : Option Access). option_map_or (λ a. a.bytes) o 0) (sym is)

  pub store_bits-is : Some access ≡ store_of op → store_bits op ≡ bits_where access.wide
  store_bits-is is = ap (λ (o : Option Access). option_map_or (λ a. bits_where a.wide) o 0) (sym is)

  pub extends_at : (extend : ℕ) → IsRow access → access.extend ≡ Some extend
      → IsTrue (is_unary extend) × (operand_bits extend ≡ bits_where access.wide) × (result_bits extend ≡ bits_where access.wide)
  extends_at extend row is = subst (KeepsWidth (bits_where access.wide)) is row.extends

-- no store writes more than eight bytes
pub store_bytes-small : (op : ℕ) → store_bytes op ≤ 8
unfolding store_of
store_bytes-small op = go (find_access op stores) (find-each IsRow op stores stores_are)
  where
    go : (found : Option Access) → IfSome found IsRow → option_map_or (λ a. a.bytes) found 0 ≤ 8
    go None row = omega arith
    go (Some access) row = count_small access.wide access.bytes row.count
