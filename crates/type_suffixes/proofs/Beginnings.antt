-- The numbers of the beginnings of a list, one after another.
use Rattle.std.proofs.Common.{◌≡◌, ℕ, ◌+◌, ◌<◌, List, [], ◌∷◌, ◌++◌, length, get_or, take, refl, sym, ap, ◌∙◌, subst, arith}
use Rattle.std.specs.Prelude.{Some, slice_get, slice_index}
use Rattle.std.proofs.lemmas.Option.{get_or_from_slice_get}
use Rattle.std.proofs.lemmas.List.{length_push, get_or_append_left, get_or_push, take-append-le, take_at, take_more}
use borrow.Author.Count.{below_more}
use Rattle.wasm_ast.specs.declared.types.ValType.{ValType}
use Rattle.type_suffixes.specs.Words.{word, Keeps, AreBeginnings}

-- the empty word begins each list
pub begun : (all : List (List ValType)) (types : List ValType) (before new : List ℕ) (k : ℕ) → new ≡ before ++ k ∷ [] → slice_get all k ≡ Some [] → AreBeginnings all types 0 before new
begun all types before new k is at = subst (AreBeginnings all types 0 before) (sym is) (record {
  kept = take_at before (k ∷ []) (length before) refl;
  count = length_push before k ∙ omega arith;
  each = λ i le. first i (omega arith);
})
  where
    first : (i : ℕ) → i ≡ 0 → slice_get all (slice_index (before ++ k ∷ []) (length before + i)) ≡ Some (take i types)
    first i zero_is =
        ap (λ (j : ℕ). slice_get all j) (get_or_push before k 0 (length before + i) (omega arith)) ∙ at ∙ ap (λ (j : ℕ). Some (take j types)) (sym zero_is)

-- what is added leads on by one more type
pub next_begins : (all new : List (List ValType)) (types : List ValType) (n from k : ℕ) (t d : ValType) → n < length types → slice_get all from ≡ Some (take n types) → t ≡ get_or types n d → slice_get new k ≡ Some (word all from ++ t ∷ []) → slice_get new k ≡ Some (take (n + 1) types)
next_begins all new types n from k t d lt at read added =
    added ∙ ap (λ (ts : List ValType). Some (ts ++ t ∷ [])) (get_or_from_slice_get all from (take n types) [] at) ∙ ap (λ (u : ValType). Some (take n types ++ u ∷ [])) read ∙ ap (λ (ts : List ValType). Some ts) (sym (take_more types n d lt))

-- one more
pub begun_more : (all new : List (List ValType)) (types : List ValType) (n from k : ℕ) (t d : ValType) (before numbers more : List ℕ) → AreBeginnings all types n before numbers → Keeps all new → n < length types → slice_get all from ≡ Some (take n types) →
    t ≡ get_or types n d → slice_get new k ≡ Some (word all from ++ t ∷ []) → more ≡ numbers ++ k ∷ [] → AreBeginnings new types (n + 1) before more
begun_more all new types n from k t d before numbers more begins keeps lt at read added is =
    let long : length numbers ≡ length before + n + 1 = begins.count in
    let next : slice_get new k ≡ Some (take (n + 1) types) = next_begins all new types n from k t d lt at read added in
    subst (AreBeginnings new types (n + 1) before) (sym is) (record {
      kept = take-append-le (length before) numbers (k ∷ []) (omega arith) ∙ begins.kept;
      count = length_push numbers k ∙ omega arith;
      each = λ i le. below_more (λ (j : ℕ). slice_get new (slice_index (numbers ++ k ∷ []) (length before + j)) ≡ Some (take j types)) (n + 1)
          (λ j below. ap (λ (m : ℕ). slice_get new m) (get_or_append_left numbers (k ∷ []) 0 (length before + j) (omega arith)) ∙ keeps _ _ (begins.each j (omega arith)))
          (ap (λ (m : ℕ). slice_get new m) (get_or_push numbers k 0 (length before + (n + 1)) (omega arith)) ∙ next)
          i (omega arith);
    })
