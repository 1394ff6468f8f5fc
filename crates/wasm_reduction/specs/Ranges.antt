-- The questions of accesses to tables and memories, and of their growth.
use Rattle.std.specs.Prelude.{ℕ, ◌+◌, Bool, true, false, nat_le, min, List, ◌∷◌, length, slice_get, Option, Some, None}
use Rattle.wasm_ast.specs.declared.runs.Cause.{Cause}
use Rattle.int_ops.specs.Integers.{minus_one}
use Rattle.wasm_rules.specs.Words.{Kind}
use Rattle.wasm_reduction.specs.Configurations.{Value, I32, Config, Traps, Next, Goes, Ends}
use Rattle.wasm_reduction.specs.Combinators.{holding, with_word, trapping_if, picking, within}

-- ---- one element, or the bytes of one word

abbrev pub with_element : {W A : Type 0} → Cause → Option A → (A → Next W) → Next W
with_element cause None go = Ends (Traps cause)
with_element cause (Some x) go = go x

-- The element of a list at an index, with its number: i32.ge_u of the index and the size is tested, and the index picked.
abbrev pub indexing : {W A : Type 0} → Kind W → Cause → W → List A → List ℕ → (ℕ → A → List ℕ → Next W) → Next W
indexing K cause index elements ns go =
    trapping_if (K.binary 0x4F index (K.number (length elements))) cause ns (λ ns. picking index ns (λ i ns.
    with_element cause (slice_get elements i) (λ x. go i x ns)))

-- whether a range ends past the size: i64.gt_u of i64.add of i64.extend_i32_u of its place and its extent, and the size
abbrev pub ends_past : {W : Type 0} → Kind W → W → W → ℕ → W
ends_past K place extent size = K.binary 0x56 (K.binary 0x7C (K.unary 0xAD place) extent) (K.number size)

-- The address of an access whose bytes end this far from it.
abbrev pub addressing : {W : Type 0} → Kind W → Cause → W → ℕ → ℕ → List ℕ → (ℕ → Next W) → Next W
addressing K cause address extent size ns go =
    trapping_if (ends_past K address (K.number extent) size) cause ns (λ ns. picking address ns (λ at ns.
    within (at + extent) size cause (go at)))

-- ---- ranges whose count is an operand

abbrev pub range_ends_past : {W : Type 0} → Kind W → W → W → ℕ → W
range_ends_past K place count size = ends_past K place (K.unary 0xAD count) size

-- Where to fill, and how much.
abbrev pub filling : {W : Type 0} → Kind W → Cause → W → W → ℕ → List ℕ → (ℕ → ℕ → Next W) → Next W
filling K cause to count size ns go =
    trapping_if (range_ends_past K to count size) cause ns (λ ns. picking to ns (λ t ns. picking count ns (λ n ns.
    within (t + n) size cause (go t n))))

-- Where to copy to, where from, and how much. What is tested is i32.or of the source's comparison and the target's.
abbrev pub copying : {W : Type 0} → Kind W → Cause → W → W → W → ℕ → ℕ → List ℕ → (ℕ → ℕ → ℕ → Next W) → Next W
copying K cause to from count target_size source_size ns go =
    trapping_if (K.binary 0x72 (range_ends_past K from count source_size) (range_ends_past K to count target_size)) cause ns
    (λ ns. picking to ns (λ t ns. picking from ns (λ f ns. picking count ns (λ n ns.
    within (f + n) source_size cause (within (t + n) target_size cause (go t f n))))))

-- the three operands of a copy: to, from and count
abbrev pub with_copy : {W : Type 0} → List (Value W) → (W → W → W → List (Value W) → Next W) → Next W
with_copy vs go =
    with_word false vs (λ count rest. with_word false rest (λ from rest. with_word false rest (λ to rest. go to from count rest)))

-- ---- growth

-- the size up to which something may grow: a maximum that is given counts as far as it is below the general one
abbrev pub growth_limit : Option ℕ → ℕ → ℕ
growth_limit None most = most
growth_limit (Some maximum) most = min maximum most

abbrev pub grown : {W : Type 0} → Kind W → Config W → List (Value W) → ℕ → ℕ → Bool → (ℕ → Config W) → Next W
grown K c rest size n true go = Goes (holding (go n) (I32 (K.number size) ∷ rest))
grown K c rest size n false go = Goes (holding c (I32 (K.number (minus_one 32)) ∷ rest))

-- The count is picked. Where the size and the count come to no more than the most, it grows and the old size is the answer;
-- else nothing changes and the answer is -1.
abbrev pub growing : {W : Type 0} → Kind W → Config W → List (Value W) → W → ℕ → ℕ → List ℕ → (ℕ → Config W) → Next W
growing K c rest count size most ns go =
    picking count ns (λ n ns. grown K c rest size n (nat_le (size + n) most) go)
