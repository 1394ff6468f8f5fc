-- What is written for numbers, vectors, names and types is a spelling of them.
use Rattle.std.proofs.Common.{◌≡◌, ℕ, suc, ◌+◌, ◌<◌, ◌≤◌, inl, inr, pos, Bool, true, false, List, [], ◌∷◌, ◌++◌, length, Option, Some, None, Ok, All, refl, sym, append-nil, arith}
use Rattle.std.specs.Prelude.{◌&&◌, IfSome, IsUtf8}
use Rattle.std.specs.List.{flat_map, AllByRecursion as ByRecursion}
use Rattle.std.proofs.lemmas.Str.{is_utf8-from_IsUtf8}
use Rattle.std.proofs.lemmas.Bool.{cases_lt}
use Rattle.std.proofs.lemmas.Bool.Decides.{nat_tests}
use Rattle.std.proofs.lemmas.Int.{ints}
use Rattle.owi_base.specs.Leb.{unsigned_bytes, signed_bytes, low_bits, high_part}
use Rattle.grammar_forms.specs.Forms.{any_byte, many}
use Rattle.owi_base.proofs.DigitLaws.{unsigned_spells, signed_spells, signed_bytes_one, signed_bytes_more}
use Rattle.wasm_ast.specs.Opcodes.{is_from}
use Rattle.wasm_ast.specs.Shape.{IsShort, IsReference, FuncTypeHasShape}
use Rattle.wasm_ast.specs.declared.types.ValType.{ValType}
use Rattle.wasm_ast.specs.declared.types.ValType.TheVariants.{I32, I64, FuncRef, ExternRef}
use Rattle.wasm_ast.specs.declared.types.FuncType.{FuncType}
use Rattle.wasm_ast.specs.declared.types.Limits.{Limits}
use Rattle.wasm_ast.specs.declared.types.TableType.{TableType}
use Rattle.wasm_ast.specs.declared.types.GlobalType.{GlobalType}
use Rattle.wasm_ast.specs.declared.types.BlockType.{BlockType}
use Rattle.wasm_ast.specs.declared.types.BlockType.TheVariants.{Empty, One, Index}
use Rattle.wasm_binary.specs.Faults.{Fault}
use Rattle.wasm_binary.specs.Values.{Grammar, u32, s33, vec, name, text_of}
use Rattle.wasm_binary.specs.Types.{ref_type, val_type, func_type, limits, table_type, global_type, block_type}
use Rattle.wasm_write.specs.Values.{vec_bytes, sized}
use Rattle.wasm_write.specs.Types.{type_byte, val_type_bytes, func_type_bytes, sizes_bytes, limits_bytes, table_type_bytes, global_type_bytes, block_type_bytes}
use Rattle.wasm_ast.specs.Ranges.{IsU32, LimitsInRange, BlockTypeInRange}

-- ---- lists

-- what holds of each entry, entry by entry
pub by_recursion : {X : Type 0} (P : X → Type 0) (xs : List X) → All P xs → ByRecursion P xs
by_recursion P [] h = tt
by_recursion P (x ∷ xs) h = (h 0 x (omega arith), by_recursion P xs (λ k d lt. h (suc k) d (omega arith)))

-- what holds of each entry and follows from two facts of each
pub each_of : {X : Type 0} (P Q R : X → Type 0) (xs : List X) → ((x : X) → P x → Q x → R x) → All P xs → All Q xs → ByRecursion R xs
each_of P Q R [] f p q = tt
each_of P Q R (x ∷ xs) f p q =
    (f x (p 0 x (omega arith)) (q 0 x (omega arith)), each_of P Q R xs f (λ k d lt. p (suc k) d (omega arith)) (λ k d lt. q (suc k) d (omega arith)))

pub both_true : (x y : Bool) → (x && y) ≡ true → (x ≡ true) × (y ≡ true)
both_true true true h = (refl, refl)
both_true true false h = absurd cc
both_true false y h = absurd cc

-- ---- numbers

pub u32_spelled : (n : ℕ) → IsU32 n → u32.Spells n (unsigned_bytes n)
u32_spelled n lt = unsigned_spells n 32 (omega arith) lt

-- ---- vectors

pub many_spelled : {A : Type 0} (f : Grammar A) (entry_bytes : A → List ℕ) (xs : List A) → ByRecursion (λ x. f.Spells x (entry_bytes x)) xs → (many f (length xs)).Spells xs (flat_map entry_bytes xs)
many_spelled f b [] h = (refl, refl)
many_spelled f b (x ∷ xs) h =
    (x, b x, flat_map b xs, refl, h.0, (xs, flat_map b xs, [], sym (append-nil (flat_map b xs)), many_spelled f b xs h.1, (refl, refl)))

pub vec_spelled : {A : Type 0} (f : Grammar A) (entry_bytes : A → List ℕ) (xs : List A) → IsShort xs → ByRecursion (λ x. f.Spells x (entry_bytes x)) xs → (vec f).Spells xs (vec_bytes entry_bytes xs)
vec_spelled f b xs short h = (length xs, unsigned_bytes (length xs), flat_map b xs, refl, u32_spelled (length xs) short, many_spelled f b xs h)

pub bytes_spelled : (bytes : List ℕ) → (many {E = Fault} any_byte (length bytes)).Spells bytes bytes
bytes_spelled [] = (refl, refl)
bytes_spelled (b ∷ bytes) = (b, b ∷ [], bytes, refl, refl, (bytes, bytes, [], sym (append-nil bytes), bytes_spelled bytes, (refl, refl)))

pub sized_spelled : (bytes : List ℕ) → IsShort bytes → (vec any_byte).Spells bytes (sized bytes)
sized_spelled bytes short = (length bytes, unsigned_bytes (length bytes), bytes, refl, u32_spelled (length bytes) short, bytes_spelled bytes)

pub name_spelled : (text : List ℕ) → IsShort text → IsUtf8 text → name.Spells text (sized text)
name_spelled text short is_text =
    let passes : text_of text ≡ Ok text = rw (is_utf8-from_IsUtf8 text is_text) refl in
    (length text, unsigned_bytes (length text), text, refl, u32_spelled (length text) short, (text, bytes_spelled text, passes))

-- ---- types

pub val_type_spelled : (kind : ValType) → val_type.Spells kind (val_type_bytes kind)
val_type_spelled I32 = (0x7F, refl, refl)
val_type_spelled I64 = (0x7E, refl, refl)
val_type_spelled FuncRef = (0x70, refl, refl)
val_type_spelled ExternRef = (0x6F, refl, refl)

pub ref_type_spelled : (kind : ValType) → IsReference kind → ref_type.Spells kind (val_type_bytes kind)
ref_type_spelled FuncRef h = (0x70, refl, refl)
ref_type_spelled ExternRef h = (0x6F, refl, refl)
ref_type_spelled I32 h = elim h [ inl e ↦ absurd cc | inr e ↦ absurd cc ]
ref_type_spelled I64 h = elim h [ inl e ↦ absurd cc | inr e ↦ absurd cc ]

val_types_spelled : (kinds : List ValType) → ByRecursion (λ kind. val_type.Spells kind (val_type_bytes kind)) kinds
val_types_spelled [] = tt
val_types_spelled (kind ∷ kinds) = (val_type_spelled kind, val_types_spelled kinds)

pub kinds_spelled : (kinds : List ValType) → IsShort kinds → (vec val_type).Spells kinds (vec_bytes val_type_bytes kinds)
kinds_spelled kinds short = vec_spelled val_type val_type_bytes kinds short (val_types_spelled kinds)

pub func_type_spelled : (ty : FuncType) → FuncTypeHasShape ty → func_type.Spells ty (func_type_bytes ty)
func_type_spelled ty h =
    let params = vec_bytes val_type_bytes ty.params in
    let results = vec_bytes val_type_bytes ty.results in (
      0x60,
      0x60 ∷ [],
      params ++ results,
      refl,
      (0x60, refl, refl),
      (
        ty.params,
        params,
        results,
        refl,
        kinds_spelled ty.params h.params,
        (ty.results, results, [], sym (append-nil results), kinds_spelled ty.results h.results, (refl, refl)),
      ),
    )

sizes_spelled : (min : ℕ) (max : Option ℕ) → IsU32 min → IfSome max IsU32 → limits.Spells (record { min = min; max = max }) (sizes_bytes min max)
sizes_spelled min None lt h =
    (0, 0 ∷ [], unsigned_bytes min, refl, (0, refl, refl), (min, unsigned_bytes min, [], sym (append-nil (unsigned_bytes min)), u32_spelled min lt, (None, [], [], refl, (refl, refl), (refl, refl))))
sizes_spelled min (Some max) lt h =
    let greatest = unsigned_bytes max in (
      1,
      1 ∷ [],
      unsigned_bytes min ++ greatest,
      refl,
      (1, refl, refl),
      (
        min,
        unsigned_bytes min,
        greatest,
        refl,
        u32_spelled min lt,
        (Some max, greatest, [], sym (append-nil greatest), (max, greatest, [], sym (append-nil greatest), u32_spelled max h, (refl, refl)), (refl, refl)),
      ),
    )

pub limits_spelled : (size : Limits) → LimitsInRange size → limits.Spells size (limits_bytes size)
limits_spelled size h = sizes_spelled size.min size.max h.min h.max

pub table_type_spelled : (ty : TableType) → IsReference ty.kind → LimitsInRange ty.limits → table_type.Spells ty (table_type_bytes ty)
table_type_spelled ty kind h = (
  ty.kind,
  type_byte ty.kind ∷ [],
  limits_bytes ty.limits,
  refl,
  ref_type_spelled ty.kind kind,
  (ty.limits, limits_bytes ty.limits, [], sym (append-nil (limits_bytes ty.limits)), limits_spelled ty.limits h, (refl, refl)),
)

global_spelled : (kind : ValType) (mutable : Bool) → global_type.Spells (record { kind = kind; mutable = mutable }) (global_type_bytes (record { kind = kind; mutable = mutable }))
global_spelled kind true = (kind, type_byte kind ∷ [], 1 ∷ [], refl, val_type_spelled kind, (1, 1 ∷ [], [], refl, (1, refl, refl), (refl, refl)))
global_spelled kind false = (kind, type_byte kind ∷ [], 0 ∷ [], refl, val_type_spelled kind, (0, 0 ∷ [], [], refl, (0, refl, refl), (refl, refl)))

pub global_type_spelled : (ty : GlobalType) → global_type.Spells ty (global_type_bytes ty)
global_type_spelled ty = global_spelled ty.kind ty.mutable

-- ---- block types

-- the first byte of the spelling of a number that isn't negative is none of 40 to 7F
pub record IsIndex (text : List ℕ) : Type 0 where
  pub first : ℕ
  pub rest : List ℕ
  pub is : text ≡ first ∷ rest
  pub apart : is_from 0x40 0x7F first ≡ false

apart_low : (b : ℕ) → b < 0x40 → is_from 0x40 0x7F b ≡ false
apart_low b lt = grind (arith, nat_tests)

apart_high : (b : ℕ) → 0x80 ≤ b → is_from 0x40 0x7F b ≡ false
apart_high b le = grind (arith, nat_tests)

index_bytes : (n : ℕ) → IsU32 n → IsIndex (signed_bytes (pos n))
index_bytes n lt =
    elim (cases_lt n 64) [
      | inl small ↦ record { first = low_bits (pos n); rest = []; is = signed_bytes_one (pos n) small; apart = apart_low (low_bits (pos n)) (omega arith) }
      | inr big ↦ record { first = low_bits (pos n) + 128; rest = signed_bytes (high_part (pos n)); is = signed_bytes_more (pos n) (omega arith) big; apart = apart_high (low_bits (pos n) + 128) (omega arith) }
    ]

s33_spelled : (n : ℕ) → IsU32 n → s33.Spells (pos n) (signed_bytes (pos n))
s33_spelled n lt = signed_spells (pos n) 33 (omega arith) (omega (arith, ints), omega (arith, ints))

index_spelled : (n : ℕ) (text : List ℕ) → IsIndex text → s33.Spells (pos n) text → block_type.Spells (Index n) text
index_spelled n text h s = (h.first, h.rest, h.is, rw h.apart (pos n, s, refl))

pub block_type_spelled : (ty : BlockType) → BlockTypeInRange ty → block_type.Spells ty (block_type_bytes ty)
block_type_spelled Empty h = (0x40, [], refl, (0x40, refl, refl))
block_type_spelled (One I32) h = (0x7F, [], refl, (0x7F, refl, refl))
block_type_spelled (One I64) h = (0x7E, [], refl, (0x7E, refl, refl))
block_type_spelled (One FuncRef) h = (0x70, [], refl, (0x70, refl, refl))
block_type_spelled (One ExternRef) h = (0x6F, [], refl, (0x6F, refl, refl))
block_type_spelled (Index n) lt = index_spelled n (signed_bytes (pos n)) (index_bytes n lt) (s33_spelled n lt)
