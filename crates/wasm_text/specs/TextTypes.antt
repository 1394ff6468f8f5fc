-- Types in tokens, and what is outside (Text Format: Types; Modules, Type Uses).
use Rattle.std.specs.Prelude.{ℕ, zero, suc, ◌+◌, Bool, true, false, not, ◌&&◌, ◌||◌, nat_le, if◌then◌else◌, List, [], ◌∷◌, ◌++◌, length, take, map, flat_map, Option, Some, None, bytes_eq, codes}
use Rattle.wasm_ast.specs.declared.types.ValType.{ValType}
use Rattle.wasm_ast.specs.declared.types.ValType.TheVariants.{I32, I64, FuncRef, ExternRef}
use Rattle.wasm_ast.specs.declared.types.FuncType.{FuncType}
use Rattle.wasm_ast.specs.declared.types.Limits.{Limits}
use Rattle.wasm_ast.specs.declared.types.TableType.{TableType}
use Rattle.wasm_ast.specs.declared.types.GlobalType.{GlobalType}
use Rattle.wasm_text.specs.declared.bad.TextBad.TheVariants.{Outside, Locals, NoMemory}
use Rattle.wasm_text.specs.declared.named.Idx.{Idx}
use Rattle.wasm_text.specs.declared.named.Local.{Local}
use Rattle.wasm_text.specs.Integers.{count_of}
use Rattle.wasm_text.specs.TokenForms.{Form, ◌>>=◌, gives, fails, next_is, next_word, opens, place, pass, pass_two, want, opening, closing, parts_end, keyword, is_open, is_word, as_long, keeps}
use Rattle.wasm_text.specs.TextValues.{u32, is_number, is_identifier, maybe_id, idx}

-- ---- words of what is outside: floating-point numbers and vectors

abbrev pub begins_with : List ℕ → List ℕ → Bool
begins_with front w = bytes_eq (take (length front) w) front

-- a text stands somewhere in a word
abbrev pub holds : List ℕ → List ℕ → Bool
holds part [] = false
holds part (c ∷ rest) = begins_with part (c ∷ rest) || holds part rest

abbrev pub begins_outside : List ℕ → Bool
begins_outside w =
    begins_with (codes "f32") w || begins_with (codes "f64") w || begins_with (codes "v128") w || begins_with (codes "i8x16") w
    || begins_with (codes "i16x8") w || begins_with (codes "i32x4") w || begins_with (codes "i64x2") w

abbrev pub holds_outside : List ℕ → Bool
holds_outside w = holds (codes "_f32") w || holds (codes "_f64") w

abbrev pub outside : {A : Type 0} → Form A
outside = do
  at ← place
  fails (Outside at)

-- ---- types

-- what a word stands for, where it stands for anything; else another form
abbrev pub told : {A : Type 0} → Option A → Form A → Form A
told None other = other
told (Some x) other = do
  _ ← pass
  gives x

abbrev pub ref_type_word : List ℕ → Option ValType
ref_type_word w =
    if bytes_eq w (codes "funcref") then Some FuncRef else (if bytes_eq w (codes "externref") then Some ExternRef else None)

abbrev pub val_type_word : List ℕ → Option ValType
val_type_word w =
    if bytes_eq w (codes "i32") then Some I32 else (if bytes_eq w (codes "i64") then Some I64 else ref_type_word w)

-- where a value type is read, a word may be outside, but no identifier is
abbrev pub is_outside_type : List ℕ → Bool
is_outside_type w = begins_outside w || (holds_outside w && not (is_identifier w))

abbrev pub ref_type : Form ValType
ref_type = do
  w ← next_word
  told (ref_type_word w) want

abbrev pub val_type : Form ValType
val_type = do
  w ← next_word
  told (val_type_word w) (if is_outside_type w then outside else want)

abbrev pub val_types : Form (List ValType)
val_types = as_long (next_is is_word) val_type

abbrev pub some_u32 : Form (Option ℕ)
some_u32 = do
  n ← u32
  gives (Some n)

abbrev pub limits : Form Limits
limits = do
  min ← u32
  w ← next_word
  max ← if is_number (count_of w) then some_u32 else gives None
  gives (record { min = min; max = max })

abbrev pub table_type : Form TableType
table_type = do
  size ← limits
  kind ← ref_type
  gives (record { kind = kind; limits = size })

abbrev pub mutable_type : Form GlobalType
mutable_type = do
  _ ← opening
  _ ← keyword (codes "mut")
  kind ← val_type
  _ ← closing
  gives (record { kind = kind; mutable = true })

abbrev pub constant_type : Form GlobalType
constant_type = do
  kind ← val_type
  gives (record { kind = kind; mutable = false })

abbrev pub global_type : Form GlobalType
global_type = do
  opened ← next_is is_open
  if opened then mutable_type else constant_type

-- ---- params and results

abbrev pub unnamed : ValType → Local
unnamed kind = record { id = None; kind = kind }

abbrev pub unnamed_params : Form (List Local)
unnamed_params = do
  kinds ← val_types
  gives (map unnamed kinds)

abbrev pub named_param : Form (List Local)
named_param = do
  found ← maybe_id
  kind ← val_type
  gives (record { id = found; kind = kind } ∷ [])

-- One part of params; whether they may have identifiers.
abbrev pub param_part : Bool → Form (List Local)
param_part with_ids = do
  _ ← pass_two
  w ← next_word
  params ← if with_ids && is_identifier w then named_param else unnamed_params
  _ ← closing
  gives params

abbrev pub params : Bool → Form (List Local)
params with_ids = do
  parts ← as_long (opens (codes "param")) (param_part with_ids)
  gives (flat_map (λ part. part) parts)

abbrev pub result_part : Form (List ValType)
result_part = do
  _ ← pass_two
  kinds ← val_types
  _ ← closing
  gives kinds

abbrev pub result_parts : Form (List (List ValType))
result_parts = as_long (opens (codes "result")) result_part

abbrev pub results : Form (List ValType)
results = do
  parts ← result_parts
  gives (flat_map (λ part. part) parts)

-- a function type, in which identifiers of params say nothing
abbrev pub func_type : Form FuncType
func_type = do
  _ ← opening
  _ ← keyword (codes "func")
  ps ← params true
  rs ← results
  _ ← parts_end
  gives (record { params = map (λ p. p.kind) ps; results = rs })

-- ---- uses of types

abbrev pub named_type : Form (Option Idx)
named_type = do
  _ ← pass_two
  x ← idx
  _ ← closing
  gives (Some x)

abbrev pub maybe_type : Form (Option Idx)
maybe_type = do
  there ← opens (codes "type")
  if there then named_type else gives None

-- A use, as its number. Params have identifiers in functions and imports alone.
abbrev pub use_of : Bool → Bool → Form ℕ
use_of with_ids of_block = do
  at ← place
  ty ← maybe_type
  ps ← params with_ids
  rs ← results
  keeps (record { of_block = of_block; ty = ty; params = ps; results = rs; at = at })

abbrev pub func_use : Form ℕ
func_use = use_of true false

abbrev pub call_use : Form ℕ
call_use = use_of false false

abbrev pub block_use : Form ℕ
block_use = use_of false true

-- ---- locals

-- A function may have 50,000 locals. A type that passes this bound is in trouble as soon as it is read, at the part's
-- parenthesis.
abbrev pub few : ℕ → ℕ → Form ℕ
few at sum = if nat_le sum 50000 then gives sum else fails (Locals sum at)

abbrev pub local_type : ℕ → ℕ → Form ValType
local_type at before = do
  kind ← val_type
  _ ← few at (before + 1)
  gives kind

-- the types of a part, where the function has so many locals before it
abbrev pub local_types_below : ℕ → ℕ → ℕ → Form (List Local)
local_types_below zero at before = fails NoMemory
local_types_below (suc n) at before = do
  more ← next_is is_word
  if more then (local_type at before >>= (λ kind. local_types_below n at (before + 1) >>= (λ others. gives (unnamed kind ∷ others)))) else gives []

abbrev pub local_types : ℕ → ℕ → Form (List Local)
local_types at before r = local_types_below (suc (length r.tokens)) at before r

abbrev pub named_local : ℕ → ℕ → Form (List Local)
named_local at before = do
  found ← maybe_id
  kind ← local_type at before
  gives (record { id = found; kind = kind } ∷ [])

abbrev pub local_part : ℕ → Form (List Local)
local_part before = do
  at ← place
  _ ← pass_two
  w ← next_word
  locals ← if is_identifier w then named_local at before else local_types at before
  _ ← closing
  gives locals

-- fewer than n parts
abbrev pub locals_below : ℕ → ℕ → Form (List Local)
locals_below zero before = fails NoMemory
locals_below (suc n) before = do
  more ← opens (codes "local")
  if more then (local_part before >>= (λ part. locals_below n (before + length part) >>= (λ others. gives (part ++ others)))) else gives []

-- Each part takes a token, so as many as there are tokens, and one more, are enough.
abbrev pub locals : Form (List Local)
locals r = locals_below (suc (length r.tokens)) 0 r
