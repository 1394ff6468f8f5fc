-- What the machine's values and its answers mean, where h says what a word means.
use Rattle.std.specs.Prelude.{ℕ, Bool, true, false, List, map, flat_map, replicate, slice_get, Option, Some, None, option_and_then}
use Rattle.std.specs.List.{AllByRecursion}
use Rattle.wasm_ast.specs.declared.types.ValType.{ValType}
use Rattle.wasm_ast.specs.declared.types.ValType.TheVariants.{I32 as I32Type, I64 as I64Type, FuncRef as FuncRefType, ExternRef as ExternRefType}
use Rattle.wasm_ast.specs.declared.modules.Group.{Group}
use Rattle.wasm_machine.specs.declared.values.Reference.{Reference as CodeReference}
use Rattle.wasm_machine.specs.declared.values.Reference.TheVariants.{Func, Extern}
use Rattle.wasm_machine.specs.declared.values.Value.{Value as CodeValue}
use Rattle.wasm_machine.specs.declared.values.Value.TheVariants.{I32 as CodeI32, I64 as CodeI64, Ref as CodeRef}
use Rattle.wasm_machine.specs.declared.next.Question.{Question as CodeQuestion}
use Rattle.wasm_machine.specs.declared.next.Question.TheVariants.{Test as CodeTest, Pick as CodePick, Assume as CodeAssume}
use Rattle.wasm_machine.specs.declared.next.End.{End as CodeEnd}
use Rattle.wasm_machine.specs.declared.next.End.TheVariants.{Returns as CodeReturns, Traps as CodeTraps, Fails as CodeFails, Assumes as CodeAssumes, Stuck as CodeStuck}
use Rattle.wasm_reduction.specs.Configurations.{Reference, FuncRef, ExternRef, Value, I32, I64, Ref, Question, Test, Pick, Assume, End, Returns, Traps, Fails, Assumes, Stuck}

abbrev pub reference : CodeReference → Reference
reference (Func f) = FuncRef f
reference Extern = ExternRef

abbrev pub value : {V W : Type 0} → (V → W) → CodeValue V → Value W
value h (CodeI32 w) = I32 (h w)
value h (CodeI64 w) = I64 (h w)
value h (CodeRef r) = Ref (reference r)

abbrev pub question : CodeQuestion → Question
question CodeTest = Test
question CodePick = Pick
question CodeAssume = Assume

abbrev pub end_of : {V W : Type 0} → (V → W) → CodeEnd V → End W
end_of h (CodeReturns values) = Returns (map (value h) values.items)
end_of h (CodeTraps cause) = Traps cause
end_of h CodeFails = Fails
end_of h CodeAssumes = Assumes
end_of h CodeStuck = Stuck

-- ---- operands

-- the word of a value of type i64, where wide, or of type i32
abbrev pub word_of : {V : Type 0} → Bool → CodeValue V → Option V
word_of false (CodeI32 w) = Some w
word_of true (CodeI64 w) = Some w
word_of _ _ = None

abbrev pub reference_of : {V : Type 0} → CodeValue V → Option CodeReference
reference_of (CodeRef r) = Some r
reference_of _ = None

-- a word as a value: an i64 where wide, else an i32
abbrev pub valued : {V : Type 0} → Bool → V → CodeValue V
valued false w = CodeI32 w
valued true w = CodeI64 w

-- the word, or the reference, at a place of a list of values
abbrev pub word_at : {V : Type 0} → Bool → List (CodeValue V) → ℕ → Option V
word_at wide values k = option_and_then (word_of wide) (slice_get values k)

abbrev pub reference_at : {V : Type 0} → List (CodeValue V) → ℕ → Option CodeReference
reference_at values k = option_and_then reference_of (slice_get values k)

-- ---- words that are held

abbrev pub ValueHeld : {V : Type 0} → (V → Type 0) → CodeValue V → Type 0
ValueHeld H (CodeI32 w) = H w
ValueHeld H (CodeI64 w) = H w
ValueHeld H (CodeRef r) = Unit {0}

abbrev pub ValuesHeld : {V : Type 0} → (V → Type 0) → List (CodeValue V) → Type 0
ValuesHeld H values = AllByRecursion (ValueHeld H) values

abbrev pub EndHeld : {V : Type 0} → (V → Type 0) → CodeEnd V → Type 0
EndHeld H (CodeReturns values) = ValuesHeld H values.items
EndHeld H _ = Unit {0}

-- ---- locals as they begin

-- the default value of a type: 0, which the word zero is, or null
abbrev pub default_value : {V : Type 0} → V → ValType → CodeValue V
default_value zero I32Type = CodeI32 zero
default_value zero I64Type = CodeI64 zero
default_value zero FuncRefType = CodeRef (Func None)
default_value zero ExternRefType = CodeRef Extern

abbrev pub first_locals_of : {V : Type 0} → V → List Group → List (CodeValue V)
first_locals_of zero groups = flat_map (λ g. replicate g.count (default_value zero g.kind)) groups
