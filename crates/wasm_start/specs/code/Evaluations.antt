-- The operands of a constant expression that is evaluated.
use Rattle.std.specs.Prelude.{◌≡◌, ℕ, List, [], ◌∷◌, map, reverse, Bool, true, false, Option, Some, None}
use Rattle.wasm_ast.specs.declared.runs.Value.{Value as PlainValue}
use Rattle.wasm_reduction.specs.Configurations.{Value}
use Rattle.wasm_reduction.specs.Combinators.{word_of}
use Rattle.wasm_reduction.specs.Instantiation.{argument}

-- the operands that plain values stand for, the last first
unfoldable pub stack_of : List PlainValue → List (Value ℕ)
stack_of values = reverse (map argument values)

-- the word of the last operand, where it is an i64, if wide, or an i32
abbrev pub last_word : Bool → List (Value ℕ) → Option ℕ
last_word wide [] = None
last_word wide (v ∷ vs) = word_of wide v

-- the operands are those that are given; or none are given
abbrev pub Applied : Bool → Option (List (Value ℕ)) → List (Value ℕ) → Type 0
Applied true given vs = given ≡ Some vs
Applied false given vs = given ≡ None
