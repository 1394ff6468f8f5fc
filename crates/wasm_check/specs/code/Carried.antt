-- What a `br_table` has seen of its labels, and which types of the lists that the others carry decide.
use Rattle.std.specs.Prelude.{◌≡◌, ℕ, List, length, take, reverse, Some, None, slice_get, Bool, true, false}
use Rattle.wasm_ast.specs.declared.types.ValType.{ValType}
use Rattle.wasm_ast.specs.declared.types.FuncType.{FuncType}
use Rattle.type_suffixes.specs.declared.lists.Listed.{Listed}
use Rattle.type_suffixes.specs.declared.seen.Seen.{Seen}
use Rattle.wasm_check.specs.Instructions.{Labels}
use Rattle.type_suffixes.specs.Lists.{listed}
use Rattle.type_suffixes.specs.Seen.{is_seen}
use Rattle.wasm_check.specs.Operands.{operands}
use Rattle.wasm_check.specs.code.Checker.{Stack, popped}

-- types that can be carried from these operands to where so many are wanted
abbrev pub Passes : List ValType → Stack → List ValType → Type 0
Passes own s these = (length these ≡ length own) × (t : Stack) × (popped (operands these) s ≡ Some t)

-- whether the label k is there and its types can be carried
abbrev pub CanCarry : Bool → Labels → List ValType → Stack → ℕ → Type 0
CanCarry true ls own s k = (these : List ValType) × (slice_get ls k ≡ Some these) × Passes own s these
CanCarry false ls own s k = (these : List ValType) → slice_get ls k ≡ Some these → Passes own s these → ⊥

-- each list that was seen can be carried
abbrev pub SeenPass : List FuncType → List ValType → Stack → Seen → Type 0
SeenPass types own s seen = (list : Listed) → is_seen seen list ≡ true → Passes own s (listed types list)

-- whether operands of these types can be taken
abbrev pub CanTake : Bool → List ValType → Stack → Type 0
CanTake true these s = (t : Stack) × (popped (operands these) s ≡ Some t)
CanTake false these s = popped (operands these) s ≡ None

-- a list as long as own can be taken from these operands where its last n types are those of own
abbrev pub Decide : List ValType → Stack → ℕ → Type 0
Decide own s n =
    (these : List ValType) → length these ≡ length own → take n (reverse these) ≡ take n (reverse own) → (t : Stack) × (popped (operands these) s ≡ Some t)

-- so it is where own itself can be taken
abbrev pub HangsOn : Stack → List ValType → ℕ → Type 0
HangsOn s own n = (t : Stack) → popped (operands own) s ≡ Some t → Decide own s n
