-- The types of operands, and when they match (Validation, Instructions: Operand Types, Instruction Types).
--
-- An operand type is a value type or ⊥, which matches every type: it is `Operand` of src. In code that isn't reached the
-- rules let operands have any types, and two operands of one such type are what makes `unreachable select` valid.
-- Lists of operand types have the last operand first.
use Rattle.std.specs.Prelude.{◌≡◌, List, [], ◌∷◌, reverse, map, Bool, true, false}
use Rattle.wasm_ast.specs.declared.types.ValType.{ValType}
use Rattle.wasm_ast.specs.declared.types.ValType.TheVariants.{I32, I64, FuncRef, ExternRef}
use Rattle.wasm_check.specs.declared.operands.Operand.{Operand}
use Rattle.wasm_check.specs.declared.operands.Operand.TheVariants.{Of, Bottom}

-- whether two value types are one
abbrev pub same_type : ValType → ValType → Bool
same_type I32 I32 = true
same_type I64 I64 = true
same_type FuncRef FuncRef = true
same_type ExternRef ExternRef = true
same_type t u = false

-- the first type matches the second
abbrev pub Matches : Operand → Operand → Type 0
Matches (Of t) u = Of t ≡ u
Matches Bottom u = Unit {0}

-- lists of types of one length, of which each of the first matches its one of the second
abbrev pub AllMatch : List Operand → List Operand → Type 0
AllMatch [] [] = Unit {0}
AllMatch [] (u ∷ us) = ⊥
AllMatch (t ∷ ts) [] = ⊥
AllMatch (t ∷ ts) (u ∷ us) = Matches t u × AllMatch ts us

-- value types as types of operands, the last first
abbrev pub operands : List ValType → List Operand
operands ts = reverse (map (λ t. Of t) ts)

-- the operands ts are some that match wanted, above rest
abbrev pub Takes : List Operand → List Operand → List Operand → Type 0
Takes ts [] rest = ts ≡ rest
Takes ts (u ∷ wanted) rest =
    (t : Operand) × (others : List Operand) × (ts ≡ t ∷ others) × Matches t u × Takes others wanted rest

-- a type of numbers
abbrev pub IsNumeric : Operand → Type 0
IsNumeric (Of I32) = Unit {0}
IsNumeric (Of I64) = Unit {0}
IsNumeric (Of FuncRef) = ⊥
IsNumeric (Of ExternRef) = ⊥
IsNumeric Bottom = Unit {0}

-- a type of references
abbrev pub IsReference : Operand → Type 0
IsReference (Of I32) = ⊥
IsReference (Of I64) = ⊥
IsReference (Of FuncRef) = Unit {0}
IsReference (Of ExternRef) = Unit {0}
IsReference Bottom = Unit {0}
