-- The types of values and of what remains of a body (Appendix, Soundness).
--
-- A reference to a function is to one of the module. Operands are listed as in validation, the last first.
use Rattle.std.specs.Prelude.{◌<◌, List, [], ◌∷◌, length, map, Some, None}
use Rattle.std.specs.List.{AllByRecursion}
use Rattle.wasm_ast.specs.Shape.{InstrHasShape}
use Rattle.wasm_ast.specs.declared.types.ValType.{ValType}
use Rattle.wasm_ast.specs.declared.types.ValType.TheVariants.{I32 as I32Type, I64 as I64Type, FuncRef as FuncRefType, ExternRef as ExternRefType}
use Rattle.wasm_ast.specs.declared.instructions.Instr.{Instr}
use Rattle.wasm_ast.specs.declared.modules.Module.{Module}
use Rattle.wasm_check.specs.declared.operands.Operand.{Operand}
use Rattle.wasm_check.specs.declared.operands.Operand.TheVariants.{Of, Bottom}
use Rattle.wasm_check.specs.Contexts.{Context}
use Rattle.wasm_check.specs.Instructions.{Labels, IsTyped}
use Rattle.wasm_check.specs.Trees.{Tree, Makes}
use Rattle.wasm_reduction.specs.Configurations.{Reference, FuncRef, ExternRef, Value, I32, I64, Ref}
use Rattle.wasm_reduction.specs.Functions.{functions}

-- ---- values

abbrev pub ReferenceIs : Module → ValType → Reference → Type 0
ReferenceIs m FuncRefType (FuncRef None) = Unit {0}
ReferenceIs m FuncRefType (FuncRef (Some x)) = x < length (functions m)
ReferenceIs m ExternRefType ExternRef = Unit {0}
ReferenceIs m _ r = ⊥

abbrev pub ValueIs : {W : Type 0} → Module → Value W → ValType → Type 0
ValueIs m (I32 w) I32Type = Unit {0}
ValueIs m (I64 w) I64Type = Unit {0}
ValueIs m (Ref r) t = ReferenceIs m t r
ValueIs m _ t = ⊥

-- No value is of the type that matches every type: only operands of code that isn't reached are.
abbrev pub OperandIs : {W : Type 0} → Module → Value W → Operand → Type 0
OperandIs m v (Of t) = ValueIs m v t
OperandIs m v Bottom = ⊥

-- values of these types, one of each
abbrev pub Hold : {W : Type 0} → Module → List (Value W) → List Operand → Type 0
Hold m [] [] = Unit {0}
Hold m (v ∷ vs) (t ∷ ts) = OperandIs m v t × Hold m vs ts
Hold m [] (t ∷ ts) = ⊥
Hold m (v ∷ vs) [] = ⊥

abbrev pub ofs : List ValType → List Operand
ofs ts = map (λ t. Of t) ts

-- ---- instructions that remain

abbrev pub HaveShape : List Instr → Type 0
HaveShape code = AllByRecursion InstrHasShape code

-- The instructions make a sequence that is typed, where these are the sequences of the body.
pub record IsTypedCode (C : Context) (ls : Labels) (seqs : List (List Instr)) (code : List Instr) (ts us : List Operand) : Type 0 where
  pub tree : Tree
  pub makes : Makes seqs code tree
  pub typed : IsTyped C ls tree ts us
  pub shape : HaveShape code
