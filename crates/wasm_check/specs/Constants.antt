-- Constant expressions (Validation, Instructions: Expressions, Constant Expressions).
--
-- A constant expression is a sequence of constant instructions that leads, by the typing of sequences, from no operands to
-- one of the type wanted. The operators `add`, `sub` and `mul` are constant too, as they are in the standard after 2.0.
use Rattle.std.specs.Prelude.{◌≡◌, ℕ, List, [], ◌∷◌, All, IsTrue, Some, Bool, false, ◌||◌, nat_lt, slice_get}
use Rattle.wasm_ast.specs.Opcodes.{is_from}
use Rattle.wasm_ast.specs.declared.types.ValType.{ValType}
use Rattle.wasm_ast.specs.declared.types.GlobalType.{GlobalType}
use Rattle.wasm_ast.specs.declared.instructions.Instr.{Instr}
use Rattle.wasm_ast.specs.declared.instructions.Instr.TheVariants.{Const32, Const64, RefNull, RefFunc, GlobalGet, Num}
use Rattle.wasm_ast.specs.declared.instructions.Expr.{Expr}
use Rattle.wasm_check.specs.Contexts.{Context}
use Rattle.wasm_check.specs.Instructions.{IsTyped}
use Rattle.wasm_check.specs.Operands.{operands}
use Rattle.wasm_check.specs.Trees.{Tree, Nothing, Plain}

-- add, sub and mul, of i32 and of i64
abbrev pub is_constant_operator : ℕ → Bool
is_constant_operator op = is_from 0x6A 0x6C op || is_from 0x7C 0x7E op

-- the instruction is constant, where `global.get` may name these globals
abbrev pub IsConstantInstr : List GlobalType → Instr → Type 0
IsConstantInstr globals (Const32 n) = Unit {0}
IsConstantInstr globals (Const64 n) = Unit {0}
IsConstantInstr globals (RefNull kind) = Unit {0}
IsConstantInstr globals (RefFunc x) = Unit {0}
IsConstantInstr globals (GlobalGet x) = (type : GlobalType) × (slice_get globals x ≡ Some type) × (type.mutable ≡ false)
IsConstantInstr globals (Num op) = IsTrue (is_constant_operator op)
IsConstantInstr globals _ = ⊥

-- the context of a constant expression: there are so many functions, and its `global.get` may name these globals
abbrev pub constant_context : ℕ → List GlobalType → Context
constant_context funcs globals = record {
  types = [];
  funcs = [];
  tables = [];
  memories = [];
  globals = globals;
  elems = [];
  datas = 0;
  declared = λ x. nat_lt x funcs;
  locals = [];
  results = [];
}

-- instructions with no sequence inside them, one after another
abbrev pub plain_tree : List Instr → Tree
plain_tree [] = Nothing
plain_tree (i ∷ is) = Plain i (plain_tree is)

-- the expression is constant and gives a value of the type
pub record IsConstant (funcs : ℕ) (globals : List GlobalType) (e : Expr) (kind : ValType) : Type 0 where
  pub instrs : List Instr
  pub alone : e.seqs ≡ instrs ∷ []
  pub constant : All (IsConstantInstr globals) instrs
  pub typed : IsTyped (constant_context funcs globals) [] (plain_tree instrs) [] (operands (kind ∷ []))
