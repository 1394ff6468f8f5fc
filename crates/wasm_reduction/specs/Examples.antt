-- Small modules, and what the definitions give of them. Where an instruction is shown on a memory of a few bytes, the memory
-- is no whole page.
use Rattle.std.specs.Prelude.{◌≡◌, ℕ, ◌-◌, ◌+◌, ◌^◌, ◌<◌, Bool, true, false, List, [], ◌∷◌, length, Option, Some, None, codes}
use Rattle.wasm_ast.specs.declared.types.ValType.TheVariants.{I32 as I32Type, I64 as I64Type, FuncRef as FuncRefType}
use Rattle.wasm_ast.specs.declared.types.Limits.{Limits}
use Rattle.wasm_ast.specs.declared.types.BlockType.TheVariants.{Empty, One, Index}
use Rattle.wasm_ast.specs.declared.instructions.Instr.{Instr}
use Rattle.wasm_ast.specs.declared.instructions.Instr.TheVariants.{Unreachable as UnreachableInstr, Nop, Block, Loop, If, Br, BrIf, BrTable, Return, Call, CallIndirect, RefNull, RefIsNull, RefFunc, Discard, Select, SelectTyped, LocalGet, LocalSet, LocalTee, GlobalGet, GlobalSet, TableGet, TableSet, TableInit, ElemDrop, TableCopy, TableGrow, TableSize, TableFill, Load, Store as StoreInstr, MemorySize, MemoryGrow, MemoryInit, DataDrop, MemoryCopy, MemoryFill, Const32, Const64, Num}
use Rattle.wasm_ast.specs.declared.instructions.Expr.{Expr}
use Rattle.wasm_ast.specs.declared.modules.ImportKind.TheVariants.{Func as FuncImport}
use Rattle.wasm_ast.specs.declared.modules.GlobalDef.{GlobalDef}
use Rattle.wasm_ast.specs.declared.modules.Import.{Import}
use Rattle.wasm_ast.specs.declared.modules.Func.{Func}
use Rattle.wasm_ast.specs.declared.modules.Space.TheVariants.{Func as FuncSpace}
use Rattle.wasm_ast.specs.declared.modules.Mode.TheVariants.{Active}
use Rattle.wasm_ast.specs.declared.modules.Module.{Module}
use Rattle.wasm_ast.specs.declared.runs.Cause.TheVariants.{Unreachable, DivZero, Overflow, Memory, Table, Undefined, Uninitialized, Mismatch}
use Rattle.wasm_ast.specs.declared.runs.Outcome.{Outcome}
use Rattle.wasm_ast.specs.declared.runs.Outcome.TheVariants.{Returns, Traps, Fails, Assumes, Bound}
use Rattle.wasm_ast.specs.declared.runs.Value.{Value}
use Rattle.wasm_ast.specs.declared.runs.Value.TheVariants.{I32, I64, Func as FuncValue}
use Rattle.wasm_ast.specs.declared.runs.Draw.{Draw}
use Rattle.wasm_rules.specs.Words.{numbers, taken}
use Rattle.wasm_check.specs.Operators.{arrow}
use Rattle.wasm_reduction.specs.Configurations.{Reference, FuncRef, I64 as I64Value, Store, Frame}
use Rattle.wasm_reduction.specs.Instantiation.{offset_in, value_of, first_globals}
use Rattle.wasm_reduction.specs.Steps.{step}
use Rattle.wasm_reduction.specs.Runs.{Going, Over, Deep, Reply, Run, no_trace, follow, follow_by, follows, by_value, run_of, IsRun}

-- ---- modules

abbrev pub no_module : Module
no_module = record { types = []; imports = []; funcs = []; tables = []; memories = []; globals = []; exports = []; start = None; elems = []; segments = []; customs = [] }

-- a function without locals of its own
abbrev pub function_of : ℕ → List (List Instr) → Func
function_of ty seqs = record { ty = ty; locals = []; body = record { seqs = seqs } }

-- one function without params, with one i32 as its result
abbrev pub one_function : List (List Instr) → Module
one_function seqs = record no_module { types = arrow [] (I32Type ∷ []) ∷ []; funcs = function_of 0 seqs ∷ [] }

abbrev pub one_body : List Instr → Module
one_body code = one_function (code ∷ [])

abbrev pub expression : Instr → Expr
expression i = record { seqs = (i ∷ []) ∷ [] }

abbrev pub limits : ℕ → Option ℕ → Limits
limits least most = record { min = least; max = most }

-- ---- runs

-- without draws
abbrev pub ends : Outcome → List ℕ → Run
ends outcome answers = record { outcome = outcome; draws = []; answers = answers }

abbrev pub returns : List Value → List ℕ → Run
returns values answers = ends (Returns values) answers

-- the function 0, without arguments or input, with the steps 100
abbrev pub RunOf : Module → Run → Type 0
RunOf m run = IsRun m 0 [] [] 100 run

-- a frame with this code alone
abbrev pub frame_with : List Instr → Frame ℕ
frame_with code = record { arity = 0; locals = []; seqs = []; here = record { arity = 0; again = []; vals = []; code = code }; outer = [] }

-- the instructions are next, over this store
abbrev pub going_in : Store ℕ → List Instr → Going ℕ
going_in store code = record {
  config = record { store = store; frame = frame_with code; callers = frame_with [] ∷ []; answers = []; units = 0 };
  trace = no_trace;
}

-- what comes of the instructions over this store; what they leave is what is returned
abbrev pub Comes : Module → Store ℕ → List Instr → Run → Type 0
Comes m store code run = (n : ℕ) × (run_of [] (follows numbers (taken []) by_value m 100 n (going_in store code)) ≡ Some run)

-- ---- numeric

abbrev pub on32 : ℕ → ℕ → ℕ → Module
on32 op a b = one_body (Const32 a ∷ Const32 b ∷ Num op ∷ [])

abbrev pub on64 : ℕ → ℕ → ℕ → Module
on64 op a b = one_body (Const64 a ∷ Const64 b ∷ Num op ∷ [])

pub record NumericExamples : Type 0 where
  pub sum_at_two_steps : IsRun (on32 0x6A 2 3) 0 [] [] 2 (ends Bound [])
  pub sum_at_three_steps : IsRun (on32 0x6A 2 3) 0 [] [] 3 (returns (I32 5 ∷ []) [])
  pub sum_wraps : RunOf (on32 0x6A (2 ^ 32 - 1) 2) (returns (I32 1 ∷ []) [])
  pub eqz : RunOf (one_body (Const64 0 ∷ Num 0x50 ∷ [])) (returns (I32 1 ∷ []) [])
  pub div_s_by_zero : RunOf (on32 0x6D 1 0) (ends (Traps DivZero) (1 ∷ []))
  pub rem_u_by_zero : RunOf (on64 0x82 1 0) (ends (Traps DivZero) (1 ∷ []))
  pub div_s_overflow : RunOf (on32 0x6D (2 ^ 31) (2 ^ 32 - 1)) (ends (Traps Overflow) (0 ∷ 1 ∷ []))
  pub div_s_overflow_64 : RunOf (on64 0x7F (2 ^ 63) (2 ^ 64 - 1)) (ends (Traps Overflow) (0 ∷ 1 ∷ []))
  pub div_s_of_the_least : RunOf (on32 0x6D (2 ^ 31) 1) (returns (I32 (2 ^ 31) ∷ []) (0 ∷ 0 ∷ []))
  pub rem_s_of_the_least : RunOf (on32 0x6F (2 ^ 31) (2 ^ 32 - 1)) (returns (I32 0 ∷ []) (0 ∷ []))
  pub div_u : RunOf (on32 0x6E 7 2) (returns (I32 3 ∷ []) (0 ∷ []))

-- ---- parametric and variable

abbrev pub selecting_reference : ℕ → Module
selecting_reference condition = one_body (RefFunc 0 ∷ RefNull FuncRefType ∷ Const32 condition ∷ SelectTyped (FuncRefType ∷ []) ∷ RefIsNull ∷ [])

abbrev pub with_local : Module
with_local = record (one_body []) {
  funcs = record {
    ty = 0;
    locals = record { count = 1; kind = I32Type } ∷ [];
    body = record { seqs = (LocalGet 0 ∷ Const32 5 ∷ LocalTee 0 ∷ Num 0x6A ∷ LocalSet 0 ∷ LocalGet 0 ∷ LocalGet 0 ∷ Num 0x6A ∷ []) ∷ [] };
  } ∷ [];
}

abbrev pub with_global : Module
with_global = record (one_body (GlobalGet 0 ∷ Const32 1 ∷ Num 0x6A ∷ GlobalSet 0 ∷ GlobalGet 0 ∷ [])) {
  globals = record { ty = record { kind = I32Type; mutable = true }; init = expression (Const32 4) } ∷ [];
}

pub record ParametricExamples : Type 0 where
  pub discard : RunOf (one_body (Const32 1 ∷ Const32 2 ∷ Discard ∷ [])) (returns (I32 1 ∷ []) [])
  pub select_first : RunOf (one_body (Const32 7 ∷ Const32 8 ∷ Const32 9 ∷ Select ∷ [])) (returns (I32 7 ∷ []) [])
  pub select_second : RunOf (one_body (Const64 7 ∷ Const64 8 ∷ Const32 0 ∷ Select ∷ [])) (returns (I64 8 ∷ []) [])
  pub select_reference : RunOf (selecting_reference 3) (returns (I32 0 ∷ []) (1 ∷ []))
  pub select_null : RunOf (selecting_reference 0) (returns (I32 1 ∷ []) (0 ∷ []))
  pub local : RunOf with_local (returns (I32 10 ∷ []) [])
  pub global : RunOf with_global (returns (I32 5 ∷ []) [])

-- ---- control

-- the types 1 and 2 are of blocks
abbrev pub with_blocks : List (List Instr) → Module
with_blocks seqs = record (one_function seqs) {
  types = arrow [] (I32Type ∷ []) ∷ arrow (I32Type ∷ []) (I32Type ∷ I32Type ∷ []) ∷ arrow (I32Type ∷ []) (I32Type ∷ []) ∷ [];
}

-- three turns of a loop of six instructions, which counts its param down to 0
abbrev pub counts_down : Module
counts_down = record (with_blocks []) {
  funcs = record {
    ty = 0;
    locals = record { count = 1; kind = I32Type } ∷ [];
    body = record {
      seqs =
          (Const32 3 ∷ Loop (Index 2) 1 ∷ []) ∷
          (Const32 1 ∷ Num 0x6B ∷ LocalTee 0 ∷ LocalGet 0 ∷ BrIf 0 ∷ []) ∷ [];
    };
  } ∷ [];
}

abbrev pub if_of : ℕ → Module
if_of condition = one_function ((Const32 condition ∷ If (One I32Type) 1 2 ∷ []) ∷ (Const32 10 ∷ []) ∷ (Const32 20 ∷ []) ∷ [])

abbrev pub table_of_labels : ℕ → Module
table_of_labels index = one_function (
    (Block Empty 1 ∷ Const32 30 ∷ []) ∷
    (Block Empty 2 ∷ Const32 20 ∷ Return ∷ []) ∷
    (Block Empty 3 ∷ Const32 10 ∷ Return ∷ []) ∷
    (Const32 index ∷ BrTable (0 ∷ 1 ∷ []) 2 ∷ []) ∷ [])

abbrev pub calls_itself : Module
calls_itself = record no_module { types = arrow [] [] ∷ []; funcs = function_of 0 ((Call 0 ∷ []) ∷ []) ∷ [] }

abbrev pub subtracts : Module
subtracts = record no_module {
  types = arrow [] (I32Type ∷ []) ∷ arrow (I32Type ∷ I32Type ∷ []) (I32Type ∷ []) ∷ [];
  funcs = function_of 0 ((Const32 7 ∷ Const32 2 ∷ Call 1 ∷ []) ∷ []) ∷ function_of 1 ((LocalGet 0 ∷ LocalGet 1 ∷ Num 0x6B ∷ []) ∷ []) ∷ [];
}

-- the function 1 has the type that is called, the function 2 another; between them is a null
abbrev pub calls_by_table : ℕ → Module
calls_by_table index = record no_module {
  types = arrow [] (I32Type ∷ []) ∷ arrow [] [] ∷ arrow [] (I32Type ∷ []) ∷ [];
  funcs = function_of 0 ((Const32 index ∷ CallIndirect 2 0 ∷ []) ∷ []) ∷ function_of 0 ((Const32 10 ∷ []) ∷ []) ∷ function_of 1 ([] ∷ []) ∷ [];
  tables = record { kind = FuncRefType; limits = limits 3 None } ∷ [];
  elems = record {
    kind = FuncRefType;
    items = expression (RefFunc 1) ∷ expression (RefNull FuncRefType) ∷ expression (RefFunc 2) ∷ [];
    mode = Active 0 (expression (Const32 0));
  } ∷ [];
}

pub record ControlExamples : Type 0 where
  pub unreachable : RunOf (one_body (Nop ∷ UnreachableInstr ∷ [])) (ends (Traps Unreachable) [])
  pub endless_loop : IsRun (one_function ((Loop Empty 1 ∷ []) ∷ (Br 0 ∷ []) ∷ [])) 0 [] [] 10 (ends Bound [])
  pub block_with_params : RunOf (with_blocks ((Const32 1 ∷ Block (Index 1) 1 ∷ Num 0x6B ∷ []) ∷ (Const32 2 ∷ []) ∷ [])) (returns (I32 (2 ^ 32 - 1) ∷ []) [])
  pub branch_drops_the_others : RunOf (one_function ((Block (One I32Type) 1 ∷ []) ∷ (Const32 1 ∷ Const32 2 ∷ Br 0 ∷ []) ∷ [])) (returns (I32 2 ∷ []) [])
  pub branch_out_of_the_body : RunOf (one_function ((Const32 1 ∷ Const32 2 ∷ Br 0 ∷ []) ∷ [])) (returns (I32 2 ∷ []) [])
  pub loop_at_18_steps : IsRun counts_down 0 [] [] 18 (ends Bound (1 ∷ 1 ∷ []))
  pub loop_at_19_steps : IsRun counts_down 0 [] [] 19 (returns (I32 0 ∷ []) (1 ∷ 1 ∷ 0 ∷ []))
  pub if_first : RunOf (if_of 5) (returns (I32 10 ∷ []) (1 ∷ []))
  pub if_other : RunOf (if_of 0) (returns (I32 20 ∷ []) (0 ∷ []))
  pub br_table_first : RunOf (table_of_labels 0) (returns (I32 10 ∷ []) (0 ∷ []))
  pub br_table_second : RunOf (table_of_labels 1) (returns (I32 20 ∷ []) (1 ∷ 0 ∷ []))
  pub br_table_at_its_end : RunOf (table_of_labels 2) (returns (I32 30 ∷ []) (1 ∷ 1 ∷ []))
  pub br_table_past_its_end : RunOf (table_of_labels 7) (returns (I32 30 ∷ []) (1 ∷ 1 ∷ []))
  pub call_at_five_steps : IsRun subtracts 0 [] [] 5 (ends Bound [])
  pub call_at_six_steps : IsRun subtracts 0 [] [] 6 (returns (I32 5 ∷ []) [])
  pub recursion : IsRun calls_itself 0 [] [] 9 (ends Bound [])
  pub call_indirect : RunOf (calls_by_table 0) (returns (I32 10 ∷ []) (0 ∷ 0 ∷ []))
  pub call_indirect_null : RunOf (calls_by_table 1) (ends (Traps Uninitialized) (0 ∷ 1 ∷ []))
  pub call_indirect_mismatch : RunOf (calls_by_table 2) (ends (Traps Mismatch) (0 ∷ 2 ∷ []))
  pub call_indirect_past_the_end : RunOf (calls_by_table 3) (ends (Traps Undefined) (1 ∷ []))

-- a call that makes the frame 1,025 is too deep, and one that makes the frame 1,024 isn't: the next step is taken
pub record FrameExamples : Type 0 where
  pub too_deep : (draw : ℕ → Bool → ℕ) (reply : Reply ℕ) (m : Module) (steps : ℕ) (g : Going ℕ) →
      length g.config.callers ≡ 1025 → follow numbers draw reply m steps g ≡ Over Deep g.trace
  pub deep_enough : (draw : ℕ → Bool → ℕ) (reply : Reply ℕ) (m : Module) (steps : ℕ) (g : Going ℕ) →
      length g.config.callers ≡ 1024 → g.config.units < steps → follow numbers draw reply m steps g ≡ follow_by draw reply g (step numbers m g.config)

-- ---- tables

abbrev pub no_store : Store ℕ
no_store = record { globals = []; tables = []; memory = []; elems = []; datas = [] }

abbrev pub references : List ℕ → List Reference
references [] = []
references (f ∷ fs) = FuncRef (Some f) ∷ references fs

-- a table of these functions, whose maximum is 4, and an element segment
abbrev pub a_table : Module
a_table = record no_module { tables = record { kind = FuncRefType; limits = limits 3 (Some 4) } ∷ [] }

abbrev pub with_elements : Store ℕ
with_elements = record no_store { tables = (FuncRef (Some 5) ∷ FuncRef (Some 6) ∷ FuncRef None ∷ []) ∷ []; elems = references (8 ∷ 9 ∷ []) ∷ [] }

abbrev pub OnTable : List Instr → Run → Type 0
OnTable code run = Comes a_table with_elements code run

abbrev pub a_function : ℕ → Value
a_function f = FuncValue (Some f)

pub record TableExamples : Type 0 where
  pub get : OnTable (Const32 1 ∷ TableGet 0 ∷ []) (returns (a_function 6 ∷ []) (0 ∷ 1 ∷ []))
  pub get_past_the_end : OnTable (Const32 3 ∷ TableGet 0 ∷ []) (ends (Traps Table) (1 ∷ []))
  pub set : OnTable (Const32 2 ∷ RefFunc 7 ∷ TableSet 0 ∷ Const32 2 ∷ TableGet 0 ∷ []) (returns (a_function 7 ∷ []) (0 ∷ 2 ∷ 0 ∷ 2 ∷ []))
  pub set_past_the_end : OnTable (Const32 3 ∷ RefFunc 7 ∷ TableSet 0 ∷ []) (ends (Traps Table) (1 ∷ []))
  pub size : OnTable (TableSize 0 ∷ []) (returns (I32 3 ∷ []) [])
  pub grow_to_the_maximum : OnTable (RefFunc 7 ∷ Const32 1 ∷ TableGrow 0 ∷ Const32 3 ∷ TableGet 0 ∷ []) (returns (I32 3 ∷ a_function 7 ∷ []) (1 ∷ 0 ∷ 3 ∷ []))
  pub grow_past_the_maximum : OnTable (RefFunc 7 ∷ Const32 2 ∷ TableGrow 0 ∷ TableSize 0 ∷ []) (returns (I32 (2 ^ 32 - 1) ∷ I32 3 ∷ []) (2 ∷ []))
  pub fill : OnTable (Const32 1 ∷ RefFunc 7 ∷ Const32 2 ∷ TableFill 0 ∷ Const32 2 ∷ TableGet 0 ∷ []) (returns (a_function 7 ∷ []) (0 ∷ 1 ∷ 2 ∷ 0 ∷ 2 ∷ []))
  pub fill_past_the_end : OnTable (Const32 2 ∷ RefFunc 7 ∷ Const32 2 ∷ TableFill 0 ∷ []) (ends (Traps Table) (1 ∷ []))
  pub copy_that_overlaps : OnTable (Const32 1 ∷ Const32 0 ∷ Const32 2 ∷ TableCopy 0 0 ∷ Const32 2 ∷ TableGet 0 ∷ []) (returns (a_function 6 ∷ []) (0 ∷ 1 ∷ 0 ∷ 2 ∷ 0 ∷ 2 ∷ []))
  pub init : OnTable (Const32 0 ∷ Const32 1 ∷ Const32 1 ∷ TableInit 0 0 ∷ Const32 0 ∷ TableGet 0 ∷ []) (returns (a_function 9 ∷ []) (0 ∷ 0 ∷ 1 ∷ 1 ∷ 0 ∷ 0 ∷ []))
  pub init_past_the_segment : OnTable (Const32 0 ∷ Const32 1 ∷ Const32 2 ∷ TableInit 0 0 ∷ []) (ends (Traps Table) (1 ∷ []))
  pub init_of_a_dropped_segment : OnTable (ElemDrop 0 ∷ Const32 0 ∷ Const32 0 ∷ Const32 0 ∷ TableInit 0 0 ∷ Const32 0 ∷ Const32 0 ∷ Const32 1 ∷ TableInit 0 0 ∷ []) (ends (Traps Table) (0 ∷ 0 ∷ 0 ∷ 0 ∷ 1 ∷ []))

-- ---- memory

abbrev pub with_bytes : Store ℕ
with_bytes = record no_store { memory = 1 ∷ 2 ∷ 3 ∷ 254 ∷ []; datas = (8 ∷ 9 ∷ []) ∷ [] }

abbrev pub a_memory : Option ℕ → Module
a_memory most = record no_module { memories = limits 0 most ∷ [] }

abbrev pub OnMemory : List Instr → Run → Type 0
OnMemory code run = Comes (a_memory (Some 2)) with_bytes code run

-- i32.load of the first four bytes
abbrev pub load_all : List Instr
load_all = Const32 0 ∷ Load 0x28 2 0 ∷ []

pub record MemoryExamples : Type 0 where
  pub load : OnMemory load_all (returns (I32 (1 + 0x200 + 0x30000 + 0xFE000000) ∷ []) (0 ∷ 0 ∷ []))
  pub load_past_the_end : OnMemory (Const32 1 ∷ Load 0x28 2 0 ∷ []) (ends (Traps Memory) (1 ∷ []))
  pub load_of_the_last_byte : OnMemory (Const32 2 ∷ Load 0x2D 0 1 ∷ []) (returns (I32 254 ∷ []) (0 ∷ 2 ∷ []))
  pub load_of_a_sign : OnMemory (Const32 3 ∷ Load 0x30 0 0 ∷ []) (returns (I64 (2 ^ 64 - 2) ∷ []) (0 ∷ 3 ∷ []))
  pub offset_past_the_end : OnMemory (Const32 3 ∷ Load 0x2D 0 1 ∷ []) (ends (Traps Memory) (1 ∷ []))
  pub address_does_not_wrap : OnMemory (Const32 (2 ^ 32 - 1) ∷ Load 0x2D 0 1 ∷ []) (ends (Traps Memory) (1 ∷ []))
  pub store : OnMemory (Const32 1 ∷ Const32 0xAB0506 ∷ StoreInstr 0x3B 1 1 ∷ Const32 2 ∷ Load 0x2F 1 0 ∷ []) (returns (I32 0x506 ∷ []) (0 ∷ 1 ∷ 0 ∷ 2 ∷ []))
  pub store_past_the_end : OnMemory (Const32 2 ∷ Const64 0 ∷ StoreInstr 0x3D 1 1 ∷ []) (ends (Traps Memory) (1 ∷ []))
  pub size : OnMemory (MemorySize ∷ []) (returns (I32 0 ∷ []) [])
  pub grow_by_none : OnMemory (Const32 0 ∷ MemoryGrow ∷ []) (returns (I32 0 ∷ []) (0 ∷ []))
  pub grow_past_the_maximum : OnMemory (Const32 3 ∷ MemoryGrow ∷ []) (returns (I32 (2 ^ 32 - 1) ∷ []) (3 ∷ []))
  pub grow_past_all_maxima : Comes (a_memory None) with_bytes (Const32 1025 ∷ MemoryGrow ∷ []) (returns (I32 (2 ^ 32 - 1) ∷ []) (1025 ∷ []))
  pub fill : OnMemory (Const32 1 ∷ Const32 0x105 ∷ Const32 2 ∷ MemoryFill ∷ load_all) (returns (I32 (1 + 0x500 + 0x50000 + 0xFE000000) ∷ []) (0 ∷ 1 ∷ 2 ∷ 0 ∷ 0 ∷ []))
  pub fill_none_at_the_end : OnMemory (Const32 4 ∷ Const32 0 ∷ Const32 0 ∷ MemoryFill ∷ []) (returns [] (0 ∷ 4 ∷ 0 ∷ []))
  pub fill_none_past_the_end : OnMemory (Const32 5 ∷ Const32 0 ∷ Const32 0 ∷ MemoryFill ∷ []) (ends (Traps Memory) (1 ∷ []))
  pub copy_forward : OnMemory (Const32 1 ∷ Const32 0 ∷ Const32 3 ∷ MemoryCopy ∷ load_all) (returns (I32 0x03020101 ∷ []) (0 ∷ 1 ∷ 0 ∷ 3 ∷ 0 ∷ 0 ∷ []))
  pub copy_backward : OnMemory (Const32 0 ∷ Const32 1 ∷ Const32 3 ∷ MemoryCopy ∷ load_all) (returns (I32 0xFEFE0302 ∷ []) (0 ∷ 0 ∷ 1 ∷ 3 ∷ 0 ∷ 0 ∷ []))
  pub copy_from_past_the_end : OnMemory (Const32 0 ∷ Const32 2 ∷ Const32 3 ∷ MemoryCopy ∷ []) (ends (Traps Memory) (1 ∷ []))
  pub init : OnMemory (Const32 2 ∷ Const32 0 ∷ Const32 2 ∷ MemoryInit 0 ∷ load_all) (returns (I32 0x09080201 ∷ []) (0 ∷ 2 ∷ 0 ∷ 2 ∷ 0 ∷ 0 ∷ []))
  pub init_of_a_dropped_segment : OnMemory (DataDrop 0 ∷ Const32 4 ∷ Const32 0 ∷ Const32 0 ∷ MemoryInit 0 ∷ Const32 0 ∷ Const32 0 ∷ Const32 1 ∷ MemoryInit 0 ∷ []) (ends (Traps Memory) (0 ∷ 4 ∷ 0 ∷ 0 ∷ 1 ∷ []))

-- ---- instantiation

abbrev pub active_element : ℕ → Module
active_element place = record (one_body (Const32 1 ∷ [])) {
  tables = record { kind = FuncRefType; limits = limits 2 None } ∷ [];
  elems = record { kind = FuncRefType; items = expression (RefFunc 0) ∷ []; mode = Active 0 (expression (Const32 place)) } ∷ [];
}

-- its data segment doesn't fit either, nor does its start function run through
abbrev pub nothing_fits : Module
nothing_fits = record (active_element 2) {
  memories = limits 0 None ∷ [];
  segments = record { bytes = 1 ∷ []; mode = Active 0 (expression (Const32 0)) } ∷ [];
  start = Some 0;
  funcs = function_of 0 ((UnreachableInstr ∷ []) ∷ []) ∷ [];
}

-- the start function sets what the exported function gives
abbrev pub starts : Instr → Module
starts last = record no_module {
  types = arrow [] (I32Type ∷ []) ∷ arrow [] [] ∷ [];
  funcs = function_of 0 ((GlobalGet 0 ∷ []) ∷ []) ∷ function_of 1 ((Const32 9 ∷ GlobalSet 0 ∷ last ∷ []) ∷ []) ∷ [];
  globals = record { ty = record { kind = I32Type; mutable = true }; init = expression (Const32 4) } ∷ [];
  start = Some 1;
}

-- globals, and a function that gives one of them
abbrev pub with_globals : List GlobalDef → ℕ → Module
with_globals globals x = record no_module {
  types = arrow [] (I32Type ∷ []) ∷ [];
  funcs = function_of 0 ((GlobalGet x ∷ []) ∷ []) ∷ [];
  globals = globals;
}

-- an i32 that isn't mutable, by these instructions
abbrev pub fixed_by : List Instr → GlobalDef
fixed_by code = record { ty = record { kind = I32Type; mutable = false }; init = record { seqs = code ∷ [] } }

pub record InstantiationExamples : Type 0 where
  pub global_by_one_before : RunOf (with_globals (fixed_by (Const32 40 ∷ []) ∷ fixed_by (GlobalGet 0 ∷ Const32 2 ∷ Num 0x6A ∷ []) ∷ []) 1) (returns (I32 42 ∷ []) [])
  pub global_by_one_after : first_globals (with_globals (fixed_by (GlobalGet 1 ∷ []) ∷ fixed_by (Const32 1 ∷ []) ∷ []) 0) ≡ None
  pub global_by_itself : first_globals (with_globals (fixed_by (GlobalGet 0 ∷ []) ∷ []) 0) ≡ None
  pub product_wraps : offset_in [] (record { seqs = (Const32 65536 ∷ Const32 65536 ∷ Num 0x6C ∷ []) ∷ [] }) ≡ Some 0
  pub difference_wraps : offset_in [] (record { seqs = (Const32 0 ∷ Const32 1 ∷ Num 0x6B ∷ []) ∷ [] }) ≡ Some (2 ^ 32 - 1)
  pub wide_difference : value_of [] (record { seqs = (Const64 5 ∷ Const64 7 ∷ Const64 3 ∷ Num 0x7E ∷ Num 0x7D ∷ []) ∷ [] }) ≡ Some (I64Value (2 ^ 64 - 16))
  pub operand_left_over : value_of [] (record { seqs = (Const32 1 ∷ Const32 2 ∷ []) ∷ [] }) ≡ None
  pub operand_lacks : value_of [] (record { seqs = (Const32 1 ∷ Num 0x6A ∷ []) ∷ [] }) ≡ None
  pub element_at_the_end : RunOf (active_element 1) (returns (I32 1 ∷ []) [])
  pub element_past_the_end : RunOf (active_element 2) (ends (Traps Table) [])
  pub elements_first : RunOf nothing_fits (ends (Traps Table) [])
  pub then_data : RunOf (record nothing_fits { elems = [] }) (ends (Traps Memory) [])
  pub then_start : RunOf (record nothing_fits { elems = []; segments = [] }) (ends (Traps Unreachable) [])
  pub active_segment_is_dropped : RunOf (record (active_element 1) { funcs = function_of 0 ((Const32 0 ∷ Const32 0 ∷ Const32 1 ∷ TableInit 0 0 ∷ []) ∷ []) ∷ [] }) (ends (Traps Table) (1 ∷ []))
  pub start_before_export : IsRun (starts Nop) 0 [] [] 4 (returns (I32 9 ∷ []) [])
  pub units_of_both : IsRun (starts Nop) 0 [] [] 3 (ends Bound [])
  pub start_traps : RunOf (starts UnreachableInstr) (ends (Traps Unreachable) [])

-- ---- host functions

abbrev pub host_import : List ℕ → ℕ → Import
host_import name ty = record { «module» = codes "symbolic"; name = name; kind = FuncImport ty }

-- the functions 0 to 3 are the four host functions, and 4 has this body
abbrev pub with_hosts : List Instr → Module
with_hosts code = record no_module {
  types = arrow [] (I32Type ∷ []) ∷ arrow [] (I64Type ∷ []) ∷ arrow (I32Type ∷ []) [] ∷ [];
  imports = host_import (codes "i32_symbol") 0 ∷ host_import (codes "i64_symbol") 1 ∷ host_import (codes "assume") 2 ∷ host_import (codes "assert") 2 ∷ [];
  funcs = function_of 0 (code ∷ []) ∷ [];
}

abbrev pub draw32 : ℕ → Draw
draw32 n = record { wide = false; value = n }

abbrev pub draw64 : ℕ → Draw
draw64 n = record { wide = true; value = n }

abbrev pub RunsHost : List Instr → List ℕ → Run → Type 0
RunsHost code input run = IsRun (with_hosts code) 4 [] input 100 run

-- the generator's module of one symbol
abbrev pub generated : Module
generated = record no_module {
  types = arrow [] (I32Type ∷ []) ∷ [];
  imports = host_import (codes "i32_symbol") 0 ∷ [];
  funcs = record {
    ty = 0;
    locals = record { count = 1; kind = I32Type } ∷ [];
    body = record {
      seqs =
          (Call 0 ∷ Const32 1 ∷ Num 0x49 ∷ If Empty 1 2 ∷ LocalGet 0 ∷ []) ∷
          (LocalGet 0 ∷ Const32 1 ∷ Num 0x6A ∷ LocalSet 0 ∷ []) ∷ [] ∷ [];
    };
  } ∷ [];
  exports = record { name = codes "f"; space = FuncSpace; index = 1 } ∷ [];
}

pub record HostExamples : Type 0 where
  pub symbols : RunsHost (Call 0 ∷ Call 1 ∷ Call 0 ∷ []) ((2 ^ 32 + 3) ∷ (2 ^ 32 + 4) ∷ [])
      (record { outcome = Returns (I32 3 ∷ I64 (2 ^ 32 + 4) ∷ I32 0 ∷ []); draws = draw32 3 ∷ draw64 (2 ^ 32 + 4) ∷ draw32 0 ∷ []; answers = [] })
  pub assume_holds : RunsHost (Const32 5 ∷ Call 2 ∷ Const32 1 ∷ []) [] (returns (I32 1 ∷ []) (1 ∷ []))
  pub assume_fails : RunsHost (Const32 0 ∷ Call 2 ∷ Const32 1 ∷ []) [] (ends Assumes (0 ∷ []))
  pub assert_holds : RunsHost (Const32 5 ∷ Call 3 ∷ Const32 1 ∷ []) [] (returns (I32 1 ∷ []) (1 ∷ []))
  pub assert_fails : RunsHost (Const32 0 ∷ Call 3 ∷ Const32 1 ∷ []) [] (ends Fails (0 ∷ []))
  pub host_call_is_one_unit : IsRun (with_hosts (Call 0 ∷ [])) 4 [] (7 ∷ []) 1 (record { outcome = Returns (I32 7 ∷ []); draws = draw32 7 ∷ []; answers = [] })
  pub exported_symbol : IsRun (with_hosts []) 0 [] (7 ∷ []) 0 (record { outcome = Returns (I32 7 ∷ []); draws = draw32 7 ∷ []; answers = [] })
  pub exported_assume : IsRun (with_hosts []) 2 (I32 0 ∷ []) [] 0 (ends Assumes (0 ∷ []))
  pub generated_at_0 : IsRun generated 1 [] (0 ∷ []) 1000 (record { outcome = Returns (I32 1 ∷ []); draws = draw32 0 ∷ []; answers = 1 ∷ [] })
  pub generated_at_5 : IsRun generated 1 [] (5 ∷ []) 1000 (record { outcome = Returns (I32 0 ∷ []); draws = draw32 5 ∷ []; answers = 0 ∷ [] })
