-- One step of a configuration: an instruction, or the end of a label or a frame (Execution, Instructions). An instruction
-- that asks takes one step up to each question, which leaves the configuration as it is, and one after the last answer.
use Rattle.std.specs.Prelude.{ℕ, List, [], ◌∷◌, ◌++◌, Bool}
use Rattle.wasm_ast.specs.declared.instructions.Instr.{Instr}
use Rattle.wasm_ast.specs.declared.instructions.Instr.TheVariants.{Unreachable as UnreachableInstr, Nop, Block, Loop, If, Br, BrIf, BrTable, Return, Call, CallIndirect, RefNull, RefIsNull, RefFunc, Discard, Select, SelectTyped, LocalGet, LocalSet, LocalTee, GlobalGet, GlobalSet, TableGet, TableSet, TableInit, ElemDrop, TableCopy, TableGrow, TableSize, TableFill, Load, Store, MemorySize, MemoryGrow, MemoryInit, DataDrop, MemoryCopy, MemoryFill, Const32, Const64, Num}
use Rattle.wasm_ast.specs.declared.runs.Cause.TheVariants.{Unreachable}
use Rattle.wasm_ast.specs.declared.modules.Module.{Module}
use Rattle.wasm_rules.specs.Words.{Kind}
use Rattle.wasm_reduction.specs.Configurations.{Value, Config, Traps, Next, Goes, Ends}
use Rattle.wasm_reduction.specs.Combinators.{past, holding, valued}
use Rattle.wasm_reduction.specs.Numeric.{const32, const64, numeric}
use Rattle.wasm_reduction.specs.Parametric.{discard, select}
use Rattle.wasm_reduction.specs.Variables.{local_get, local_set, local_tee, global_get, global_set}
use Rattle.wasm_reduction.specs.Control.{finish, block, loop, if_else, br, br_if, br_table, return, call, call_indirect}
use Rattle.wasm_reduction.specs.Tables.{ref_null, ref_is_null, ref_func, table_get, table_set, table_size, table_grow, table_fill, table_copy, table_init, elem_drop}
use Rattle.wasm_reduction.specs.Memories.{load, store, memory_size, memory_grow, memory_fill, memory_copy, memory_init, data_drop}

-- one instruction, in the configuration c past it, with the operands vs and the answers ns so far
abbrev pub act : {W : Type 0} → Kind W → Module → Config W → List (Value W) → List ℕ → Instr → Next W
act K m c vs ns UnreachableInstr = Ends (Traps Unreachable)
act K m c vs ns Nop = Goes c
act K m c vs ns (Block ty body) = block m c vs ty body
act K m c vs ns (Loop ty body) = loop m c vs ty body
act K m c vs ns (If ty first other) = if_else m c vs ns ty first other
act K m c vs ns (Br l) = br c vs l
act K m c vs ns (BrIf l) = br_if c vs ns l
act K m c vs ns (BrTable labels last) = br_table K c vs ns labels last
act K m c vs ns Return = return c vs
act K m c vs ns (Call x) = call K m c vs ns x
act K m c vs ns (CallIndirect ty x) = call_indirect K m c vs ns ty x
act K m c vs ns (RefNull kind) = ref_null c vs kind
act K m c vs ns RefIsNull = ref_is_null K c vs
act K m c vs ns (RefFunc x) = ref_func c vs x
act K m c vs ns Discard = discard c vs
act K m c vs ns Select = select K c vs ns
act K m c vs ns (SelectTyped kinds) = select K c vs ns
act K m c vs ns (LocalGet x) = local_get c vs x
act K m c vs ns (LocalSet x) = local_set c vs x
act K m c vs ns (LocalTee x) = local_tee c vs x
act K m c vs ns (GlobalGet x) = global_get c vs x
act K m c vs ns (GlobalSet x) = global_set c vs x
act K m c vs ns (TableGet x) = table_get K c vs ns x
act K m c vs ns (TableSet x) = table_set K c vs ns x
act K m c vs ns (TableInit e x) = table_init K c vs ns e x
act K m c vs ns (ElemDrop e) = elem_drop c e
act K m c vs ns (TableCopy x y) = table_copy K c vs ns x y
act K m c vs ns (TableGrow x) = table_grow K m c vs ns x
act K m c vs ns (TableSize x) = table_size K c vs x
act K m c vs ns (TableFill x) = table_fill K c vs ns x
act K m c vs ns (Load op align offset) = load K c vs ns op offset
act K m c vs ns (Store op align offset) = store K c vs ns op offset
act K m c vs ns MemorySize = memory_size K c vs
act K m c vs ns MemoryGrow = memory_grow K m c vs ns
act K m c vs ns (MemoryInit x) = memory_init K c vs ns x
act K m c vs ns (DataDrop x) = data_drop c x
act K m c vs ns MemoryCopy = memory_copy K c vs ns
act K m c vs ns MemoryFill = memory_fill K c vs ns
act K m c vs ns (Const32 n) = const32 K c vs n
act K m c vs ns (Const64 n) = const64 K c vs n
act K m c vs ns (Num op) = numeric K c vs ns op

abbrev pub step_code : {W : Type 0} → Kind W → Module → Config W → List Instr → Next W
step_code K m c [] = finish c c.frame.here.vals c.frame.outer
step_code K m c (i ∷ is) = act K m (past c is) c.frame.here.vals c.answers i

-- one step
abbrev pub step : {W : Type 0} → Kind W → Module → Config W → Next W
step K m c = step_code K m c c.frame.here.code

-- ---- what is given to a step from outside

-- the configuration with one more answer to the question at which it stands
abbrev pub answered : {W : Type 0} → Config W → ℕ → Config W
answered c n = record c { answers = c.answers ++ n ∷ [] }

-- the configuration with the word of the symbol that it waits for, an i64 where wide, else an i32
abbrev pub with_symbol : {W : Type 0} → Config W → Bool → W → Config W
with_symbol c wide w = holding c (valued wide w ∷ c.frame.here.vals)
