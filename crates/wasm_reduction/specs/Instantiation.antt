-- Instantiation and invocation (Execution, Modules). A module is instantiated on numbers alone, and asks nothing.
use Rattle.std.specs.Prelude.{ℕ, ◌+◌, ◌*◌, Bool, true, false, nat_lt, if◌then◌else◌, List, [], ◌∷◌, ◌++◌, length, map, flat_map, replicate, reverse, slice_get, slice_set, Option, Some, None, option_map, option_and_then, Result, Ok, Err}
use Rattle.wasm_ast.specs.Opcodes.{is_from}
use Rattle.wasm_ast.specs.declared.instructions.Instr.{Instr}
use Rattle.wasm_ast.specs.declared.instructions.Instr.TheVariants.{Const32, Const64, RefNull, RefFunc, GlobalGet, Num, Call}
use Rattle.wasm_ast.specs.declared.instructions.Expr.{Expr}
use Rattle.wasm_ast.specs.declared.modules.GlobalDef.{GlobalDef}
use Rattle.wasm_ast.specs.declared.modules.Mode.{Mode}
use Rattle.wasm_ast.specs.declared.modules.Mode.TheVariants.{Passive, Declared, Active}
use Rattle.wasm_ast.specs.declared.modules.Elem.{Elem}
use Rattle.wasm_ast.specs.declared.modules.Segment.{Segment}
use Rattle.wasm_ast.specs.declared.modules.Module.{Module}
use Rattle.wasm_ast.specs.declared.runs.Cause.{Cause}
use Rattle.wasm_ast.specs.declared.runs.Cause.TheVariants.{Memory, Table}
use Rattle.wasm_ast.specs.declared.runs.Value.{Value as Argument}
use Rattle.wasm_ast.specs.declared.runs.Value.TheVariants.{I32 as I32Argument, I64 as I64Argument, Func as FuncArgument, Extern as ExternArgument}
use Rattle.wasm_rules.specs.Words.{Kind, numbers}
use Rattle.wasm_reduction.specs.Configurations.{Reference, FuncRef, ExternRef, Value, I32, I64, Ref, Store, Frame, Config, End, Traps, Stuck}
use Rattle.wasm_reduction.specs.Combinators.{valued, word_of, reference_of, written}
use Rattle.wasm_reduction.specs.Tables.{null_of}
use Rattle.wasm_reduction.specs.Memories.{page_bytes}
use Rattle.wasm_reduction.specs.Images.{value_image, store_image, end_image}

-- ---- constant expressions: their instructions on an operand stack, with no units and no questions

-- add, sub or mul of the last two operands, which are i64 where wide, else i32
abbrev pub combined : Bool → ℕ → List (Value ℕ) → Option (List (Value ℕ))
combined wide op [] = None
combined wide op (b ∷ []) = None
combined wide op (b ∷ a ∷ vs) =
    option_and_then (λ y. option_map (λ x. valued wide (numbers.binary op x y) ∷ vs) (word_of wide a)) (word_of wide b)

-- i32.add, i32.sub, i32.mul; i64.add, i64.sub, i64.mul
abbrev pub operated : ℕ → List (Value ℕ) → Option (List (Value ℕ))
operated op vs =
    if is_from 0x6A 0x6C op then combined false op vs else if is_from 0x7C 0x7E op then combined true op vs else None

-- the operands after a constant instruction, where the globals have these values
abbrev pub constant : List (Value ℕ) → Instr → List (Value ℕ) → Option (List (Value ℕ))
constant globals (Const32 n) vs = Some (I32 n ∷ vs)
constant globals (Const64 n) vs = Some (I64 n ∷ vs)
constant globals (RefNull kind) vs = option_map (λ r. Ref r ∷ vs) (null_of kind)
constant globals (RefFunc x) vs = Some (Ref (FuncRef (Some x)) ∷ vs)
constant globals (GlobalGet x) vs = option_map (λ v. v ∷ vs) (slice_get globals x)
constant globals (Num op) vs = operated op vs
constant globals _ vs = None

-- the operands after some of them
abbrev pub evaluated : List (Value ℕ) → List Instr → List (Value ℕ) → Option (List (Value ℕ))
evaluated globals [] vs = Some vs
evaluated globals (i ∷ is) vs = option_and_then (evaluated globals is) (constant globals i vs)

abbrev pub only_sequence : List (List Instr) → Option (List Instr)
only_sequence (is ∷ []) = Some is
only_sequence _ = None

abbrev pub only_value : List (Value ℕ) → Option (Value ℕ)
only_value (v ∷ []) = Some v
only_value _ = None

-- the value of a constant expression, where the globals have these values
abbrev pub value_of : List (Value ℕ) → Expr → Option (Value ℕ)
value_of globals e =
    option_and_then (λ is. option_and_then only_value (evaluated globals is [])) (only_sequence e.seqs)

abbrev pub reference_in : List (Value ℕ) → Expr → Option Reference
reference_in globals e = option_and_then reference_of (value_of globals e)

abbrev pub offset_in : List (Value ℕ) → Expr → Option ℕ
offset_in globals e = option_and_then (word_of false) (value_of globals e)

-- ---- allocation

-- all of these, where each is there
abbrev pub all_of : {A : Type 0} → List (Option A) → Option (List A)
all_of [] = Some []
all_of (x ∷ xs) = option_and_then (λ y. option_map (λ ys. y ∷ ys) (all_of xs)) x

-- the globals in the order of their numbers, where those before them have these values: each may name those before it
abbrev pub globals_after : List (Value ℕ) → List GlobalDef → Option (List (Value ℕ))
globals_after done [] = Some done
globals_after done (g ∷ gs) = option_and_then (λ v. globals_after (done ++ v ∷ []) gs) (value_of done g.init)

-- those of a module that imports none
abbrev pub first_globals : Module → Option (List (Value ℕ))
first_globals m = globals_after [] m.globals

-- the references of the element segments
abbrev pub first_elems : Module → List (Value ℕ) → Option (List (List Reference))
first_elems m globals = all_of (map (λ e. all_of (map (reference_in globals) e.items)) m.elems)

-- the tables, of nulls
abbrev pub first_tables : Module → Option (List (List Reference))
first_tables m = all_of (map (λ t. option_map (replicate t.limits.min) (null_of t.kind)) m.tables)

-- the memory, of zeros
abbrev pub first_memory : Module → List ℕ
first_memory m = flat_map (λ limits. replicate (limits.min * page_bytes) 0) m.memories

abbrev pub allocated_with : Module → List (Value ℕ) → Option (Store ℕ)
allocated_with m globals =
    option_and_then (λ elems. option_map (λ tables.
    record { globals = globals; tables = tables; memory = first_memory m; elems = elems; datas = map (λ s. s.bytes) m.segments })
    (first_tables m)) (first_elems m globals)

-- the store before any segment is written
abbrev pub allocated : Module → Option (Store ℕ)
allocated m = option_and_then (allocated_with m) (first_globals m)

-- ---- active segments: each writes its whole contents, or traps and writes nothing, and is dropped

abbrev pub Instantiated : Type 0
Instantiated = Result (Store ℕ) (End ℕ)

abbrev pub with_part : {A : Type 0} → Option A → (A → Instantiated) → Instantiated
with_part None go = Err Stuck
with_part (Some x) go = go x

abbrev pub in_range : ℕ → ℕ → Cause → Instantiated → Instantiated
in_range end size cause next = if nat_lt size end then Err (Traps cause) else next

abbrev pub after : Instantiated → (Store ℕ → Instantiated) → Instantiated
after (Ok s) go = go s
after (Err e) go = Err e

abbrev pub drop_elem : ℕ → Store ℕ → Store ℕ
drop_elem k s = record s { elems = slice_set s.elems k [] }

abbrev pub drop_data : ℕ → Store ℕ → Store ℕ
drop_data k s = record s { datas = slice_set s.datas k [] }

-- the element segment k; a declared one is only dropped
abbrev pub start_elem : ℕ → Mode → Store ℕ → Instantiated
start_elem k Passive s = Ok s
start_elem k Declared s = Ok (drop_elem k s)
start_elem k (Active x offset) s =
    with_part (offset_in s.globals offset) (λ place. with_part (slice_get s.tables x) (λ elements. with_part (slice_get s.elems k) (λ references.
    in_range (place + length references) (length elements) Table
    (Ok (drop_elem k (record s { tables = slice_set s.tables x (written place references elements) }))))))

-- the data segment k
abbrev pub start_data : ℕ → Mode → Store ℕ → Instantiated
start_data k Passive s = Ok s
start_data k Declared s = Ok s
start_data k (Active x offset) s =
    with_part (offset_in s.globals offset) (λ place. with_part (slice_get s.datas k) (λ bytes.
    in_range (place + length bytes) (length s.memory) Memory
    (Ok (drop_data k (record s { memory = written place bytes s.memory })))))

-- the segments from the number k on
abbrev pub start_elems : ℕ → List Elem → Store ℕ → Instantiated
start_elems k [] s = Ok s
start_elems k (e ∷ es) s = after (start_elem k e.mode s) (start_elems (k + 1) es)

abbrev pub start_datas : ℕ → List Segment → Store ℕ → Instantiated
start_datas k [] s = Ok s
start_datas k (d ∷ ds) s = after (start_data k d.mode s) (start_datas (k + 1) ds)

-- the module's store before the start function runs, or how instantiation ends
abbrev pub instantiated : Module → Instantiated
instantiated m = with_part (allocated m) (λ s. after (start_elems 0 m.elems s) (start_datas 0 m.segments))

-- ---- invocation

abbrev pub argument : Argument → Value ℕ
argument (I32Argument n) = I32 n
argument (I64Argument n) = I64 n
argument (FuncArgument f) = Ref (FuncRef f)
argument ExternArgument = Ref ExternRef

abbrev pub start_call : Option ℕ → List Instr
start_call None = []
start_call (Some x) = Call x ∷ []

-- the outermost frame: it holds the arguments, and calls the start function, where there is one, and then the entry
abbrev pub outermost : {W : Type 0} → Module → ℕ → List (Value W) → Frame W
outermost m entry args = record {
  arity = 0;
  locals = [];
  seqs = [];
  here = record { arity = 0; again = []; vals = reverse args; code = start_call m.start ++ Call entry ∷ [] };
  outer = [];
}

abbrev pub invoked : {W : Type 0} → Kind W → Module → ℕ → List Argument → Instantiated → Result (Config W) (End W)
invoked K m entry args (Ok s) = Ok (record {
  store = store_image K.number s;
  frame = outermost m entry (map (λ a. value_image K.number (argument a)) args);
  callers = [];
  answers = [];
  units = 0;
})
invoked K m entry args (Err e) = Err (end_image K.number e)

-- the configuration in which the function entry is to be called with these arguments, or how instantiation ends
abbrev pub first_config : {W : Type 0} → Kind W → Module → ℕ → List Argument → Result (Config W) (End W)
first_config K m entry args = invoked K m entry args (instantiated m)
