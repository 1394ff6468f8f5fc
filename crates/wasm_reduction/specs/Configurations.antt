-- Configurations: a store and a thread (Execution, Runtime Structure), over any kind of words.
use Rattle.std.specs.Prelude.{ℕ, Bool, List, Option}
use Rattle.wasm_ast.specs.declared.instructions.Instr.{Instr}
use Rattle.wasm_ast.specs.declared.runs.Cause.{Cause}

-- A reference: of type funcref, null or to the function of an index; or the null of type externref, which has no other.
pub data Reference : Type 0 where
  FuncRef : Option ℕ → Reference
  ExternRef : Reference

-- A value: an integer of type i32 or i64, which is a word, or a reference.
pub data Value (W : Type 0) : Type 0 where
  I32 : W → Value W
  I64 : W → Value W
  Ref : Reference → Value W

-- The store: the values of the globals, the elements of each table, the bytes of the memory, each of them a word, and the
-- contents of the element segments and of the data segments. Of a dropped segment nothing is left.
pub record Store (W : Type 0) : Type 0 where
  pub globals : List (Value W)
  pub tables : List (List Reference)
  pub memory : List W
  pub elems : List (List Reference)
  pub datas : List (List ℕ)

-- A label: how many values a branch to it carries, and which instructions the branch puts before those outside it, none or
-- its loop again; its operands, the last first; and the instructions that remain in it.
pub record Label (W : Type 0) : Type 0 where
  pub arity : ℕ
  pub again : List Instr
  pub vals : List (Value W)
  pub code : List Instr

-- A frame, of the call of a function: how many results it gives, its locals, the sequences of its body by their numbers,
-- its innermost label, and those around that. The last of them is the body's.
pub record Frame (W : Type 0) : Type 0 where
  pub arity : ℕ
  pub locals : List (Value W)
  pub seqs : List (List Instr)
  pub here : Label W
  pub outer : List (Label W)

-- A configuration: the store; the frame that runs, and those that wait for it, the innermost first; the answers that the
-- next instruction has had to its questions; and the units that are spent. The outermost frame is no function's. It stands
-- for whoever runs the module, and its instructions call the start function and then the exported one.
pub record Config (W : Type 0) : Type 0 where
  pub store : Store W
  pub frame : Frame W
  pub callers : List (Frame W)
  pub answers : List ℕ
  pub units : ℕ

-- What is asked of a word: whether it isn't 0; which number it is; whether it isn't 0, as an assumption.
pub data Question : Type 0 where
  Test : Question
  Pick : Question
  Assume : Question

-- How a thread ends: with results, by a trap, by a failed `assert` or a failed `assume`. Stuck is where the standard has no
-- rule; valid modules never come to it.
pub data End (W : Type 0) : Type 0 where
  Returns : List (Value W) → End W
  Traps : Cause → End W
  Fails : End W
  Assumes : End W
  Stuck : End W

-- What one step does: it goes on; it goes on with a new symbol as its next operand, an i64 where wide, else an i32; it
-- asks a question of a word; or it ends.
pub data Next (W : Type 0) : Type 0 where
  Goes : Config W → Next W
  Draws : Bool → Config W → Next W
  Asks : Question → W → Next W
  Ends : End W → Next W
