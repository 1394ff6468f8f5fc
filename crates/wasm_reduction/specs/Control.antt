-- Control instructions and calls (Execution, Instructions: Control Instructions, Blocks, Function Calls).
use Rattle.std.specs.Prelude.{ℕ, ◌+◌, Bool, true, false, List, [], ◌∷◌, ◌++◌, drop, length, reverse, slice_get, Option, Some, None}
use Rattle.wasm_ast.specs.declared.types.FuncType.{FuncType}
use Rattle.wasm_ast.specs.declared.types.BlockType.{BlockType}
use Rattle.wasm_ast.specs.declared.instructions.Instr.{Instr}
use Rattle.wasm_ast.specs.declared.instructions.Instr.TheVariants.{Loop}
use Rattle.wasm_ast.specs.declared.runs.Cause.TheVariants.{Undefined, Uninitialized, Mismatch}
use Rattle.wasm_ast.specs.declared.modules.Func.{Func}
use Rattle.wasm_ast.specs.declared.modules.Module.{Module}
use Rattle.wasm_rules.specs.Words.{Kind}
use Rattle.wasm_reduction.specs.Configurations.{Reference, FuncRef, ExternRef, Value, Label, Frame, Config, Returns, Traps, Fails, Assumes, Stuck, Next, Goes, Draws, Ends}
use Rattle.wasm_check.specs.Trees.{seq_of}
use Rattle.wasm_image.specs.declared.hosts.Host.{Host}
use Rattle.wasm_image.specs.declared.hosts.Host.TheVariants.{SymbolI32, SymbolI64, Assume, Assert}
use Rattle.wasm_reduction.specs.Functions.{Body, Code, Imported, Function, functions, type_of, same_function_type, block_type, first_locals}
use Rattle.wasm_reduction.specs.Combinators.{holding, with_found, with_word, with_last, testing, assuming}
use Rattle.wasm_reduction.specs.Ranges.{indexing}

-- ---- labels and frames end

-- values for the operands of a label
abbrev pub given : {W : Type 0} → List (Value W) → Label W → Label W
given vs l = record l { vals = vs ++ l.vals }

-- the end of a frame, with its results, the last first
abbrev pub give_back : {W : Type 0} → Config W → List (Value W) → List (Frame W) → Next W
give_back c vs [] = Ends (Returns (reverse vs))
give_back c vs (f ∷ fs) = Goes (record c { frame = record f { here = given vs f.here }; callers = fs })

-- the end of a label, or of the function's body and so of the frame
abbrev pub finish : {W : Type 0} → Config W → List (Value W) → List (Label W) → Next W
finish c vs [] = give_back c vs c.callers
finish c vs (l ∷ ls) = Goes (record c { frame = record (c.frame) { here = given vs l; outer = ls } })

-- ---- blocks

-- a new label inside the innermost one, whose operands rest stay: what a branch to it carries and puts before what follows,
-- and its instructions
abbrev pub entering : {W : Type 0} → Config W → List (Value W) → List (Value W) → ℕ → List Instr → List Instr → Next W
entering c params rest arity again code =
    Goes (record c {
      frame = record (c.frame) {
        here = record { arity = arity; again = again; vals = params; code = code };
        outer = record (c.frame.here) { vals = rest } ∷ c.frame.outer;
      };
    })

-- a branch to a block's label carries its results, and goes on after it
abbrev pub block : {W : Type 0} → Module → Config W → List (Value W) → BlockType → ℕ → Next W
block m c vs ty body =
    with_found (block_type m ty) (λ t. with_last (length t.params) vs (λ params rest.
    entering c params rest (length t.results) [] (seq_of c.frame.seqs body)))

-- a branch to a loop's label carries its params, and goes on with the loop
abbrev pub loop : {W : Type 0} → Module → Config W → List (Value W) → BlockType → ℕ → Next W
loop m c vs ty body =
    with_found (block_type m ty) (λ t. with_last (length t.params) vs (λ params rest.
    entering c params rest (length t.params) (Loop ty body ∷ []) (seq_of c.frame.seqs body)))

-- if, whose condition is tested: the first sequence where it isn't 0, else the other
abbrev pub if_else : {W : Type 0} → Module → Config W → List (Value W) → List ℕ → BlockType → ℕ → ℕ → Next W
if_else m c vs ns ty first other =
    with_word false vs (λ condition rest. testing condition ns (λ ns. block m c rest ty other) (λ ns. block m c rest ty first))

-- ---- branches

-- a branch to the first of these labels, of which the last is the body's
abbrev pub branch : {W : Type 0} → Config W → List (Value W) → List (Label W) → Next W
branch c vs [] = Ends Stuck
branch c vs (t ∷ []) = with_last t.arity vs (λ carried rest. give_back c carried c.callers)
branch c vs (t ∷ l ∷ ls) =
    with_last t.arity vs (λ carried rest.
    Goes (record c { frame = record (c.frame) { here = given carried (record l { code = t.again ++ l.code }); outer = ls } }))

-- br
abbrev pub br : {W : Type 0} → Config W → List (Value W) → ℕ → Next W
br c vs l = branch c vs (drop l (c.frame.here ∷ c.frame.outer))

-- br_if, whose condition is tested
abbrev pub br_if : {W : Type 0} → Config W → List (Value W) → List ℕ → ℕ → Next W
br_if c vs ns l =
    with_word false vs (λ condition rest. testing condition ns (λ ns. Goes (holding c rest)) (λ ns. br c rest l))

-- The label at the index's place: i32.ne of the index and each place from k on is tested, up to the first answer 0.
abbrev pub choosing : {W : Type 0} → Kind W → W → ℕ → List ℕ → ℕ → List ℕ → (ℕ → Next W) → Next W
choosing K index k [] last ns go = go last
choosing K index k (l ∷ ls) last ns go =
    testing (K.binary 0x47 index (K.number k)) ns (λ ns. go l) (λ ns. choosing K index (k + 1) ls last ns go)

-- br_table
abbrev pub br_table : {W : Type 0} → Kind W → Config W → List (Value W) → List ℕ → List ℕ → ℕ → Next W
br_table K c vs ns labels last =
    with_word false vs (λ index rest. choosing K index 0 labels last ns (λ l. br c rest l))

-- return
abbrev pub return : {W : Type 0} → Config W → List (Value W) → Next W
return c vs = with_last c.frame.arity vs (λ results rest. give_back c results c.callers)

-- ---- calls

-- the frame of a call: the arguments and then the other locals, and the body's label
abbrev pub frame_of : {W : Type 0} → Kind W → FuncType → Func → List (Value W) → Frame W
frame_of K t f args = record {
  arity = length t.results;
  locals = args ++ first_locals K f.locals;
  seqs = f.body.seqs;
  here = record { arity = length t.results; again = []; vals = []; code = seq_of f.body.seqs 0 };
  outer = [];
}

-- A call of a host function makes no frame. A symbol is drawn; `assume` asks to assume its operand; `assert` tests it, and
-- fails where the answer is 0.
abbrev pub calling_host : {W : Type 0} → Config W → List (Value W) → List ℕ → Option Host → Next W
calling_host c vs ns None = Ends Stuck
calling_host c vs ns (Some SymbolI32) = Draws false (holding c vs)
calling_host c vs ns (Some SymbolI64) = Draws true (holding c vs)
calling_host c vs ns (Some Assume) =
    with_word false vs (λ condition rest. assuming condition ns (Ends Assumes) (Goes (holding c rest)))
calling_host c vs ns (Some Assert) =
    with_word false vs (λ condition rest. testing condition ns (λ ns. Ends Fails) (λ ns. Goes (holding c rest)))

-- a call of a function with code makes a frame
abbrev pub calling : {W : Type 0} → Kind W → Module → Config W → List (Value W) → List ℕ → Function → Body → Next W
calling K m c vs ns f (Imported host) = calling_host c vs ns host
calling K m c vs ns f (Code code) =
    with_found (type_of m f) (λ t. with_last (length t.params) vs (λ args rest.
    Goes (record c { frame = frame_of K t code (reverse args); callers = (holding c rest).frame ∷ c.callers })))

-- call
abbrev pub call : {W : Type 0} → Kind W → Module → Config W → List (Value W) → List ℕ → ℕ → Next W
call K m c vs ns x = with_found (slice_get (functions m) x) (λ f. calling K m c vs ns f f.body)

abbrev pub calling_of_type : {W : Type 0} → Kind W → Module → Config W → List (Value W) → List ℕ → Function → Bool → Next W
calling_of_type K m c vs ns f true = calling K m c vs ns f f.body
calling_of_type K m c vs ns f false = Ends (Traps Mismatch)

-- a call of what a reference is to, where that has the type
abbrev pub calling_reference : {W : Type 0} → Kind W → Module → Config W → List (Value W) → List ℕ → FuncType → Reference → Next W
calling_reference K m c vs ns type ExternRef = Ends Stuck
calling_reference K m c vs ns type (FuncRef None) = Ends (Traps Uninitialized)
calling_reference K m c vs ns type (FuncRef (Some x)) =
    with_found (slice_get (functions m) x) (λ f. with_found (type_of m f) (λ t.
    calling_of_type K m c vs ns f (same_function_type t type)))

-- call_indirect
abbrev pub call_indirect : {W : Type 0} → Kind W → Module → Config W → List (Value W) → List ℕ → ℕ → ℕ → Next W
call_indirect K m c vs ns ty x =
    with_found (slice_get m.types ty) (λ type. with_found (slice_get c.store.tables x) (λ elements.
    with_word false vs (λ index rest. indexing K Undefined index elements ns (λ i reference ns.
    calling_reference K m c rest ns type reference))))
