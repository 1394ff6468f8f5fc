-- What the operands that the code keeps stand for: runs of them, each one operand or the first types of a list of the module.
-- No public contract speaks of them.
use Rattle.std.specs.Prelude.{List, [], ◌∷◌, ◌++◌, Bool, take, reverse, map}
use Rattle.wasm_ast.specs.declared.types.FuncType.{FuncType}
use Rattle.type_suffixes.specs.declared.lists.Listed.{Listed}
use Rattle.wasm_check.specs.declared.operands.Operand.{Operand}
use Rattle.wasm_check.specs.declared.stack.Run.{Run}
use Rattle.wasm_check.specs.declared.stack.Run.TheVariants.{Single, First}
use Rattle.wasm_check.specs.declared.stack.Stack.{Stack as Runs}
use Rattle.wasm_check.specs.declared.stack.Peek.{Peek}
use Rattle.wasm_check.specs.declared.open.OpenSeq.{OpenSeq}
use Rattle.wasm_check.specs.Operands.{operands}
use Rattle.type_suffixes.specs.Lists.{listed}
use Rattle.wasm_check.specs.Instructions.{Labels}
use Rattle.wasm_check.specs.code.Checker.{Stack, Open, labels_of}

-- the operands of a run, the last first
abbrev pub run_of : List FuncType → Run → List Operand
run_of types (Single t) = t ∷ []
run_of types (First list count) = operands (take count (listed types list))

-- of runs, the last first
abbrev pub runs_of : List FuncType → List Run → List Operand
runs_of types [] = []
runs_of types (r ∷ rs) = run_of types r ++ runs_of types rs

-- the last run, and those below it
abbrev pub held : List FuncType → Bool → Run → List Run → Stack
held types dead last below = record { dead = dead; ops = run_of types last ++ runs_of types below }

-- the operands of a stack
unfoldable pub known : List FuncType → Runs → Stack
known types s = held types s.dead s.last (reverse s.below.items)

-- and of a look at one
unfoldable pub peeked : List FuncType → Peek → Stack
peeked types p = held types p.dead p.last (reverse p.below.now)

-- an open sequence
unfoldable pub open_of : List FuncType → OpenSeq → Open
open_of types o = record {
  label = listed types o.label;
  params = listed types o.params;
  results = listed types o.results;
  first = o.first;
  stack = known types o.stack;
}

-- open sequences, the innermost last in the code
unfoldable pub open_seqs : List FuncType → List OpenSeq → List Open
open_seqs types seqs = reverse (map (open_of types) seqs)

-- the types of the labels of an open sequence and of those around it
abbrev pub labels_in : List FuncType → Listed → List OpenSeq → Labels
labels_in types own outer = listed types own ∷ labels_of (open_seqs types outer)
