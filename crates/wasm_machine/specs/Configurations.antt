-- The configuration that a state of the machine stands for, with the bytes of the memory beside it.
use Rattle.std.specs.Prelude.{ℕ, zero, suc, ◌+◌, ◌<◌, ◌≤◌, ◌^◌, List, [], ◌∷◌, ◌++◌, Bool, true, false, map, take, drop, length, reverse, slice_get, Option, Some, None}
use Rattle.std.specs.Option.{option_map_or}
use Rattle.wasm_ast.specs.declared.instructions.Instr.{Instr}
use Rattle.wasm_ast.specs.declared.instructions.Instr.TheVariants.{Call}
use Rattle.wasm_ast.specs.declared.modules.Segment.{Segment}
use Rattle.wasm_ast.specs.declared.modules.Module.{Module}
use Rattle.wasm_reduction.specs.Configurations.{Value, Store, Label, Frame, Config}
use Rattle.wasm_check.specs.Trees.{seq_of}
use Rattle.wasm_reduction.specs.Instantiation.{start_call}
use Rattle.wasm_machine.specs.declared.machine.Label.{Label as CodeLabel}
use Rattle.wasm_machine.specs.declared.machine.Frame.{Frame as CodeFrame}
use Rattle.wasm_machine.specs.declared.values.Value.{Value as CodeValue}
use Rattle.wasm_machine.specs.States.{State}
use Rattle.wasm_machine.specs.Values.{reference, value}

-- ---- code

-- the sequences of the body of a function of the module's own; the outermost frame has none
abbrev pub seqs_of : Module → Option ℕ → List (List Instr)
seqs_of m None = []
seqs_of m (Some f) = option_map_or (λ g. g.body.seqs) (slice_get m.funcs f) []

-- the instructions of a sequence; the outermost frame calls the start function, where there is one, and then the entry
abbrev pub code_of : Module → ℕ → Option ℕ → ℕ → List Instr
code_of m entry None seq = start_call m.start ++ Call entry ∷ []
code_of m entry (Some f) seq = seq_of (seqs_of m (Some f)) seq

-- which function the outermost frame calls at a place of its code
abbrev pub outer_call_of : Option ℕ → ℕ → ℕ → Option ℕ
outer_call_of None entry zero = Some entry
outer_call_of None entry (suc place) = None
outer_call_of (Some start) entry zero = Some start
outer_call_of (Some start) entry (suc zero) = Some entry
outer_call_of (Some start) entry (suc (suc place)) = None

-- ---- labels, where code gives the instructions of each sequence

-- What a branch to a label puts before what follows: for a loop, the instruction that the label around it waits at.
abbrev pub again_of : (ℕ → List Instr) → Bool → List CodeLabel → List Instr
again_of code false ps = []
again_of code true [] = []
again_of code true (p ∷ ps) = take 1 (drop p.place (code p.seq))

-- the label k that goes on at a place, with the labels ps around it; its operands are those above its height
abbrev pub label_of : {W : Type 0} → (ℕ → List Instr) → CodeLabel → ℕ → List CodeLabel → List (Value W) → Label W
label_of code k place ps ops = record { arity = k.arity; again = again_of code k.again ps; vals = reverse (drop k.height ops); code = drop place (code k.seq) }

-- labels that wait past their control instructions, the innermost first
abbrev pub labels_of : {W : Type 0} → (ℕ → List Instr) → List CodeLabel → List (Value W) → List (Label W)
labels_of code [] ops = []
labels_of code (k ∷ ks) ops = label_of code k (k.place + 1) ks ops ∷ labels_of code ks (take k.height ops)

-- ---- frames

-- the waiting labels of a frame, the innermost first
abbrev pub enclosing_labels : CodeFrame → List CodeLabel → List CodeLabel
enclosing_labels p labels = reverse (drop p.labels labels)

abbrev pub frame_of : {W : Type 0} → Module → ℕ → CodeFrame → List CodeLabel → List (Value W) → List (Value W) → Frame W
frame_of m entry p labels ops locals = record {
  arity = p.arity;
  locals = drop p.base locals;
  seqs = seqs_of m p.func;
  here = label_of (code_of m entry p.func) p.here p.here.place (enclosing_labels p labels) ops;
  outer = labels_of (code_of m entry p.func) (enclosing_labels p labels) (take p.here.height ops);
}

-- frames, the innermost first
abbrev pub frames_of : {W : Type 0} → Module → ℕ → List CodeFrame → List CodeLabel → List (Value W) → List (Value W) → List (Frame W)
frames_of m entry [] labels ops locals = []
frames_of m entry (p ∷ ps) labels ops locals =
    frame_of m entry p labels ops locals ∷ frames_of m entry ps (take p.labels labels) (take p.floor ops) (take p.base locals)

-- ---- the store

-- the bytes of the data segments that are not dropped
abbrev pub datas_of : List Bool → List Segment → List (List ℕ)
datas_of [] segments = []
datas_of (d ∷ ds) [] = [] ∷ datas_of ds []
datas_of (true ∷ ds) (g ∷ gs) = [] ∷ datas_of ds gs
datas_of (false ∷ ds) (g ∷ gs) = g.bytes ∷ datas_of ds gs

abbrev pub store_of : {W : Type 0} → Module → List W → State (Value W) → Store W
store_of m bytes s = record {
  globals = s.globals;
  tables = map (λ t. map reference t) s.tables;
  memory = bytes;
  elems = map (λ t. map reference t) s.elems;
  datas = datas_of s.dropped m.segments;
}

abbrev pub config_of : {W : Type 0} → Module → List W → State (Value W) → Config W
config_of m bytes s = record {
  store = store_of m bytes s;
  frame = frame_of m s.entry s.frame s.labels s.operands s.locals;
  callers = frames_of m s.entry (reverse s.callers) (take s.frame.labels s.labels) (take s.frame.floor s.operands) (take s.frame.base s.locals);
  answers = s.answers;
  units = s.units;
}

-- ---- the meaning of a state

-- with the values' meanings in place of the values, where h says what a word means
abbrev pub image : {V W : Type 0} → (V → W) → State (CodeValue V) → State (Value W)
image h s = record {
  operands = map (value h) s.operands;
  locals = map (value h) s.locals;
  labels = s.labels;
  frame = s.frame;
  callers = s.callers;
  globals = map (value h) s.globals;
  tables = s.tables;
  elems = s.elems;
  dropped = s.dropped;
  answers = s.answers;
  units = s.units;
  entry = s.entry;
}

-- The configuration that the state stands for, where h says what a word means, and the memory has these bytes.
abbrev pub configuration : {V W : Type 0} → (V → W) → Module → List W → State (CodeValue V) → Config W
configuration h m bytes s = config_of m bytes (image h s)

-- ---- states in order

-- the heights of labels fall, down to the floor of their frame
abbrev pub Fall : ℕ → List CodeLabel → ℕ → Type 0
Fall floor [] n = floor ≤ n
Fall floor (k ∷ ks) n = (k.height ≤ n) × Fall floor ks k.height

-- a frame lies within these lists
pub record IsFrameWellFormed {X : Type 0} (p : CodeFrame) (labels : List CodeLabel) (ops locals : List X) : Type 0 where
  pub height : p.here.height ≤ length ops
  pub falls : Fall p.floor (enclosing_labels p labels) p.here.height
  pub labels_within : p.labels ≤ length labels
  pub base_within : p.base ≤ length locals

abbrev pub AreFramesWellFormed : {X : Type 0} → List CodeFrame → List CodeLabel → List X → List X → Type 0
AreFramesWellFormed [] labels ops locals = Unit {0}
AreFramesWellFormed (p ∷ ps) labels ops locals = IsFrameWellFormed p labels ops locals × AreFramesWellFormed ps (take p.labels labels) (take p.floor ops) (take p.base locals)

-- each place can be counted on
abbrev pub Short : List CodeLabel → Type 0
Short [] = Unit {0}
Short (p ∷ ps) = (p.place + 1 < 2 ^ 64) × Short ps

pub record IsWellFormed {X : Type 0} (s : State X) : Type 0 where
  pub frame : IsFrameWellFormed s.frame s.labels s.operands s.locals
  pub callers : AreFramesWellFormed (reverse s.callers) (take s.frame.labels s.labels) (take s.frame.floor s.operands) (take s.frame.base s.locals)
  pub short : Short s.labels
