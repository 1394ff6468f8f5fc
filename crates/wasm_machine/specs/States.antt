-- The machine's state as plain data, over any type of values.
use Rattle.std.specs.Prelude.{ℕ, ◌+◌, List, [], ◌∷◌, Bool, drop, reverse}
use Rattle.wasm_machine.specs.declared.values.Reference.{Reference}
use Rattle.wasm_machine.specs.declared.machine.Label.{Label}
use Rattle.wasm_machine.specs.declared.machine.Frame.{Frame}

-- The operands and the locals of all frames, and the labels that wait, lie each in one list, the outermost frame's first.
-- The innermost label lies in its frame.
pub record State (X : Type 0) : Type 0 where
  pub operands : List X
  pub locals : List X
  pub labels : List Label
  pub frame : Frame
  -- the frames that wait, the outermost first
  pub callers : List Frame
  pub globals : List X
  pub tables : List (List Reference)
  pub elems : List (List Reference)
  -- which data segments are dropped
  pub dropped : List Bool
  -- the answers that the next instruction has had
  pub answers : List ℕ
  pub units : ℕ
  -- the function that the outermost frame calls
  pub entry : ℕ

-- the operands of the innermost label, the last first
abbrev pub own : {X : Type 0} → State X → List X
own s = reverse (drop s.frame.here.height s.operands)

-- what an instruction costs: nothing in the outermost frame
abbrev pub cost : List Frame → ℕ
cost [] = 0
cost (f ∷ fs) = 1

-- past the next instruction
abbrev pub passed : {X : Type 0} → State X → State X
passed s = record s {
  frame = record (s.frame) { here = record (s.frame.here) { place = s.frame.here.place + 1 } };
  answers = [];
  units = s.units + cost s.callers;
}
