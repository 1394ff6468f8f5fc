-- How the sequences of an expression are numbered (Structure, Instructions: Control Instructions and Expressions).
--
-- In the standard a control instruction holds the sequences inside it; here it names them by numbers. The sequence 0 is
-- the outermost. The others are numbered in the order in which they open, an if's first sequence with all inside it
-- before its second, and each is named once.
use Rattle.std.specs.Prelude.{◌≡◌, ℕ, ◌+◌, ◌<◌, List, [], ◌∷◌, length, slice_get, slice_index, Option, Some, None, nat_lt, ◌==◌, ◌&&◌, if◌then◌else◌, count_by}
use Rattle.std.specs.List.{flat_map}
use Rattle.wasm_ast.specs.declared.instructions.Instr.{Instr}
use Rattle.wasm_ast.specs.declared.instructions.Instr.TheVariants.{Block, Loop, If}

-- the sequences that an instruction names, in the order in which they open
abbrev pub named_by : Instr → List ℕ
named_by (Block ty body) = body ∷ []
named_by (Loop ty body) = body ∷ []
named_by (If ty first second) = first ∷ second ∷ []
named_by _ = []

-- the sequences that a sequence names
abbrev pub names : List Instr → List ℕ
names instrs = flat_map named_by instrs

-- ends has for each sequence the number that follows its own and those of all inside it. Where sequences with these names
-- open one after another, the first with the number m, this is the number that follows them all; None where a name isn't
-- the number whose turn it is.
abbrev pub after : List ℕ → List ℕ → ℕ → Option ℕ
after ends [] m = Some m
after ends (name ∷ rest) m =
    if name == m && nat_lt m (length ends) then after ends rest (slice_index ends m) else None

-- Each sequence has its own number, and then come those of the sequences that it names, with all inside them.
pub record AreEnds (seqs : List (List Instr)) (ends : List ℕ) : Type 0 where
  pub long : length ends ≡ length seqs
  pub each : (k : ℕ) (instrs : List Instr) → slice_get seqs k ≡ Some instrs
      → after ends (names instrs) (k + 1) ≡ Some (slice_index ends k)

-- There is the sequence 0, and all others are inside it.
pub record IsNumbered (seqs : List (List Instr)) : Type 0 where
  pub outermost : 0 < length seqs
  pub ends : List ℕ
  pub are_ends : AreEnds seqs ends
  pub all_inside : slice_index ends 0 ≡ length seqs

-- how often the instructions of the sequences name a number
abbrev pub times_named : List (List Instr) → ℕ → ℕ
times_named seqs n = count_by (λ name. name == n) (flat_map names seqs)
