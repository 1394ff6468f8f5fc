-- What is left to print of an expression where some of its sequences are open.
use Rattle.std.specs.Prelude.{ℕ, List, [], ◌∷◌, ◌++◌, ◌<◌, length, drop, slice_index_or, flat_map, codes}
use Rattle.wasm_ast.specs.declared.instructions.Instr.{Instr}
use Rattle.wasm_text.specs.PrintedInstructions.{instr_text, sequence_text}
use Rattle.wat_print.specs.declared.expressions.Ending.{Ending}
use Rattle.wat_print.specs.declared.expressions.Ending.TheVariants.{Nothing, End, Else}
use Rattle.wat_print.specs.declared.expressions.Open.{Open}

-- what follows the instructions of a sequence
abbrev pub ending_text : List ℕ → (ℕ → List ℕ) → Ending → List ℕ
ending_text before text Nothing = []
ending_text before text End = before ++ codes "end"
ending_text before text (Else other) = before ++ codes "else" ++ text other ++ before ++ codes "end"

-- the sequence after an else is there
abbrev pub EndsWell : List (List Instr) → Ending → Type 0
EndsWell seqs Nothing = Unit {0}
EndsWell seqs End = Unit {0}
EndsWell seqs (Else other) = other < length seqs

-- its sequences are there
pub record IsGood (seqs : List (List Instr)) (o : Open) : Type 0 where
  pub there : o.seq < length seqs
  pub ending : EndsWell seqs o.ending

-- what is left of the instructions of a sequence
abbrev pub rest_of : List (List Instr) → Open → List Instr
rest_of seqs o = drop o.at (slice_index_or seqs o.seq [])

-- what is left to print, with the innermost open sequence first
abbrev pub left : List ℕ → List (List Instr) → List Open → List ℕ
left before seqs [] = []
left before seqs (o ∷ outer) =
    flat_map (instr_text before (sequence_text before 0 seqs)) (rest_of seqs o)
    ++ (ending_text before (sequence_text before 0 seqs) o.ending ++ left before seqs outer)
