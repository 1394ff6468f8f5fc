-- What is left to write of an expression where some of its sequences are open, and what is said of sections that are put one
-- after another. Only the functions inside this crate speak of these.
use Rattle.std.specs.Prelude.{◌≡◌, ℕ, List, [], ◌∷◌, ◌++◌, ◌<◌, length, drop, slice_index_or, IfSome, Option, Some, None, Result, Ok, Err, ◌==◌, if◌then◌else◌}
use Rattle.std.specs.List.{flat_map}
use Rattle.wasm_ast.specs.declared.instructions.Instr.{Instr}
use Rattle.wasm_ast.specs.declared.instructions.Instr.TheVariants.{Block, Loop, If}
use Rattle.wasm_write.specs.declared.expressions.Open.{Open}
use Rattle.wasm_ast.specs.declared.modules.Custom.{Custom}
use Rattle.wasm_ast.specs.declared.modules.Module.{Module}
use Rattle.wasm_write.specs.declared.WriteBad.{WriteBad}
use Rattle.wasm_write.specs.declared.WriteBad.TheVariants.{TooLong, NoMemory}
use Rattle.wasm_write.specs.Modules.{Section, section_of, custom_section, customs_after, section_bytes, first_long}
use Rattle.wasm_write.specs.Types.{block_type_bytes}
use Rattle.wasm_write.specs.Instructions.{else_part, instr_bytes, text_of}

-- what stands before the sequences inside an instruction: all of it, where it holds none
abbrev pub front_bytes : Instr → List ℕ
front_bytes (Block ty body) = 0x02 ∷ block_type_bytes ty
front_bytes (Loop ty body) = 0x03 ∷ block_type_bytes ty
front_bytes (If ty first other) = 0x04 ∷ block_type_bytes ty
front_bytes instr = instr_bytes (λ j. []) instr

-- the sequences inside it and its end
abbrev pub tail_bytes : (ℕ → List ℕ) → Instr → List ℕ
tail_bytes text (Block ty body) = text body ++ 0x0B ∷ []
tail_bytes text (Loop ty body) = text body ++ 0x0B ∷ []
tail_bytes text (If ty first other) = text first ++ else_part (text other) ++ 0x0B ∷ []
tail_bytes text instr = []

-- what follows the instructions of a sequence: an end, or an else with another sequence before it
abbrev pub ending : (ℕ → List ℕ) → Option ℕ → List ℕ
ending text None = 0x0B ∷ []
ending text (Some other) = 0x05 ∷ text other ++ 0x0B ∷ []

-- its sequences are there
pub record IsGood (seqs : List (List Instr)) (o : Open) : Type 0 where
  pub there : o.seq < length seqs
  pub other : IfSome o.other (λ j. j < length seqs)

-- what is left of the instructions of a sequence
abbrev pub rest_of : List (List Instr) → Open → List Instr
rest_of seqs o = drop o.at (slice_index_or seqs o.seq [])

-- what is left to write, with the innermost open sequence first
abbrev pub left : List (List Instr) → List Open → List ℕ
left seqs [] = []
left seqs (o ∷ outer) =
    flat_map (instr_bytes (text_of 0 seqs)) (rest_of seqs o) ++ (ending (text_of 0 seqs) o.other ++ left seqs outer)

-- ---- sections

-- What is said of sections that were to be put after bytes: they are there, and none is too long; or the first that is too
-- long is named.
abbrev pub ArePut : List Section → List ℕ → List ℕ → Result (Unit {0}) WriteBad → Type 0
ArePut sections before after (Ok _) = (first_long sections ≡ None) × (after ≡ before ++ flat_map section_bytes sections)
ArePut sections before after (Err (TooLong id)) = first_long sections ≡ Some id
ArePut sections before after (Err NoMemory) = Unit {0}

-- a custom section, where it stands after this slot
abbrev pub custom_at : ℕ → Custom → List Section
custom_at slot c = if c.after == slot then custom_section c ∷ [] else []

-- the sections of a slot and the custom sections after it
abbrev pub with_customs : Module → ℕ → List Section
with_customs m slot = section_of m slot ++ customs_after m slot
