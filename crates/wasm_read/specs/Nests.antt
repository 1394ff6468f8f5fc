-- The sequences that are open while an expression is read, and what the expression is once they end as the grammar says.
use Rattle.std.specs.Prelude.{◌≡◌, ℕ, suc, ◌+◌, ◌<◌, List, [], ◌∷◌, ◌++◌, length, All, slice_set, Bool, true, false, if◌then◌else◌, Result, Ok, Err, ◌==◌, MatchResult, IfSome}
use Rattle.grammar_forms.specs.Forms.{Window, read_on, gives, when◌form◌else◌}
use Rattle.wasm_ast.specs.declared.instructions.Instr.{Instr}
use Rattle.wasm_ast.specs.declared.instructions.Instr.TheVariants.{Block, Loop, If}
use Rattle.wasm_ast.specs.declared.instructions.Expr.{Expr}
use Rattle.wasm_ast.specs.declared.types.BlockType.{BlockType}
use Rattle.wasm_binary.specs.Faults.{Fault}
use Rattle.wasm_binary.specs.Instructions.{Opcode, Around, Sequences, empty_sequence, all_of, after_opcode, sequence_below}
use Rattle.wasm_read.specs.declared.enclosing.Opener.{Opener}
use Rattle.wasm_read.specs.declared.enclosing.Opener.TheVariants.{Block as BlockOpens, Loop as LoopOpens, Then, Else}
use Rattle.wasm_read.specs.declared.bad.ReadBad.{ReadBad}
use Rattle.wasm_read.specs.Refusals.{fault_of}

abbrev pub Seqs : Type 0
Seqs = List (List Instr)

-- a sequence that is open, with another open inside it: its number, what was read of it, and what opened the one inside
pub record Enclosing : Type 0 where
  pub number : ℕ
  pub instrs : List Instr
  pub opener : Opener

pub record Nest : Type 0 where
  -- the sequences that were opened, by their numbers; one that is open is empty here
  pub seqs : Seqs
  -- the number of the innermost open sequence, and what was read of it
  pub number : ℕ
  pub instrs : List Instr
  -- the open sequences around it, the nearest first
  pub outer : List Enclosing

-- each open sequence has its place
pub record IsNest (n : Nest) : Type 0 where
  pub inner : n.number < length n.seqs
  pub outer : All (λ v. v.number < length n.seqs) n.outer

-- ---- its changes

-- the outermost sequence, of which nothing was read
abbrev pub first_nest : Nest
first_nest = record { seqs = [] ∷ []; number = 0; instrs = []; outer = [] }

abbrev pub pushed : Instr → Nest → Nest
pushed instr n = record n { instrs = n.instrs ++ instr ∷ [] }

abbrev pub opened : Opener → Nest → Nest
opened opener n = record {
  seqs = n.seqs ++ [] ∷ [];
  number = length n.seqs;
  instrs = [];
  outer = record { number = n.number; instrs = n.instrs; opener = opener } ∷ n.outer;
}

-- the sequences once the innermost has ended
abbrev pub written : Nest → Seqs
written n = slice_set n.seqs n.number n.instrs

-- back in the sequence that waited
abbrev pub back_in : Enclosing → List Enclosing → Seqs → List Instr → Nest
back_in v outer seqs instrs = record { seqs = seqs; number = v.number; instrs = instrs; outer = outer }

-- An if whose first sequence has ended stands in the innermost sequence. Its second sequence is open after an else, and
-- empty without one.
abbrev pub ended_first : BlockType → ℕ → Bool → Nest → Nest
ended_first ty number true n = opened Else (pushed (If ty number (length n.seqs)) n)
ended_first ty number false n = record (pushed (If ty number (length n.seqs)) n) { seqs = n.seqs ++ [] ∷ [] }

-- after a sequence of this number has ended: the instruction that it belongs to stands in the sequence that waited
abbrev pub closed_in : Opener → Enclosing → List Enclosing → ℕ → Bool → Seqs → Nest
closed_in (BlockOpens ty) v outer number by_else seqs = back_in v outer seqs (v.instrs ++ Block ty number ∷ [])
closed_in (LoopOpens ty) v outer number by_else seqs = back_in v outer seqs (v.instrs ++ Loop ty number ∷ [])
closed_in (Then ty) v outer number by_else seqs = ended_first ty number by_else (back_in v outer seqs v.instrs)
closed_in Else v outer number by_else seqs = back_in v outer seqs v.instrs

-- after the innermost of these open sequences has ended
abbrev pub closed_to : List Enclosing → ℕ → Bool → Seqs → Nest
closed_to [] number by_else seqs = record { seqs = seqs; number = number; instrs = []; outer = [] }
closed_to (v ∷ outer) number by_else seqs = closed_in v.opener v outer number by_else seqs

abbrev pub closed : Bool → Nest → Nest
closed by_else n = closed_to n.outer n.number by_else (written n)

-- no sequence is around the innermost
abbrev pub is_alone : List Enclosing → Bool
is_alone [] = true
is_alone (v ∷ outer) = false

-- what the opcodes 02, 03 and 04 open
abbrev pub opener_for : ℕ → BlockType → Opener
opener_for first ty = if first == 0x02 then BlockOpens ty else (if first == 0x03 then LoopOpens ty else Then ty)

-- ---- what the expression is

-- an else may end the first sequence of an if alone
abbrev pub is_then : Opener → Bool
is_then (Then ty) = true
is_then opener = false

abbrev pub in_if : List Enclosing → Bool
in_if [] = false
in_if (v ∷ outer) = is_then v.opener

-- the grammar's sequences, deep enough for the window
abbrev pub sequences_of : Window Fault → Bool → Sequences
sequences_of w has_data_count = sequence_below (suc (length w.bytes)) has_data_count

abbrev pub Answer : Type 0
Answer = Result (Expr × ℕ) Fault

-- what follows the end of a sequence, by its number, whether an else ended it, and all sequences
abbrev pub Ending : Type 0
Ending = ℕ → Bool → Seqs → ℕ → Answer

-- the rest of a sequence, and then its ending
abbrev pub rest_of : Window Fault → Bool → Bool → ℕ → Ending → List Instr → Seqs → ℕ → Answer
rest_of w has_data_count in_if number ending instrs seqs at =
    read_on ((sequences_of w has_data_count in_if (length seqs)).read w at)
    (λ s next. ending number s.by_else (slice_set seqs number (instrs ++ s.instrs) ++ s.inside) next)

-- the ending of a sequence by what opened it: the rest of the sequence around it, after the second sequence of an if
abbrev pub ended_by : Window Fault → Bool → Opener → (List Instr → Seqs → ℕ → Answer) → List Instr → Ending
ended_by w has_data_count (BlockOpens ty) rest instrs number by_else seqs at = rest (instrs ++ Block ty number ∷ []) seqs at
ended_by w has_data_count (LoopOpens ty) rest instrs number by_else seqs at = rest (instrs ++ Loop ty number ∷ []) seqs at
ended_by w has_data_count (Then ty) rest instrs number by_else seqs at =
    read_on ((when by_else form sequences_of w has_data_count false (length seqs + 1) else gives empty_sequence).read w at)
    (λ second next. rest (instrs ++ If ty number (length seqs) ∷ []) (seqs ++ all_of second) next)
ended_by w has_data_count Else rest instrs number by_else seqs at = rest instrs seqs at

unfoldable pub ending : Window Fault → Bool → List Enclosing → Ending
ending w has_data_count [] number by_else seqs at = Ok (record { seqs = seqs }, at)
ending w has_data_count (v ∷ outer) number by_else seqs at =
    ended_by w has_data_count v.opener (rest_of w has_data_count (in_if outer) v.number (ending w has_data_count outer)) v.instrs number by_else seqs at

-- what reading on from a place gives
unfoldable pub rest : Window Fault → Bool → Nest → ℕ → Answer
rest w has_data_count n at = rest_of w has_data_count (in_if n.outer) n.number (ending w has_data_count n.outer) n.instrs n.seqs at

-- where an opcode stands
abbrev pub around : Bool → Nest → Around
around has_data_count n = record { has_data_count = has_data_count; else_may_follow = in_if n.outer }

-- what reading on after an opcode gives
unfoldable pub after : Window Fault → Bool → Nest → Opcode → ℕ → Answer
after w has_data_count n op at =
    read_on ((after_opcode (sequences_of w has_data_count) (sequences_of w has_data_count (in_if n.outer)) op (length n.seqs)).read w at)
    (λ s next. ending w has_data_count n.outer n.number s.by_else (slice_set n.seqs n.number (n.instrs ++ s.instrs) ++ s.inside) next)

-- the expression where its outermost sequence has ended, or what reading on gives
abbrev pub turned : Window Fault → Bool → Nest → Bool → ℕ → Answer
turned w has_data_count n true at = Ok (record { seqs = n.seqs }, at)
turned w has_data_count n false at = rest w has_data_count n at

-- a turn leads from what was to be given to what is
abbrev pub LeadsTo : Answer → Window Fault → Bool → Nest → Result (Bool × ℕ) ReadBad → Type 0
LeadsTo given w has_data_count n result =
    MatchResult result (λ x. given ≡ turned w has_data_count n x.0 x.1) (λ bad. IfSome (fault_of bad) (λ fault. given ≡ Err fault))
