-- Sequences of instructions as the standard writes them, one inside the other, and their instructions in the order in
-- which they are written (Structure, Instructions: Control Instructions and Expressions; Binary Format, Instructions).
--
-- A module as data keeps the sequences of an expression apart, by number. Here they are put together: `Makes` says which
-- tree the numbered sequences make.
use Rattle.std.specs.Prelude.{◌≡◌, ℕ, List, [], ◌∷◌, unwrap_or, slice_get}
use Rattle.wasm_ast.specs.declared.types.BlockType.{BlockType}
use Rattle.wasm_ast.specs.declared.instructions.Instr.{Instr}
use Rattle.wasm_ast.specs.declared.instructions.Instr.TheVariants.{Block, Loop, If}
use Rattle.wasm_ast.specs.declared.instructions.Expr.{Expr}

-- a sequence of instructions: the first one, with the sequences inside it, and the others
pub data Tree : Type 0 where
  Nothing : Tree
  Plain : Instr → Tree → Tree
  Blocks : BlockType → Tree → Tree → Tree
  Loops : BlockType → Tree → Tree → Tree
  Ifs : BlockType → Tree → Tree → Tree → Tree

-- ---- the tree of numbered sequences

-- an instruction with no sequence inside it
abbrev pub IsPlain : Instr → Type 0
IsPlain (Block t b) = ⊥
IsPlain (Loop t b) = ⊥
IsPlain (If t b o) = ⊥
IsPlain _ = Unit {0}

-- the sequence of a number
abbrev pub seq_of : List (List Instr) → ℕ → List Instr
seq_of seqs s = unwrap_or (slice_get seqs s) []

-- among these numbered sequences, the instructions make the tree
abbrev pub Makes : List (List Instr) → List Instr → Tree → Type 0
Makes seqs instrs Nothing = instrs ≡ []
Makes seqs instrs (Plain i c) =
    (rest : List Instr) × (instrs ≡ i ∷ rest) × IsPlain i × Makes seqs rest c
Makes seqs instrs (Blocks t b c) =
    (s : ℕ) × (rest : List Instr) × (instrs ≡ Block t s ∷ rest) × Makes seqs (seq_of seqs s) b × Makes seqs rest c
Makes seqs instrs (Loops t b c) =
    (s : ℕ) × (rest : List Instr) × (instrs ≡ Loop t s ∷ rest) × Makes seqs (seq_of seqs s) b × Makes seqs rest c
Makes seqs instrs (Ifs t b o c) =
    (s u : ℕ) × (rest : List Instr) × (instrs ≡ If t s u ∷ rest)
    × Makes seqs (seq_of seqs s) b × Makes seqs (seq_of seqs u) o × Makes seqs rest c

-- the tree of an expression
abbrev pub IsTreeOf : Expr → Tree → Type 0
IsTreeOf e c = Makes e.seqs (seq_of e.seqs 0) c

-- ---- the instructions as they are written

-- an instruction as it is written, a control instruction without what is inside it; `else` and `end` count as instructions
pub data Token : Type 0 where
  Does : Instr → Token
  Opens_block : BlockType → Token
  Opens_loop : BlockType → Token
  Opens_if : BlockType → Token
  Else : Token
  Ends : Token

-- xs for the empty sequence, ys for another
abbrev pub by_emptiness : Tree → List Token → List Token → List Token
by_emptiness Nothing xs ys = xs
by_emptiness _ xs ys = ys

-- a sequence as it is written, and what follows it; the `else` of an empty part isn't written
abbrev pub written : Tree → List Token → List Token
written Nothing rest = rest
written (Plain i c) rest = Does i ∷ written c rest
written (Blocks t b c) rest = Opens_block t ∷ written b (Ends ∷ written c rest)
written (Loops t b c) rest = Opens_loop t ∷ written b (Ends ∷ written c rest)
written (Ifs t b o c) rest =
    Opens_if t ∷ written b (by_emptiness o (Ends ∷ written c rest) (Else ∷ written o (Ends ∷ written c rest)))

-- a body as it is written, with its end
abbrev pub body_tokens : Tree → List Token
body_tokens c = written c (Ends ∷ [])
