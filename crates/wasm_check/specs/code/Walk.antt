-- What is left to walk of an expression, by the places in the open sequences. No public contract speaks of it.
use Rattle.std.specs.Prelude.{◌≡◌, ℕ, List, [], ◌∷◌, Option, Some, None, slice_get, drop}
use Rattle.wasm_ast.specs.declared.instructions.Instr.{Instr}
use Rattle.wasm_ast.specs.declared.instructions.Instr.TheVariants.{Block, Loop, If}
use Rattle.wasm_check.specs.declared.walk.Place.{Place}
use Rattle.wasm_check.specs.declared.walk.Written.{Written}
use Rattle.wasm_check.specs.declared.walk.Written.TheVariants.{Instruction, Other, End, Over}
use Rattle.wasm_check.specs.Trees.{Tree, Token, Does, Opens_block, Opens_loop, Opens_if, Else, Ends, by_emptiness, written, seq_of, Makes}

-- what follows a sequence that ends, before more
abbrev pub Closing : List (List Instr) → Option ℕ → List Token → List Token → Type 0
Closing seqs None more end = end ≡ Ends ∷ more
Closing seqs (Some u) more end = (o : Tree) × Makes seqs (seq_of seqs u) o × (end ≡ by_emptiness o (Ends ∷ more) (Else ∷ written o (Ends ∷ more)))

-- these instructions are left, the innermost place first
abbrev pub Left : List (List Instr) → List Place → List Token → Type 0
Left seqs [] ts = ts ≡ []
Left seqs (p ∷ ps) ts =
    (c : Tree) × (end more : List Token) × Makes seqs (drop p.at (seq_of seqs p.seq)) c × (ts ≡ written c end) × Closing seqs p.other more end × Left seqs ps more

-- an instruction as it is written
abbrev pub token_of : Instr → Token
token_of (Block t b) = Opens_block t
token_of (Loop t b) = Opens_loop t
token_of (If t b o) = Opens_if t
token_of i = Does i

-- the next of the instructions ts, after which the places are ps
abbrev pub NextIs : List (List Instr) → Written → List Token → List Place → Type 0
NextIs seqs (Instruction s at) ts ps = (i : Instr) × (rest : List Token) × (slice_get (seq_of seqs s) at ≡ Some i) × (ts ≡ token_of i ∷ rest) × Left seqs ps rest
NextIs seqs Other ts ps = (rest : List Token) × (ts ≡ Else ∷ rest) × Left seqs ps rest
NextIs seqs End ts ps = (rest : List Token) × (ts ≡ Ends ∷ rest) × Left seqs ps rest
NextIs seqs Over ts ps = ts ≡ []

-- the places after an instruction
abbrev pub opened_by : Instr → List Place → List Place
opened_by (Block t b) ps = record { seq = b; at = 0; other = None } ∷ ps
opened_by (Loop t b) ps = record { seq = b; at = 0; other = None } ∷ ps
opened_by (If t b o) ps = record { seq = b; at = 0; other = Some o } ∷ ps
opened_by i ps = ps
