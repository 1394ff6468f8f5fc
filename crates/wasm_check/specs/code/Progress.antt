-- How far the checker has come with a body, beside the walk through it. No public contract speaks of it.
use Rattle.std.specs.Prelude.{◌≡◌, ℕ, ◌+◌, ◌-◌, ◌^◌, ◌<◌, List, Option, Some, None, slice_get, length}
use Rattle.wasm_ast.specs.declared.instructions.Instr.{Instr}
use Rattle.wasm_check.specs.declared.walk.Place.{Place}
use Rattle.wasm_check.specs.declared.walk.Written.{Written}
use Rattle.wasm_check.specs.declared.walk.Written.TheVariants.{Instruction, Other, End, Over}
use Rattle.wasm_check.specs.code.Checker.{Open, fault, start_of}
use Rattle.wasm_check.specs.Contexts.{Context}
use Rattle.wasm_ast.specs.declared.instructions.Expr.{Expr}
use Rattle.wasm_check.specs.Instructions.{IsValidBody}
use Rattle.wasm_check.specs.Faults.{IsFirstFault}
use Rattle.wasm_check.specs.Trees.{Tree, Token, Else, Ends, seq_of, Makes, IsTreeOf, body_tokens}
use Rattle.wasm_check.specs.code.Walk.{Left, token_of}

-- what is written next, as a token
abbrev pub IsWritten : List (List Instr) → Written → Token → Type 0
IsWritten seqs (Instruction s at) t = (i : Instr) × (slice_get (seq_of seqs s) at ≡ Some i) × (t ≡ token_of i)
IsWritten seqs Other t = t ≡ Else
IsWritten seqs End t = t ≡ Ends
IsWritten seqs Over t = ⊥

-- a place so many instructions further on
abbrev pub after : ℕ → Option ℕ → Option ℕ
after n None = None
after n (Some m) = Some (n + m)

-- how far the checker has come with the tree that the sequences make
abbrev pub HasCome : Context → List (List Instr) → List Place → List Open → ℕ → Type 0
HasCome C seqs ps os at =
    (c : Tree) → Makes seqs (seq_of seqs 0) c → (ts : List Token) × Left seqs ps ts × (length (body_tokens c) ≡ at + length ts)
    × (fault C (body_tokens c) (start_of C) ≡ after at (fault C ts os))

-- what is found of the body whose sequences these are: the place of the first instruction that the checker refuses
abbrev pub IsFoundIn : Context → List (List Instr) → Option ℕ → Type 0
IsFoundIn C seqs r =
    (c : Tree) → Makes seqs (seq_of seqs 0) c → length (body_tokens c) < 2 ^ 64 - 1
    → fault C (body_tokens c) (start_of C) ≡ r

-- in this context the body is valid
abbrev pub BodyPasses : Context → Expr → Type 0
BodyPasses C e = (c : Tree) × IsTreeOf e c × IsValidBody C c

-- in this context the body's first fault is at this place
abbrev pub BodyStopsAt : Context → Expr → ℕ → Type 0
BodyStopsAt C e at = (c : Tree) × IsTreeOf e c × IsFirstFault C (body_tokens c) at
