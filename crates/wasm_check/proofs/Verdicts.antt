-- The checker's loop: how far it has come.
use Rattle.std.proofs.Common.{◌≡◌, ℕ, ◌+◌, ◌-◌, ◌^◌, ◌<◌, List, [], ◌∷◌, length, refl, ap, ◌∙◌, arith}
use Rattle.std.specs.Prelude.{Bool, true, false, Option, Some, None, MatchOption}
use Rattle.wasm_ast.specs.declared.instructions.Instr.{Instr}
use Rattle.wasm_ast.specs.declared.instructions.Expr.{Expr}
use Rattle.wasm_ast.specs.Shape.{ExprHasShape}
use Rattle.wasm_check.specs.Contexts.{Context}
use Rattle.wasm_check.specs.declared.walk.Place.{Place}
use Rattle.wasm_check.specs.declared.walk.Written.{Written}
use Rattle.wasm_check.specs.declared.walk.Written.TheVariants.{Instruction, Other, End, Over}
use Rattle.wasm_check.specs.Trees.{Tree, Token, Else, Ends, seq_of, Makes, body_tokens}
use Rattle.wasm_check.specs.code.Checker.{Open, reads, fault, fault_after, later, start_of, SomeBy}
use Rattle.wasm_check.specs.code.Progress.{IsWritten, after, HasCome, IsFoundIn, BodyPasses, BodyStopsAt}
use Rattle.wasm_check.specs.code.Walk.{Left, NextIs, token_of}
use Rattle.wasm_check.proofs.TreeLemmas.{HasTree, tree-of}
use Rattle.wasm_check.proofs.Faults.{passed-valid, named-first}

after-zero : (o : Option ℕ) → o ≡ after 0 o
after-zero None = refl
after-zero (Some m) = ap (λ n. Some n) (let e : m ≡ 0 + m = omega arith in e)

after-later : (n : ℕ) (o : Option ℕ) → after n (later o) ≡ after (n + 1) o
after-later n None = refl
after-later n (Some m) = ap (λ k. Some k) (let e : n + (m + 1) ≡ n + 1 + m = omega arith in e)

pub come-start : (C : Context) (seqs : List (List Instr)) → HasCome C seqs (record { seq = 0; at = 0; other = None } ∷ []) (start_of C) 0
come-start C seqs c b = (body_tokens c, (c, Ends ∷ [], [], b, refl, refl, refl), (let e : length (body_tokens c) ≡ 0 + length (body_tokens c) = omega arith in e), after-zero _)

abbrev Written_next : List (List Instr) → Written → List Token → List Place → Type 0
Written_next seqs w ts ps = (t : Token) × (rest : List Token) × (ts ≡ t ∷ rest) × IsWritten seqs w t × Left seqs ps rest

next-written : (seqs : List (List Instr)) (w : Written) (ts : List Token) (ps : List Place) → (w ≡ Over → ⊥) → NextIs seqs w ts ps → Written_next seqs w ts ps
next-written seqs (Instruction s at) ts ps n h = (token_of h.0, h.1, h.3, (h.0, h.2, refl), h.4)
next-written seqs Other ts ps n h = (Else, h.0, h.1, refl, h.2)
next-written seqs End ts ps n h = (Ends, h.0, h.1, refl, h.2)
next-written seqs Over ts ps n h = absurd (n refl)

abbrev pub Walks : List (List Instr) → Written → List Place → List Place → Type 0
Walks seqs w ps qs = (ts : List Token) → Left seqs ps ts → NextIs seqs w ts qs

abbrev pub Reads : Context → List (List Instr) → Written → Bool → List Open → List Open → Type 0
Reads C seqs w b os next = (t : Token) → IsWritten seqs w t → SomeBy b (reads C t os) next

pub come-on : (C : Context) (seqs : List (List Instr)) (ps qs : List Place) (os next : List Open) (at : ℕ) (w : Written) → HasCome C seqs ps os at → Walks seqs w ps qs → (w ≡ Over → ⊥) → Reads C seqs w true os next → HasCome C seqs qs next (at + 1)
come-on C seqs ps qs os next at w h k n r c b =
    let g : (ts : List Token) × Left seqs ps ts × (length (body_tokens c) ≡ at + length ts) × (fault C (body_tokens c) (start_of C) ≡ after at (fault C ts os)) = h c b in
    let v : Written_next seqs w g.0 qs = next-written seqs w g.0 qs n (k g.0 g.1) in (
      v.1,
      v.4,
      (let e : length (body_tokens c) ≡ at + 1 + length v.1 = omega (arith, g.2, ap (λ l. length l) v.2) in e),
      g.3 ∙ ap (λ l. after at (fault C l os)) v.2 ∙ ap (λ o. after at (fault_after o (fault C v.1))) (r v.0 v.3) ∙ after-later at (fault C v.1 next),
    )

pub come-fault : (C : Context) (seqs : List (List Instr)) (ps qs : List Place) (os next : List Open) (at : ℕ) (w : Written) → HasCome C seqs ps os at → Walks seqs w ps qs → (w ≡ Over → ⊥) → Reads C seqs w false os next →
    (c : Tree) → Makes seqs (seq_of seqs 0) c → length (body_tokens c) < 2 ^ 64 - 1 → fault C (body_tokens c) (start_of C) ≡ Some at
come-fault C seqs ps qs os next at w h k n r c b short =
    let g : (ts : List Token) × Left seqs ps ts × (length (body_tokens c) ≡ at + length ts) × (fault C (body_tokens c) (start_of C) ≡ after at (fault C ts os)) = h c b in
    let v : Written_next seqs w g.0 qs = next-written seqs w g.0 qs n (k g.0 g.1) in
    g.3 ∙ ap (λ l. after at (fault C l os)) v.2 ∙ ap (λ o. after at (fault_after o (fault C v.1))) (r v.0 v.3) ∙ ap (λ n. Some n) (let e : at + 0 ≡ at = omega arith in e)

-- what is found of the body of an expression with shape: it is valid, or its first fault is at this place
pub found : (C : Context) (e : Expr) (r : Option ℕ) → ExprHasShape e → IsFoundIn C e.seqs r → MatchOption r (BodyPasses C e) (BodyStopsAt C e)
found C e None shape h =
    let t : HasTree e = tree-of e shape in
    (t.0, t.1, passed-valid C t.0 (h t.0 t.1 t.2))
found C e (Some at) shape h =
    let t : HasTree e = tree-of e shape in
    (t.0, t.1, named-first C t.0 at (h t.0 t.1 t.2))
