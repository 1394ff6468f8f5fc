-- The tree of an expression: there is exactly one, and it has fewer than 2^64 - 1 instructions as it is written.
use Rattle.std.proofs.Common.{◌≡◌, ℕ, zero, suc, ◌+◌, ◌-◌, ◌*◌, ◌^◌, ◌<◌, ◌≤◌, List, [], ◌∷◌, length, take, get_or, refl, sym, ap, ◌∙◌, subst, arith}
use Rattle.std.specs.Prelude.{slice_index, Some, nat_lt, ◌==◌, ◌&&◌, sum_by, unwrap_or}
use Rattle.std.proofs.lemmas.Bool.Decides.{nat_tests}
use Rattle.std.proofs.lemmas.List.{take_more}
use Rattle.std.proofs.lemmas.List.Sums.{sum_by-append, sum_by-cons}
use Rattle.std.proofs.lemmas.Option.{slice_get-get_or}
use Rattle.wasm_ast.specs.declared.instructions.Instr.{Instr}
use Rattle.wasm_ast.specs.declared.instructions.Instr.TheVariants.{Block, Loop, If}
use Rattle.wasm_ast.specs.declared.instructions.Expr.{Expr}
use Rattle.wasm_ast.specs.Numbering.{after, names, AreEnds, IsNumbered}
use Rattle.wasm_ast.specs.Shape.{ExprHasShape}
use Rattle.wasm_ast.proofs.NumberingLemmas.{if_some}
use Rattle.wasm_ast.proofs.InnerSequences.{above_within}
use Rattle.wasm_check.specs.Trees.{Tree, Nothing, Plain, Blocks, Loops, Ifs, IsPlain, seq_of, Makes, IsTreeOf, Token, Ends, Else, by_emptiness, written, body_tokens}

-- ---- there is at most one

pub one-tree : (seqs : List (List Instr)) (instrs : List Instr) (c d : Tree) → Makes seqs instrs c → Makes seqs instrs d → c ≡ d
one-tree seqs instrs Nothing Nothing m n = refl
one-tree seqs instrs Nothing (Plain j d) m n = let e : [] ≡ j ∷ n.0 = sym m ∙ n.1 in cc
one-tree seqs instrs Nothing (Blocks u b d) m n = let e : [] ≡ Block u n.0 ∷ n.1 = sym m ∙ n.2 in cc
one-tree seqs instrs Nothing (Loops u b d) m n = let e : [] ≡ Loop u n.0 ∷ n.1 = sym m ∙ n.2 in cc
one-tree seqs instrs Nothing (Ifs u b o d) m n = let e : [] ≡ If u n.0 n.1 ∷ n.2 = sym m ∙ n.3 in cc
one-tree seqs instrs (Plain i c) Nothing m n = let e : [] ≡ i ∷ m.0 = sym n ∙ m.1 in cc
one-tree seqs instrs (Plain i c) (Plain j d) m n =
    let e : i ∷ m.0 ≡ j ∷ n.0 = sym m.1 ∙ n.1 in
    let rest : n.0 ≡ m.0 = cc in
    let same : c ≡ d = one-tree seqs m.0 c d m.3 (subst (λ x. Makes seqs x d) rest n.3) in
    cc
one-tree seqs instrs (Plain i c) (Blocks u b d) m n =
    let e : i ∷ m.0 ≡ Block u n.0 ∷ n.1 = sym m.1 ∙ n.2 in
    let is : i ≡ Block u n.0 = cc in absurd (subst IsPlain is m.2)
one-tree seqs instrs (Plain i c) (Loops u b d) m n =
    let e : i ∷ m.0 ≡ Loop u n.0 ∷ n.1 = sym m.1 ∙ n.2 in
    let is : i ≡ Loop u n.0 = cc in absurd (subst IsPlain is m.2)
one-tree seqs instrs (Plain i c) (Ifs u b o d) m n =
    let e : i ∷ m.0 ≡ If u n.0 n.1 ∷ n.2 = sym m.1 ∙ n.3 in
    let is : i ≡ If u n.0 n.1 = cc in absurd (subst IsPlain is m.2)
one-tree seqs instrs (Blocks t b c) Nothing m n = let e : [] ≡ Block t m.0 ∷ m.1 = sym n ∙ m.2 in cc
one-tree seqs instrs (Blocks t b c) (Plain j d) m n =
    let e : j ∷ n.0 ≡ Block t m.0 ∷ m.1 = sym n.1 ∙ m.2 in
    let is : j ≡ Block t m.0 = cc in absurd (subst IsPlain is n.2)
one-tree seqs instrs (Blocks t b c) (Blocks u b' d) m n =
    let e : Block t m.0 ∷ m.1 ≡ Block u n.0 ∷ n.1 = sym m.2 ∙ n.2 in
    let number : n.0 ≡ m.0 = cc in
    let rest : n.1 ≡ m.1 = cc in
    let inside : b ≡ b' = one-tree seqs (seq_of seqs m.0) b b' m.3 (subst (λ s. Makes seqs (seq_of seqs s) b') number n.3) in
    let same : c ≡ d = one-tree seqs m.1 c d m.4 (subst (λ x. Makes seqs x d) rest n.4) in
    cc
one-tree seqs instrs (Blocks t b c) (Loops u b' d) m n = let e : Block t m.0 ∷ m.1 ≡ Loop u n.0 ∷ n.1 = sym m.2 ∙ n.2 in cc
one-tree seqs instrs (Blocks t b c) (Ifs u b' o d) m n = let e : Block t m.0 ∷ m.1 ≡ If u n.0 n.1 ∷ n.2 = sym m.2 ∙ n.3 in cc
one-tree seqs instrs (Loops t b c) Nothing m n = let e : [] ≡ Loop t m.0 ∷ m.1 = sym n ∙ m.2 in cc
one-tree seqs instrs (Loops t b c) (Plain j d) m n =
    let e : j ∷ n.0 ≡ Loop t m.0 ∷ m.1 = sym n.1 ∙ m.2 in
    let is : j ≡ Loop t m.0 = cc in absurd (subst IsPlain is n.2)
one-tree seqs instrs (Loops t b c) (Blocks u b' d) m n = let e : Loop t m.0 ∷ m.1 ≡ Block u n.0 ∷ n.1 = sym m.2 ∙ n.2 in cc
one-tree seqs instrs (Loops t b c) (Loops u b' d) m n =
    let e : Loop t m.0 ∷ m.1 ≡ Loop u n.0 ∷ n.1 = sym m.2 ∙ n.2 in
    let number : n.0 ≡ m.0 = cc in
    let rest : n.1 ≡ m.1 = cc in
    let inside : b ≡ b' = one-tree seqs (seq_of seqs m.0) b b' m.3 (subst (λ s. Makes seqs (seq_of seqs s) b') number n.3) in
    let same : c ≡ d = one-tree seqs m.1 c d m.4 (subst (λ x. Makes seqs x d) rest n.4) in
    cc
one-tree seqs instrs (Loops t b c) (Ifs u b' o d) m n = let e : Loop t m.0 ∷ m.1 ≡ If u n.0 n.1 ∷ n.2 = sym m.2 ∙ n.3 in cc
one-tree seqs instrs (Ifs t b o c) Nothing m n = let e : [] ≡ If t m.0 m.1 ∷ m.2 = sym n ∙ m.3 in cc
one-tree seqs instrs (Ifs t b o c) (Plain j d) m n =
    let e : j ∷ n.0 ≡ If t m.0 m.1 ∷ m.2 = sym n.1 ∙ m.3 in
    let is : j ≡ If t m.0 m.1 = cc in absurd (subst IsPlain is n.2)
one-tree seqs instrs (Ifs t b o c) (Blocks u b' d) m n = let e : If t m.0 m.1 ∷ m.2 ≡ Block u n.0 ∷ n.1 = sym m.3 ∙ n.2 in cc
one-tree seqs instrs (Ifs t b o c) (Loops u b' d) m n = let e : If t m.0 m.1 ∷ m.2 ≡ Loop u n.0 ∷ n.1 = sym m.3 ∙ n.2 in cc
one-tree seqs instrs (Ifs t b o c) (Ifs u b' o' d) m n =
    let e : If t m.0 m.1 ∷ m.2 ≡ If u n.0 n.1 ∷ n.2 = sym m.3 ∙ n.3 in
    let first : n.0 ≡ m.0 = cc in
    let second : n.1 ≡ m.1 = cc in
    let rest : n.2 ≡ m.2 = cc in
    let inside : b ≡ b' = one-tree seqs (seq_of seqs m.0) b b' m.4 (subst (λ s. Makes seqs (seq_of seqs s) b') first n.4) in
    let other : o ≡ o' = one-tree seqs (seq_of seqs m.1) o o' m.5 (subst (λ s. Makes seqs (seq_of seqs s) o') second n.5) in
    let same : c ≡ d = one-tree seqs m.2 c d m.6 (subst (λ x. Makes seqs x d) rest n.6) in
    cc

-- ---- how many instructions are written

-- the instructions of a sequence and of all inside it, each end and else among them counted
size : Tree → ℕ
size Nothing = 0
size (Plain i c) = size c + 1
size (Blocks t b c) = size b + size c + 2
size (Loops t b c) = size b + size c + 2
size (Ifs t b o c) = size b + size o + size c + 3

length-written : (c : Tree) (rest : List Token) → length (written c rest) ≤ size c + length rest
unfolding size
length-written Nothing rest = omega arith
length-written (Plain i c) rest = omega (arith, length-written c rest)
length-written (Blocks t b c) rest = omega (arith, length-written b (Ends ∷ written c rest), length-written c rest)
length-written (Loops t b c) rest = omega (arith, length-written b (Ends ∷ written c rest), length-written c rest)
length-written (Ifs t b o c) rest =
    let between : List Token = by_emptiness o (Ends ∷ written c rest) (Else ∷ written o (Ends ∷ written c rest)) in
    let part : length between ≤ size o + length (written c rest) + 2 = second o (length-written o (Ends ∷ written c rest)) in
    omega (arith, length-written b between, part, length-written c rest)
  where
    second : (o : Tree) → length (written o (Ends ∷ written c rest)) ≤ size o + length (Ends ∷ written c rest) →
        length (by_emptiness o (Ends ∷ written c rest) (Else ∷ written o (Ends ∷ written c rest))) ≤ size o + length (written c rest) + 2
    second Nothing h = omega arith
    second (Plain i d) h = omega (arith, h)
    second (Blocks t d e) h = omega (arith, h)
    second (Loops t d e) h = omega (arith, h)
    second (Ifs t d e g) h = omega (arith, h)

-- ---- there is one

-- the instructions of the sequences below k, and one more for each
before : List (List Instr) → ℕ → ℕ
before seqs k = sum_by (λ instrs. length instrs + 1) (take k seqs)

before-more : (seqs : List (List Instr)) (k : ℕ) → k < length seqs → before seqs (k + 1) ≡ before seqs k + (length (get_or seqs k []) + 1)
unfolding before
before-more seqs k lt =
    let last : List (List Instr) = get_or seqs k [] ∷ [] in
    let front = sum_by-append (λ instrs. length instrs + 1) (take k seqs) last in
    let one = sum_by-cons (λ (instrs : List Instr). length instrs + 1) (get_or seqs k []) [] in
    rw (take_more seqs k [] lt) (omega (arith, front, one))

-- the tree of the sequence j, which with all inside it takes the numbers from j to where it ends
abbrev SeqMakes : List (List Instr) → List ℕ → ℕ → Type 0
SeqMakes seqs ends j = (c : Tree) × Makes seqs (seq_of seqs j) c × (size c + 1 + before seqs j ≤ before seqs (slice_index ends j))

-- the tree of instructions, whose sequences take the numbers from m to n
abbrev InstrsMake : List (List Instr) → List Instr → ℕ → ℕ → Type 0
InstrsMake seqs instrs m n = (c : Tree) × Makes seqs instrs c × (size c + before seqs m ≤ length instrs + before seqs n)

abbrev StepsTo : List (List Instr) → List ℕ → ℕ → List ℕ → ℕ → ℕ → Type 0
StepsTo seqs ends s rest m n = (s ≡ m) × (m < length ends) × (after ends rest (slice_index ends m) ≡ Some n)

step : (seqs : List (List Instr)) (ends : List ℕ) (s : ℕ) (rest : List ℕ) (m n : ℕ) → after ends (s ∷ rest) m ≡ Some n → StepsTo seqs ends s rest m n
step seqs ends s rest m n h =
    let w = if_some (s == m && nat_lt m (length ends)) (after ends rest (slice_index ends m)) n h in
    let t = w.0 in
    (grind (arith, nat_tests), grind (arith, nat_tests), w.1)

made : (seqs : List (List Instr)) (ends : List ℕ) (k : ℕ) → ((i : ℕ) → k ≤ i → i < length ends → i < slice_index ends i) → ((i : ℕ) → k ≤ i → i < length ends → SeqMakes seqs ends i) →
    (instrs : List Instr) (m n : ℕ) → k ≤ m → after ends (names instrs) m ≡ Some n → InstrsMake seqs instrs m n
unfolding size
made seqs ends k above each [] m n le h =
    let same : m ≡ n = cc in
    (Nothing, refl, rw same (omega arith))
made seqs ends k above each (Block t s ∷ rest) m n le h =
    let w : StepsTo seqs ends s (names rest) m n = step seqs ends s (names rest) m n h in
    let b : SeqMakes seqs ends m = each m le w.1 in
    let c : InstrsMake seqs rest (slice_index ends m) n = made seqs ends k above each rest (slice_index ends m) n (omega (arith, le, above m le w.1)) w.2 in
    (Blocks t b.0 c.0, (s, rest, refl, subst (λ i. Makes seqs (seq_of seqs i) b.0) (sym w.0) b.1, c.1), omega (arith, b.2, c.2))
made seqs ends k above each (Loop t s ∷ rest) m n le h =
    let w : StepsTo seqs ends s (names rest) m n = step seqs ends s (names rest) m n h in
    let b : SeqMakes seqs ends m = each m le w.1 in
    let c : InstrsMake seqs rest (slice_index ends m) n = made seqs ends k above each rest (slice_index ends m) n (omega (arith, le, above m le w.1)) w.2 in
    (Loops t b.0 c.0, (s, rest, refl, subst (λ i. Makes seqs (seq_of seqs i) b.0) (sym w.0) b.1, c.1), omega (arith, b.2, c.2))
made seqs ends k above each (If t s u ∷ rest) m n le h =
    let w : StepsTo seqs ends s (u ∷ names rest) m n = step seqs ends s (u ∷ names rest) m n h in
    let b : SeqMakes seqs ends m = each m le w.1 in
    let mid : ℕ = slice_index ends m in
    let past : k ≤ mid = omega (arith, le, above m le w.1) in
    let v : StepsTo seqs ends u (names rest) mid n = step seqs ends u (names rest) mid n w.2 in
    let o : SeqMakes seqs ends mid = each mid past v.1 in
    let c : InstrsMake seqs rest (slice_index ends mid) n = made seqs ends k above each rest (slice_index ends mid) n (omega (arith, past, above mid past v.1)) v.2 in
    (Ifs t b.0 o.0 c.0, (s, u, rest, refl, subst (λ i. Makes seqs (seq_of seqs i) b.0) (sym w.0) b.1, subst (λ i. Makes seqs (seq_of seqs i) o.0) (sym v.0) o.1, c.1), omega (arith, b.2, o.2, c.2))
made seqs ends k above each (i ∷ rest) m n le h =
    let c : InstrsMake seqs rest m n = made seqs ends k above each rest m n le h in
    (Plain i c.0, (rest, refl, tt, c.1), omega (arith, c.2))

seq-is : (seqs : List (List Instr)) (j : ℕ) → j < length seqs → get_or seqs j [] ≡ seq_of seqs j
seq-is seqs j lt = ap (λ o. unwrap_or o []) (sym (slice_get-get_or seqs j [] lt))

each_made : (seqs : List (List Instr)) (ends : List ℕ) → AreEnds seqs ends → (d j : ℕ) → length seqs ≤ j + d → j < length seqs → SeqMakes seqs ends j
each_made seqs ends are zero j past lt = absurd (omega arith)
each_made seqs ends are (suc d) j past lt =
    let c : InstrsMake seqs (get_or seqs j []) (j + 1) (slice_index ends j) =
    made seqs ends (j + 1) (λ i le within. above_within seqs ends are (length seqs) i (omega arith) (omega (arith, are.long)))
    (λ i le within. each_made seqs ends are d i (omega arith) (omega (arith, are.long)))
    (get_or seqs j []) (j + 1) (slice_index ends j) (omega arith) (are.each j (get_or seqs j []) (slice_get-get_or seqs j [] lt)) in
    (c.0, subst (λ x. Makes seqs x c.0) (seq-is seqs j lt) c.1, omega (arith, c.2, before-more seqs j lt))

before-short : (seqs : List (List Instr)) → ((k : ℕ) → k < length seqs → length (get_or seqs k []) < 2 ^ 32) → (k : ℕ) → k ≤ length seqs → before seqs k ≤ k * 2 ^ 32
unfolding before
before-short seqs short zero le = omega arith
before-short seqs short (suc k) le =
    let front : before seqs k ≤ k * 2 ^ 32 = before-short seqs short k (omega arith) in
    let next : suc k ≡ k + 1 = omega arith in
    rw next (omega (arith, front, before-more seqs k (omega arith), short k (omega arith)))

abbrev pub HasTree : Expr → Type 0
HasTree e = (c : Tree) × IsTreeOf e c × (length (body_tokens c) < 2 ^ 64 - 1)

pub tree-of : (e : Expr) → ExprHasShape e → HasTree e
tree-of e shape =
    let numbered : IsNumbered e.seqs = shape.numbered in
    let b : SeqMakes e.seqs numbered.ends 0 = each_made e.seqs numbered.ends numbered.are_ends (length e.seqs) 0 (omega arith) numbered.outermost in
    let all : before e.seqs (length e.seqs) ≤ length e.seqs * 2 ^ 32 = before-short e.seqs (λ k lt. (shape.each k [] lt).short) (length e.seqs) (omega arith) in
    let whole : slice_index numbered.ends 0 ≡ length e.seqs = numbered.all_inside in
    (b.0, b.1, omega (arith, length-written b.0 (Ends ∷ []), rw whole at b.2, all, shape.short))
