-- What is left to print, one step further.
use Rattle.std.proofs.Common.{◌≡◌, ℕ, ◌+◌, ◌*◌, ◌<◌, ◌≤◌, List, [], ◌∷◌, ◌++◌, length, drop, get_or, Option, Some, refl, sym, ap, subst, ◌∙◌, append_assoc, arith, length-append, All}
use Rattle.std.specs.Prelude.{slice_get, codes, flat_map}
use Rattle.std.specs.List.{AllByRecursion as ByRecursion}
use Rattle.std.proofs.lemmas.List.{drop_more, get_or_read}
use Rattle.std.proofs.lemmas.Option.{slice_get-get_or}
use Rattle.wasm_ast.specs.Numbering.{named_by, IsNumbered}
use Rattle.wasm_ast.specs.Shape.{InstrHasShape, SeqHasShape}
use Rattle.wasm_ast.specs.declared.instructions.Instr.{Instr}
use Rattle.wasm_ast.proofs.InnerSequences.{inner}
use Rattle.wasm_text.specs.PrintedInstructions.{head_text, else_part, inside_text, instr_text, sequence_text}
use Rattle.wat_print.specs.declared.expressions.Ending.{Ending}
use Rattle.wat_print.specs.declared.expressions.Open.{Open}
use Rattle.wat_print.specs.code.Walking.{ending_text, left}
use Rattle.wat_print.proofs.SequenceLaws.{are_texts, map_all}

-- no text where there are no instructions, and some where there are
pub empty_text : (before : List ℕ) (seqs : List (List Instr)) (j : ℕ) → IsNumbered seqs → j < length seqs → get_or seqs j [] ≡ [] → sequence_text before 0 seqs j ≡ []
empty_text before seqs j numbered lt empty =
    (are_texts before seqs numbered).each j lt ∙ ap (λ l. flat_map (instr_text before (sequence_text before 0 seqs)) l) empty

some_text : (before : List ℕ) (text : ℕ → List ℕ) (instrs : List Instr) → 0 < length before → (instrs ≡ [] → ⊥) → 0 < length (flat_map (instr_text before text) instrs)
some_text before text [] some ne = absurd (ne refl)
some_text before text (x ∷ instrs) some ne =
    omega (arith, length-append (instr_text before text x) (flat_map (instr_text before text) instrs), length-append (before ++ head_text x) (inside_text before text x), length-append before (head_text x))

else_of : (before text : List ℕ) → 0 < length text → else_part before text ≡ before ++ codes "else" ++ text
else_of before [] some = absurd (omega arith)
else_of before (b ∷ rest) some = refl

pub else_text : (before : List ℕ) (seqs : List (List Instr)) (j : ℕ) → 0 < length before → IsNumbered seqs → j < length seqs → (get_or seqs j [] ≡ [] → ⊥)
    → else_part before (sequence_text before 0 seqs j) ≡ before ++ codes "else" ++ sequence_text before 0 seqs j
else_text before seqs j some numbered lt ne =
    let text = sequence_text before 0 seqs in
    else_of before (text j) (omega (arith, ap length ((are_texts before seqs numbered).each j lt), some_text before text (get_or seqs j []) some ne))

-- a sequence is opened
pub opened : (before : List ℕ) (seqs : List (List Instr)) (j : ℕ) (ending : Ending) (outer : List Open) → IsNumbered seqs → j < length seqs
    → left before seqs (record { seq = j; at = 0; ending = ending } ∷ outer)
    ≡ sequence_text before 0 seqs j ++ ending_text before (sequence_text before 0 seqs) ending ++ left before seqs outer
opened before seqs j ending outer numbered lt =
    let text = sequence_text before 0 seqs in
    let rest = left before seqs outer in
    ap (λ t. t ++ (ending_text before text ending ++ rest)) (sym ((are_texts before seqs numbered).each j lt))
    ∙ sym (append_assoc (text j) (ending_text before text ending) rest)

-- an instruction is printed, and the sequence that it opens
pub next_left : (before : List ℕ) (seqs : List (List Instr)) (o : Open) (x : Instr) (outer : List Open) → o.at < length (get_or seqs o.seq []) → x ≡ get_or (get_or seqs o.seq []) o.at x
    → left before seqs (o ∷ outer)
    ≡ (before ++ head_text x) ++ (inside_text before (sequence_text before 0 seqs) x ++ left before seqs (record { seq = o.seq; at = o.at + 1; ending = o.ending } ∷ outer))
next_left before seqs o x outer lt is =
    let text = sequence_text before 0 seqs in
    let instrs = get_or seqs o.seq [] in
    let rest = flat_map (instr_text before text) (drop (o.at + 1) instrs) in
    let after = ending_text before text o.ending ++ left before seqs outer in
    let here : drop o.at instrs ≡ x ∷ drop (o.at + 1) instrs = drop_more instrs o.at x lt ∙ ap (λ y. y ∷ drop (o.at + 1) instrs) (sym is) in
    ap (λ l. flat_map (instr_text before text) l ++ after) here
    ∙ append_assoc ((before ++ head_text x) ++ inside_text before text x) rest after
    ∙ append_assoc (before ++ head_text x) (inside_text before text x) (rest ++ after)

-- the sequences inside an instruction are there
pub inside_there : (seqs : List (List Instr)) (k i : ℕ) (x : Instr) → IsNumbered seqs → k < length seqs → i < length (get_or seqs k []) → x ≡ get_or (get_or seqs k []) i x → ByRecursion (λ j. j < length seqs) (named_by x)
inside_there seqs k i x numbered lt within is =
    map_all (λ n. (k + 1 ≤ n) × (n < length seqs)) (λ n. n < length seqs) (named_by x) (λ n h. h.1)
    (inner seqs k i (get_or seqs k []) x numbered (slice_get-get_or seqs k [] lt) lt within is)

-- an element that was read
pub read_is : (seqs : List (List Instr)) (j : ℕ) (x : List Instr) → j < length seqs → x ≡ get_or seqs j x → get_or seqs j [] ≡ x
read_is seqs j x lt is = sym (get_or_read seqs j x lt is [])

pub next_is : (instrs : List Instr) (i : ℕ) (x : Instr) → i < length instrs → slice_get instrs i ≡ Some x → x ≡ get_or instrs i x
next_is instrs i x lt e = some_is x (get_or instrs i x) (sym e ∙ slice_get-get_or instrs i x lt)
  where
    some_is : (a b : Instr) → (let p : Option Instr = Some a in p) ≡ Some b → a ≡ b
    some_is a b e = cc

-- the shape of an instruction that was read
pub shape_of : (seqs : List (List Instr)) (k i : ℕ) (x : Instr) → All SeqHasShape seqs → k < length seqs → i < length (get_or seqs k []) → x ≡ get_or (get_or seqs k []) i x → InstrHasShape x
shape_of seqs k i x shape lt within is =
    subst InstrHasShape (sym is) ((shape k [] lt).each i x within)

-- what was printed is gone from what is left
pub shorter : (a b x y : List ℕ) (m n : ℕ) → a ++ x ≡ b ++ y → 2 * length b + m < 2 * length a + n → 2 * length x + m < 2 * length y + n
shorter a b x y m n e lt = omega (arith, ap length e, length-append a x, length-append b y)
