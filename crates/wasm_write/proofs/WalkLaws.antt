-- What is left to write, one step further.
use Rattle.std.proofs.Common.{◌≡◌, ℕ, ◌+◌, ◌<◌, ◌≤◌, List, [], ◌∷◌, ◌++◌, length, drop, get_or, Option, Some, refl, sym, ap, ◌∙◌, append-nil, append_assoc, arith, length-append}
use Rattle.std.specs.Prelude.{slice_get}
use Rattle.std.specs.List.{flat_map, AllByRecursion as ByRecursion}
use Rattle.std.proofs.lemmas.List.{drop_more, get_or_read}
use Rattle.std.proofs.lemmas.Option.{slice_get-get_or}
use Rattle.wasm_ast.specs.Numbering.{named_by, IsNumbered}
use Rattle.wasm_ast.specs.declared.instructions.Instr.{Instr}
use Rattle.wasm_ast.specs.declared.instructions.Instr.TheVariants.{Block, Loop, If}
use Rattle.wasm_ast.proofs.InnerSequences.{inner}
use Rattle.wasm_write.specs.declared.expressions.Open.{Open}
use Rattle.wasm_write.specs.Types.{block_type_bytes}
use Rattle.wasm_write.specs.Instructions.{else_part, instr_bytes, text_of}
use Rattle.wasm_write.specs.Writing.{front_bytes, tail_bytes, ending, left}
use Rattle.wasm_write.proofs.SequencesSpelled.{instr_some, else_of}
use Rattle.wasm_write.proofs.TextLaws.{are_texts, map_all}

-- an instruction is its front and what is inside it
pub front_and_tail : (text : ℕ → List ℕ) (x : Instr) → instr_bytes text x ≡ front_bytes x ++ tail_bytes text x
front_and_tail text (Block ty body) = append_assoc (0x02 ∷ block_type_bytes ty) (text body) (0x0B ∷ [])
front_and_tail text (Loop ty body) = append_assoc (0x03 ∷ block_type_bytes ty) (text body) (0x0B ∷ [])
front_and_tail text (If ty first other) = simp append_assoc refl
front_and_tail text x = sym (append-nil (front_bytes x))

-- no text where there are no instructions, and some where there are
pub empty_text : (seqs : List (List Instr)) (j : ℕ) → IsNumbered seqs → j < length seqs → get_or seqs j [] ≡ [] → text_of 0 seqs j ≡ []
empty_text seqs j numbered lt empty = (are_texts seqs numbered).each j lt ∙ ap (λ l. flat_map (instr_bytes (text_of 0 seqs)) l) empty

some_bytes : (text : ℕ → List ℕ) (instrs : List Instr) → (instrs ≡ [] → ⊥) → 0 < length (flat_map (instr_bytes text) instrs)
some_bytes text [] ne = absurd (ne refl)
some_bytes text (x ∷ instrs) ne = omega (arith, instr_some text x, length-append (instr_bytes text x) (flat_map (instr_bytes text) instrs))

pub else_text : (seqs : List (List Instr)) (j : ℕ) → IsNumbered seqs → j < length seqs → (get_or seqs j [] ≡ [] → ⊥) → else_part (text_of 0 seqs j) ≡ 0x05 ∷ text_of 0 seqs j
else_text seqs j numbered lt ne =
    let text = text_of 0 seqs in
    else_of (text j) (omega (arith, ap length ((are_texts seqs numbered).each j lt), some_bytes text (get_or seqs j []) ne))

-- a sequence is opened
pub opened : (seqs : List (List Instr)) (j : ℕ) (other : Option ℕ) (open_before : List Open) → IsNumbered seqs → j < length seqs
    → left seqs (record { seq = j; at = 0; other = other } ∷ open_before) ≡ text_of 0 seqs j ++ ending (text_of 0 seqs) other ++ left seqs open_before
opened seqs j other open_before numbered lt =
    let text = text_of 0 seqs in
    let rest = left seqs open_before in
    ap (λ t. t ++ (ending text other ++ rest)) (sym ((are_texts seqs numbered).each j lt)) ∙ sym (append_assoc (text j) (ending text other) rest)

-- an instruction is written, and the sequence that it opens
pub next_left : (seqs : List (List Instr)) (o : Open) (x : Instr) (outer : List Open) → o.at < length (get_or seqs o.seq []) → x ≡ get_or (get_or seqs o.seq []) o.at x
    → left seqs (o ∷ outer) ≡ front_bytes x ++ (tail_bytes (text_of 0 seqs) x ++ left seqs (record { seq = o.seq; at = o.at + 1; other = o.other } ∷ outer))
next_left seqs o x outer lt is =
    let text = text_of 0 seqs in
    let instrs = get_or seqs o.seq [] in
    let rest = flat_map (instr_bytes text) (drop (o.at + 1) instrs) in
    let after = ending text o.other ++ left seqs outer in
    let here : drop o.at instrs ≡ x ∷ drop (o.at + 1) instrs = drop_more instrs o.at x lt ∙ ap (λ y. y ∷ drop (o.at + 1) instrs) (sym is) in
    ap (λ l. flat_map (instr_bytes text) l ++ after) here
    ∙ ap (λ t. t ++ rest ++ after) (front_and_tail text x)
    ∙ append_assoc (front_bytes x ++ tail_bytes text x) rest after
    ∙ append_assoc (front_bytes x) (tail_bytes text x) (rest ++ after)

-- the sequences inside an instruction are there
pub inside_there : (seqs : List (List Instr)) (k i : ℕ) (x : Instr) → IsNumbered seqs → k < length seqs → i < length (get_or seqs k []) → x ≡ get_or (get_or seqs k []) i x → ByRecursion (λ j. j < length seqs) (named_by x)
inside_there seqs k i x numbered lt within is =
    map_all (λ n. (k + 1 ≤ n) × (n < length seqs)) (λ n. n < length seqs) (named_by x) (λ n h. h.1)
    (inner seqs k i (get_or seqs k []) x numbered (slice_get-get_or seqs k [] lt) lt within is)

-- an element that was read
pub read_is : (seqs : List (List Instr)) (j : ℕ) (x : List Instr) → j < length seqs → x ≡ get_or seqs j x → get_or seqs j [] ≡ x
read_is seqs j x lt is = sym (get_or_read seqs j x lt is [])

pub next_is : (instrs : List Instr) (i : ℕ) (x : Instr) → i < length instrs → slice_get instrs i ≡ Some x → x ≡ get_or instrs i x
next_is instrs i x lt e = some_is x (get_or instrs i x) (sym e ∙ slice_get-get_or instrs i x lt)
  where
    some_is : (a b : Instr) → (let p : Option Instr = Some a in p) ≡ Some b → a ≡ b
    some_is a b e = cc

-- what was written is gone from what is left
pub shorter : (a b x y : List ℕ) → a ++ x ≡ b ++ y → length b < length a → length x < length y
shorter a b x y e lt = omega (arith, ap length e, length-append a x, length-append b y)
