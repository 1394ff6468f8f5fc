-- What is written for a sequence and for an expression is a spelling of it.
use Rattle.std.proofs.Common.{◌≡◌, ℕ, zero, suc, ◌+◌, ◌-◌, ◌<◌, ◌≤◌, Bool, true, false, List, [], ◌∷◌, ◌++◌, length, take, drop, get_or, Option, Some, None, All, refl, sym, ap, subst, ◌∙◌, append-nil, append_assoc, arith, length-append, length-drop}
use Rattle.std.specs.Prelude.{◌==◌, ◌&&◌, nat_lt, slice_get, slice_index, option_and_then}
use Rattle.std.specs.List.{flat_map, AllByRecursion as ByRecursion}
use Rattle.std.proofs.lemmas.Bool.{eqb-true, ltb-true}
use Rattle.std.proofs.lemmas.List.{drop_more, drop-drop, length-take-le, take_all}
use Rattle.std.proofs.lemmas.Option.{slice_get-get_or}
use Rattle.grammar_forms.specs.Forms.{◌>>=◌, checked}
use Rattle.wasm_ast.specs.Sections.{names_data}
use Rattle.wasm_ast.specs.Numbering.{after, names, named_by, AreEnds}
use Rattle.wasm_ast.specs.Shape.{InstrHasShape, ExprHasShape}
use Rattle.wasm_ast.specs.declared.types.BlockType.{BlockType}
use Rattle.wasm_ast.specs.declared.instructions.Instr.{Instr}
use Rattle.wasm_ast.specs.declared.instructions.Instr.TheVariants.{Block, Loop, If}
use Rattle.wasm_ast.specs.declared.instructions.Expr.{Expr}
use Rattle.wasm_ast.proofs.NumberingLemmas.{if_some, after-append}
use Rattle.wasm_binary.specs.Types.{block_type}
use Rattle.wasm_binary.specs.Instructions.{Opcode, opcode, Around, is_opcode, allowed, Sequence, empty_sequence, all_of, WithInside, block_of, if_of, instruction, is_last, sequence_below, expression}
use Rattle.wasm_write.specs.Types.{block_type_bytes}
use Rattle.wasm_write.specs.Instructions.{else_part, instr_bytes, text_of, expr_bytes}
use Rattle.wasm_ast.specs.Ranges.{BlockTypeInRange, InstrInRange, ExprInRange}
use Rattle.wasm_write.proofs.FormSpelled.{both_true, block_type_spelled}
use Rattle.wasm_write.proofs.PlainSpelled.{when_false, of_byte, byte_spelled, IsPlainSpelled, DataIsCounted, plain_spelled}
use Rattle.wasm_write.proofs.TextLaws.{AreTexts, are_texts}

-- ---- the sequences from one number to another

abbrev part : List (List Instr) → ℕ → ℕ → List (List Instr)
part seqs a b = take (b - a) (drop a seqs)

take_nil : {X : Type 0} (n : ℕ) → take n (let l : List X = [] in l) ≡ []
take_nil zero = refl
take_nil (suc n) = refl

take_two : {X : Type 0} (m n : ℕ) (l : List X) → take m l ++ take n (drop m l) ≡ take (m + n) l
take_two zero n l = ap (λ k. take k l) (let same : n ≡ 0 + n = omega arith in same)
take_two {X} (suc m) n [] = take_nil {X = X} n ∙ sym (take_nil {X = X} (suc m + n))
take_two (suc m) n (x ∷ l) =
    ap (λ t. x ∷ t) (take_two m n l) ∙ ap (λ k. take k (x ∷ l)) (let same : suc (m + n) ≡ suc m + n = omega arith in same)

part_join : (seqs : List (List Instr)) (a b c : ℕ) → a ≤ b → b ≤ c → part seqs a b ++ part seqs b c ≡ part seqs a c
part_join seqs a b c le more =
    let there : drop b seqs ≡ drop (b - a) (drop a seqs) = sym (drop-drop (b - a) a seqs ∙ ap (λ i. drop i seqs) (let same : a + (b - a) ≡ b = omega arith in same)) in
    ap (λ l. part seqs a b ++ take (c - b) l) there ∙ take_two (b - a) (c - b) (drop a seqs)
    ∙ ap (λ k. take k (drop a seqs)) (let same : b - a + (c - b) ≡ c - a = omega arith in same)

part_length : (seqs : List (List Instr)) (a b : ℕ) → b ≤ length seqs → length (part seqs a b) ≡ b - a
part_length seqs a b le = length-take-le (b - a) (drop a seqs) (omega (arith, length-drop a seqs))

part_cons : (seqs : List (List Instr)) (a b : ℕ) → a < b → b ≤ length seqs → part seqs a b ≡ get_or seqs a [] ∷ part seqs (a + 1) b
part_cons seqs a b lt le =
    ap (λ l. take (b - a) l) (drop_more seqs a [] (omega arith))
    ∙ ap (λ k. take k (get_or seqs a [] ∷ drop (a + 1) seqs)) (let same : b - a ≡ suc (b - (a + 1)) = omega arith in same)

part_none : (seqs : List (List Instr)) (a b : ℕ) → a ≡ b → part seqs a b ≡ []
part_none seqs a b same = ap (λ k. take k (drop a seqs)) (let no_more : b - a ≡ 0 = omega arith in no_more)

-- ---- what is proved of a sequence and of an instruction

-- an end or an else
abbrev end_byte : Bool → ℕ
end_byte true = 0x05
end_byte false = 0x0B

abbrev spelling_of : (seqs : List (List Instr)) (ends : List ℕ) (j : ℕ) (by_else : Bool) → Sequence
spelling_of seqs ends j by_else = record { instrs = get_or seqs j []; inside = part seqs (j + 1) (slice_index ends j); by_else = by_else }

record SequenceSpelled (counted : Bool) (seqs : List (List Instr)) (ends : List ℕ) (text : ℕ → List ℕ) (j : ℕ) : Type 0 where
  above : j < slice_index ends j
  within : slice_index ends j ≤ length seqs
  spelled : (n : ℕ) (in_if by_else : Bool) → (by_else ≡ true → in_if ≡ true) → length (text j) < n
      → (sequence_below n counted in_if (j + 1)).Spells (spelling_of seqs ends j by_else) (text j ++ end_byte by_else ∷ [])

-- its bytes are an opcode and what follows it, where fewer than n opcodes stand inside
record InstructionSpelled (n : ℕ) (around : Around) (m : ℕ) (one : WithInside) (bytes : List ℕ) : Type 0 where
  op : Opcode
  first : List ℕ
  rest : List ℕ
  parts : bytes ≡ first ++ rest
  begins : (checked opcode (allowed around)).Spells op first
  some : 0 < length first
  goes_on : is_last op ≡ false
  spelled : (instruction (sequence_below n around.has_data_count) op m).Spells one rest

abbrev around_of : Bool → Bool → Around
around_of counted in_if = record { has_data_count = counted; else_may_follow = in_if }

record OneSpelled (counted : Bool) (seqs : List (List Instr)) (text : ℕ → List ℕ) (x : Instr) (m next : ℕ) : Type 0 where
  above : m ≤ next
  within : m ≤ length seqs → next ≤ length seqs
  spelled : (n : ℕ) (in_if : Bool) → length (instr_bytes text x) ≤ n
      → InstructionSpelled n (around_of counted in_if) m (record { instr = x; inside = part seqs m next }) (instr_bytes text x)

-- what is asked of an instruction
record Fine (counted : Bool) (x : Instr) : Type 0 where
  shape : InstrHasShape x
  range : InstrInRange x
  data_counted : (in_if : Bool) → DataIsCounted (around_of counted in_if) x

abbrev with_parts : Instr → List (List Instr) → WithInside
with_parts x inside = record { instr = x; inside = inside }

-- ---- instructions that hold no others

plain_one : (n : ℕ) (around : Around) (m : ℕ) (x : Instr) (bytes : List ℕ) (inside : List (List Instr)) → inside ≡ [] → IsPlainSpelled around x bytes → InstructionSpelled n around m (with_parts x inside) bytes
plain_one n around m x bytes inside empty p =
    let sequence = sequence_below n around.has_data_count in
    let one = with_parts x inside in
    record {
      op = p.op;
      first = p.first;
      rest = p.rest;
      parts = p.parts;
      begins = p.begins;
      some = p.some;
      goes_on = p.goes_on;
      spelled =
          when_false (p.op.first == 0x02) _ _ one p.rest p.no_block (
          when_false (p.op.first == 0x03) _ _ one p.rest p.no_loop (
          when_false (p.op.first == 0x04) _ _ one p.rest p.no_if (
          (x, p.rest, [], sym (append-nil p.rest), p.operands, (ap (λ l. with_parts x l) empty, refl)))));
    }

-- ---- blocks and loops

block_rest : (counted : Bool) (seqs : List (List Instr)) (ends : List ℕ) (text : ℕ → List ℕ) (make : BlockType → ℕ → Instr) (ty : BlockType) (b n : ℕ) → BlockTypeInRange ty → SequenceSpelled counted seqs ends text b → length (text b) < n
    → (block_type >>= λ t. block_of (make t) (sequence_below n counted) b).Spells (with_parts (make ty b) (part seqs b (slice_index ends b))) (block_type_bytes ty ++ text b ++ 0x0B ∷ [])
block_rest counted seqs ends text make ty b n range s lt =
    let body = text b ++ 0x0B ∷ [] in (
      ty,
      block_type_bytes ty,
      body,
      append_assoc (block_type_bytes ty) (text b) (0x0B ∷ []),
      block_type_spelled ty range,
      (
        spelling_of seqs ends b false,
        body,
        [],
        sym (append-nil body),
        s.spelled n false false (λ e. absurd cc) lt,
        (ap (λ l. with_parts (make ty b) l) (part_cons seqs b (slice_index ends b) s.above s.within), refl),
      ),
    )

-- the one name of a block is the number whose turn it is
record OneName (ends : List ℕ) (b m next : ℕ) : Type 0 where
  is : b ≡ m
  there : m < length ends
  leads : slice_index ends m ≡ next

one_name : (ends : List ℕ) (b m next : ℕ) → after ends (b ∷ []) m ≡ Some next → OneName ends b m next
one_name ends b m next e =
    let w = if_some (b == m && nat_lt m (length ends)) (Some (slice_index ends m)) next e in
    let both = both_true (b == m) (nat_lt m (length ends)) w.0 in
    record { is = eqb-true b m both.0; there = ltb-true m (length ends) both.1; leads = cc }

-- an opcode of one byte and what follows it
with_code : (n : ℕ) (around : Around) (m code : ℕ) (one : WithInside) (rest : List ℕ) → (code == 0xFC) ≡ false → is_opcode around code ≡ true → is_last (of_byte code) ≡ false → (instruction (sequence_below n around.has_data_count) (of_byte code) m).Spells one rest
    → InstructionSpelled n around m one (code ∷ rest)
with_code n around m code one rest not_FC is goes_on s = record {
  op = of_byte code;
  first = code ∷ [];
  rest = rest;
  parts = refl;
  begins = byte_spelled around code not_FC is;
  some = omega arith;
  goes_on = goes_on;
  spelled = s;
}

-- ---- ifs

pub instr_some : (text : ℕ → List ℕ) (x : Instr) → 0 < length (instr_bytes text x)
instr_some text (Block ty body) = omega arith
instr_some text x = omega arith

pub else_longer : (t : List ℕ) → length t ≤ length (else_part t)
else_longer [] = omega arith
else_longer (b ∷ t) = omega arith

pub else_of : (t : List ℕ) → 0 < length t → else_part t ≡ 0x05 ∷ t
else_of [] some = absurd (omega arith)
else_of (b ∷ t) some = refl

one_part : (a b : List ℕ) (y : ℕ) → a ++ b ++ [] ++ y ∷ [] ≡ a ++ (b ++ y ∷ [])
one_part a b y = simp (append_assoc, append-nil) refl

two_parts : (a b c : List ℕ) (x y : ℕ) → a ++ b ++ x ∷ c ++ y ∷ [] ≡ a ++ ((b ++ x ∷ []) ++ (c ++ y ∷ []))
two_parts a b c x y = simp append_assoc refl

-- the sequence f and, with the number after it and all inside it, the sequence o
record Pair (counted : Bool) (seqs : List (List Instr)) (ends : List ℕ) (text : ℕ → List ℕ) (f : ℕ) : Type 0 where
  first : SequenceSpelled counted seqs ends text f
  other : SequenceSpelled counted seqs ends text (slice_index ends f)

abbrev if_parts : List (List Instr) → List ℕ → BlockType → ℕ → WithInside
if_parts seqs ends ty f =
    let o = slice_index ends f in
    with_parts (If ty f o) (part seqs f (slice_index ends o))

abbrev if_made : BlockType → ℕ → Sequence → Sequence → WithInside
if_made ty f first second = with_parts (If ty f (f + length (all_of first))) (all_of first ++ all_of second)

number_of_other : (counted : Bool) (seqs : List (List Instr)) (ends : List ℕ) (text : ℕ → List ℕ) (f : ℕ) (by_else : Bool) → SequenceSpelled counted seqs ends text f → f + length (all_of (spelling_of seqs ends f by_else)) ≡ slice_index ends f
number_of_other counted seqs ends text f by_else s = omega (arith, part_length seqs (f + 1) (slice_index ends f) s.within, s.above)

made_of : (counted : Bool) (seqs : List (List Instr)) (ends : List ℕ) (text : ℕ → List ℕ) (ty : BlockType) (f : ℕ) (by_else : Bool) (second : Sequence) → Pair counted seqs ends text f → all_of (spelling_of seqs ends (slice_index ends f) false) ≡ all_of second
    → if_parts seqs ends ty f ≡ if_made ty f (spelling_of seqs ends f by_else) second
made_of counted seqs ends text ty f by_else second p e =
    let o = slice_index ends f in
    let next = slice_index ends o in
    let first = spelling_of seqs ends f by_else in
    let number = number_of_other counted seqs ends text f by_else p.first in
    let front = part_cons seqs f o p.first.above p.first.within in
    let others = part_cons seqs o next p.other.above p.other.within in
    let inside : part seqs f next ≡ all_of first ++ all_of second =
    sym (part_join seqs f o next (omega (arith, p.first.above)) (omega (arith, p.other.above))) ∙ ap (λ l. l ++ part seqs o next) front ∙ ap (λ l. all_of first ++ l) (others ∙ e) in
    ap (λ i. with_parts (If ty f i) (part seqs f next)) (sym number) ∙ ap (λ l. with_parts (If ty f (f + length (all_of first))) l) inside

if_without_else : (counted : Bool) (seqs : List (List Instr)) (ends : List ℕ) (text : ℕ → List ℕ) (ty : BlockType) (f n : ℕ) → BlockTypeInRange ty → AreEnds seqs ends → AreTexts seqs text → Pair counted seqs ends text f → get_or seqs (slice_index ends f) [] ≡ [] → length (text f) < n
    → (block_type >>= λ t. if_of (If t) (sequence_below n counted) f).Spells (if_parts seqs ends ty f) (block_type_bytes ty ++ text f ++ else_part (text (slice_index ends f)) ++ 0x0B ∷ [])
if_without_else counted seqs ends text ty f n range are_ends texts p empty lt =
    let o = slice_index ends f in
    let first = text f ++ 0x0B ∷ [] in
    let there : o < length seqs = omega (arith, p.other.above, p.other.within) in
    let no_text : text o ≡ [] = texts.each o there ∙ ap (λ l. flat_map (instr_bytes text) l) empty in
    let parts : block_type_bytes ty ++ text f ++ else_part (text o) ++ 0x0B ∷ [] ≡ block_type_bytes ty ++ first =
    ap (λ t. block_type_bytes ty ++ text f ++ else_part t ++ 0x0B ∷ []) no_text ∙ one_part (block_type_bytes ty) (text f) 0x0B in
    let here : slice_get seqs o ≡ Some [] = slice_get-get_or seqs o [] there ∙ ap (λ l. let s : Option (List Instr) = Some l in s) empty in
    let ends_there : o + 1 ≡ slice_index ends o = some_is (o + 1) (slice_index ends o) (are_ends.each o [] here) in
    let nothing : all_of (spelling_of seqs ends o false) ≡ [] ∷ [] = ap (λ l. l ∷ part seqs (o + 1) (slice_index ends o)) empty ∙ ap (λ l. let a : List Instr = [] in a ∷ l) (part_none seqs (o + 1) (slice_index ends o) ends_there) in (
      ty,
      block_type_bytes ty,
      first,
      parts,
      block_type_spelled ty range,
      (
        spelling_of seqs ends f false,
        first,
        [],
        sym (append-nil first),
        p.first.spelled n true false (λ e. refl) lt,
        (empty_sequence, [], [], refl, (refl, refl), (made_of counted seqs ends text ty f false empty_sequence p nothing, refl)),
      ),
    )
  where
    some_is : (i j : ℕ) → (let s : Option ℕ = Some i in s) ≡ Some j → i ≡ j
    some_is i j e = cc

if_with_else : (counted : Bool) (seqs : List (List Instr)) (ends : List ℕ) (text : ℕ → List ℕ) (ty : BlockType) (f n : ℕ) → BlockTypeInRange ty → Pair counted seqs ends text f → 0 < length (text (slice_index ends f)) → length (text f) < n → length (text (slice_index ends f)) < n
    → (block_type >>= λ t. if_of (If t) (sequence_below n counted) f).Spells (if_parts seqs ends ty f) (block_type_bytes ty ++ text f ++ else_part (text (slice_index ends f)) ++ 0x0B ∷ [])
if_with_else counted seqs ends text ty f n range p some lt less =
    let o = slice_index ends f in
    let first = spelling_of seqs ends f true in
    let second = spelling_of seqs ends o false in
    let front = text f ++ 0x05 ∷ [] in
    let others = text o ++ 0x0B ∷ [] in
    let parts : block_type_bytes ty ++ text f ++ else_part (text o) ++ 0x0B ∷ [] ≡ block_type_bytes ty ++ (front ++ others) =
    ap (λ t. block_type_bytes ty ++ text f ++ t ++ 0x0B ∷ []) (else_of (text o) some) ∙ two_parts (block_type_bytes ty) (text f) (text o) 0x05 0x0B in
    let number : o + 1 ≡ f + length (all_of first) + 1 = omega (arith, number_of_other counted seqs ends text f true p.first) in
    let P : ℕ → Type 0 = λ k. (sequence_below n counted false k).Spells second others in (
      ty,
      block_type_bytes ty,
      front ++ others,
      parts,
      block_type_spelled ty range,
      (
        first,
        front,
        others,
        refl,
        p.first.spelled n true true (λ e. refl) lt,
        (second, others, [], sym (append-nil others), subst P number (p.other.spelled n false false (λ e. absurd cc) less), (made_of counted seqs ends text ty f true second p refl, refl)),
      ),
    )

if_rest : (counted : Bool) (seqs : List (List Instr)) (ends : List ℕ) (text : ℕ → List ℕ) (ty : BlockType) (f n : ℕ) → BlockTypeInRange ty → AreEnds seqs ends → AreTexts seqs text → Pair counted seqs ends text f → length (text f) < n → length (text (slice_index ends f)) < n
    → (block_type >>= λ t. if_of (If t) (sequence_below n counted) f).Spells (if_parts seqs ends ty f) (block_type_bytes ty ++ text f ++ else_part (text (slice_index ends f)) ++ 0x0B ∷ [])
if_rest counted seqs ends text ty f n range are_ends texts p lt less =
    let o = slice_index ends f in
    let there : o < length seqs = omega (arith, p.other.above, p.other.within) in
    by_other (get_or seqs o []) refl there
  where
    by_other : (instrs : List Instr) → get_or seqs (slice_index ends f) [] ≡ instrs → slice_index ends f < length seqs
        → (block_type >>= λ t. if_of (If t) (sequence_below n counted) f).Spells (if_parts seqs ends ty f) (block_type_bytes ty ++ text f ++ else_part (text (slice_index ends f)) ++ 0x0B ∷ [])
    by_other [] is there = if_without_else counted seqs ends text ty f n range are_ends texts p is lt
    by_other (x ∷ instrs) is there =
        let its : text (slice_index ends f) ≡ instr_bytes text x ++ flat_map (instr_bytes text) instrs = texts.each (slice_index ends f) there ∙ ap (λ l. flat_map (instr_bytes text) l) is in
        if_with_else counted seqs ends text ty f n range p (omega (arith, ap length its, length-append (instr_bytes text x) (flat_map (instr_bytes text) instrs), instr_some text x)) lt less

if_one : (counted in_if : Bool) (seqs : List (List Instr)) (ends : List ℕ) (text : ℕ → List ℕ) (ty : BlockType) (f o m next n : ℕ) → BlockTypeInRange ty → AreEnds seqs ends → AreTexts seqs text → f ≡ m → slice_index ends f ≡ o → slice_index ends o ≡ next
    → Pair counted seqs ends text f → length (text f) < n → length (text o) < n
    → InstructionSpelled n (around_of counted in_if) m (with_parts (If ty f o) (part seqs m next)) (instr_bytes text (If ty f o))
if_one counted in_if seqs ends text ty f o m next n range are_ends texts f_is o_is next_is p lt less =
    let around = around_of counted in_if in
    let Q : ℕ → Type 0 = λ k. InstructionSpelled n around k (with_parts (If ty f o) (part seqs k next)) (instr_bytes text (If ty f o)) in
    let R : ℕ → Type 0 = λ e. InstructionSpelled n around f (with_parts (If ty f o) (part seqs f e)) (instr_bytes text (If ty f o)) in
    let S : ℕ → Type 0 = λ j. InstructionSpelled n around f (with_parts (If ty f j) (part seqs f (slice_index ends j))) (instr_bytes text (If ty f j)) in
    let L : ℕ → Type 0 = λ j. length (text j) < n in
    subst Q f_is (subst R next_is (subst S o_is (with_code n around f 0x04 (if_parts seqs ends ty f) (block_type_bytes ty ++ text f ++ else_part (text (slice_index ends f)) ++ 0x0B ∷ []) refl refl refl
    (if_rest counted seqs ends text ty f n range are_ends texts p lt (subst L (sym o_is) less)))))

-- ---- one instruction

-- each sequence with a number from m on is spelled
abbrev LaterSpelled : (counted : Bool) (seqs : List (List Instr)) (ends : List ℕ) (text : ℕ → List ℕ) (m : ℕ) → Type 0
LaterSpelled counted seqs ends text m = (j : ℕ) → m ≤ j → j < length seqs → SequenceSpelled counted seqs ends text j

body_shorter : (front body : List ℕ) (code y n : ℕ) → length (code ∷ front ++ body ++ y ∷ []) ≤ n → length body < n
body_shorter front body code y n le = omega (arith, le, length-append (front ++ body) (y ∷ []), length-append front body)

first_shorter : (front body other : List ℕ) (code y n : ℕ) → length (code ∷ front ++ body ++ other ++ y ∷ []) ≤ n → (length body < n) × (length other < n)
first_shorter front body other code y n le =
    let long : length (code ∷ front ++ body ++ other ++ y ∷ []) ≡ 2 + length front + length body + length other =
    omega (arith, length-append (front ++ body ++ other) (y ∷ []), length-append (front ++ body) other, length-append front body) in
    (omega (arith, long), omega (arith, long))

-- a block or a loop, with one sequence inside it
body_one : (counted : Bool) (seqs : List (List Instr)) (ends : List ℕ) (text : ℕ → List ℕ) (x : Instr) (b m next : ℕ) → AreEnds seqs ends → LaterSpelled counted seqs ends text m → OneName ends b m next
    → ((n : ℕ) (in_if : Bool) → SequenceSpelled counted seqs ends text b → length (instr_bytes text x) ≤ n → InstructionSpelled n (around_of counted in_if) b (with_parts x (part seqs b (slice_index ends b))) (instr_bytes text x))
    → OneSpelled counted seqs text x m next
body_one counted seqs ends text x b m next are_ends later w at_b =
    let s = later b (omega (arith, w.is)) (omega (arith, w.is, w.there, are_ends.long)) in
    let its : slice_index ends b ≡ next = ap (λ i. slice_index ends i) w.is ∙ w.leads in
    record {
      above = omega (arith, s.above, its, w.is);
      within = λ le. omega (arith, s.within, its);
      spelled = λ n in_if le.
          let P : ℕ → Type 0 = λ e. InstructionSpelled n (around_of counted in_if) b (with_parts x (part seqs b e)) (instr_bytes text x) in
          let Q : ℕ → Type 0 = λ k. InstructionSpelled n (around_of counted in_if) k (with_parts x (part seqs k next)) (instr_bytes text x) in
          subst Q w.is (subst P its (at_b n in_if s le));
    }

one_spelled : (counted : Bool) (seqs : List (List Instr)) (ends : List ℕ) (text : ℕ → List ℕ) (x : Instr) (m next : ℕ) → AreEnds seqs ends → AreTexts seqs text → LaterSpelled counted seqs ends text m → Fine counted x → after ends (named_by x) m ≡ Some next
    → OneSpelled counted seqs text x m next
one_spelled counted seqs ends text (Block ty b) m next are_ends texts later fine leads =
    body_one counted seqs ends text (Block ty b) b m next are_ends later (one_name ends b m next leads) (λ n in_if s le.
    with_code n (around_of counted in_if) b 0x02 (with_parts (Block ty b) (part seqs b (slice_index ends b))) (block_type_bytes ty ++ text b ++ 0x0B ∷ []) refl refl refl
    (block_rest counted seqs ends text Block ty b n fine.range s (body_shorter (block_type_bytes ty) (text b) 0x02 0x0B n le)))
one_spelled counted seqs ends text (Loop ty b) m next are_ends texts later fine leads =
    body_one counted seqs ends text (Loop ty b) b m next are_ends later (one_name ends b m next leads) (λ n in_if s le.
    with_code n (around_of counted in_if) b 0x03 (with_parts (Loop ty b) (part seqs b (slice_index ends b))) (block_type_bytes ty ++ text b ++ 0x0B ∷ []) refl refl refl
    (block_rest counted seqs ends text Loop ty b n fine.range s (body_shorter (block_type_bytes ty) (text b) 0x03 0x0B n le)))
one_spelled counted seqs ends text (If ty f o) m next are_ends texts later fine leads =
    let both = if_some (f == m && nat_lt m (length ends)) (after ends (o ∷ []) (slice_index ends m)) next leads in
    let a = both_true (f == m) (nat_lt m (length ends)) both.0 in
    let f_is : f ≡ m = eqb-true f m a.0 in
    let w = one_name ends o (slice_index ends m) next both.1 in
    let s = later f (omega (arith, f_is)) (omega (arith, f_is, ltb-true m (length ends) a.1, are_ends.long)) in
    let o_is : slice_index ends f ≡ o = ap (λ i. slice_index ends i) f_is ∙ sym w.is in
    let next_is : slice_index ends o ≡ next = ap (λ i. slice_index ends i) w.is ∙ w.leads in
    let t = later o (omega (arith, o_is, s.above, f_is)) (omega (arith, w.is, w.there, are_ends.long)) in
    let P : ℕ → Type 0 = λ j. SequenceSpelled counted seqs ends text j in
    record {
      above = omega (arith, s.above, t.above, o_is, next_is, f_is);
      within = λ le. omega (arith, t.within, next_is);
      spelled = λ n in_if le.
          let short = first_shorter (block_type_bytes ty) (text f) (else_part (text o)) 0x04 0x0B n le in
          if_one counted in_if seqs ends text ty f o m next n fine.range are_ends texts f_is o_is next_is (record { first = s; other = subst P (sym o_is) t }) short.0 (omega (arith, short.1, else_longer (text o)));
    }
one_spelled counted seqs ends text x m next are_ends texts later fine leads =
    let same : m ≡ next = cc in
    record {
      above = omega arith;
      within = λ le. omega arith;
      spelled = λ n in_if le. plain_one n (around_of counted in_if) m x (instr_bytes text x) (part seqs m next) (part_none seqs m next same) (plain_spelled (around_of counted in_if) text x fine.shape fine.range (fine.data_counted in_if) refl);
    }

-- ---- the instructions of a sequence

record WalkSpelled (counted : Bool) (seqs : List (List Instr)) (text : ℕ → List ℕ) (instrs : List Instr) (m last : ℕ) : Type 0 where
  above : m ≤ last
  within : last ≤ length seqs
  spelled : (n : ℕ) (in_if by_else : Bool) → (by_else ≡ true → in_if ≡ true) → length (flat_map (instr_bytes text) instrs) < n
      → (sequence_below n counted in_if m).Spells (record { instrs = instrs; inside = part seqs m last; by_else = by_else }) (flat_map (instr_bytes text) instrs ++ end_byte by_else ∷ [])

end_spelled : (counted in_if by_else : Bool) (n m : ℕ) (inside : List (List Instr)) → inside ≡ [] → (by_else ≡ true → in_if ≡ true) → 0 < n
    → (sequence_below n counted in_if m).Spells (record { instrs = []; inside = inside; by_else = by_else }) (end_byte by_else ∷ [])
end_spelled counted in_if by_else zero m inside empty h some = absurd (omega arith)
end_spelled counted in_if true (suc n) m inside empty h some =
    (of_byte 0x05, 0x05 ∷ [], [], refl, byte_spelled (around_of counted in_if) 0x05 refl (rw (h refl) refl), (ap (λ l. let s : Sequence = record { instrs = []; inside = l; by_else = true } in s) empty, refl))
end_spelled counted in_if false (suc n) m inside empty h some =
    (of_byte 0x0B, 0x0B ∷ [], [], refl, byte_spelled (around_of counted in_if) 0x0B refl refl, (ap (λ l. let s : Sequence = record { instrs = []; inside = l; by_else = false } in s) empty, refl))

leads_on : (f : ℕ → Option ℕ) (p : Option ℕ) (last : ℕ) → option_and_then f p ≡ Some last → (k : ℕ) × (p ≡ Some k) × (f k ≡ Some last)
leads_on f (Some k) last e = (k, refl, e)
leads_on f None last e = absurd cc

-- an instruction, and then the others
one_more : (counted in_if by_else : Bool) (seqs : List (List Instr)) (x : Instr) (instrs : List Instr) (front rest : List ℕ) (m next last n : ℕ) → m ≤ next → next ≤ last → next ≤ length seqs
    → InstructionSpelled n (around_of counted in_if) m (with_parts x (part seqs m next)) front
    → (sequence_below n counted in_if next).Spells (record { instrs = instrs; inside = part seqs next last; by_else = by_else }) rest
    → (sequence_below (suc n) counted in_if m).Spells (record { instrs = x ∷ instrs; inside = part seqs m last; by_else = by_else }) (front ++ rest)
one_more counted in_if by_else seqs x instrs front rest m next last n le more within b others =
    let one = with_parts x (part seqs m next) in
    let left : Sequence = record { instrs = instrs; inside = part seqs next last; by_else = by_else } in
    let whole : Sequence = record { instrs = x ∷ instrs; inside = part seqs m last; by_else = by_else } in
    let joined : whole ≡ record { instrs = x ∷ instrs; inside = part seqs m next ++ part seqs next last; by_else = by_else } =
    ap (λ l. let s : Sequence = record { instrs = x ∷ instrs; inside = l; by_else = by_else } in s) (sym (part_join seqs m next last le more)) in
    let number : next ≡ m + length (part seqs m next) = omega (arith, part_length seqs m next within) in
    let P : ℕ → Type 0 = λ k. (sequence_below n counted in_if k).Spells left rest in (
      b.op,
      b.first,
      b.rest ++ rest,
      ap (λ l. l ++ rest) b.parts ∙ append_assoc b.first b.rest rest,
      b.begins,
      when_false (is_last b.op) _ _ whole (b.rest ++ rest) b.goes_on
          (one, b.rest, rest, refl, b.spelled, (left, rest, [], sym (append-nil rest), subst P number others, (joined, refl))),
    )

walk : (counted : Bool) (seqs : List (List Instr)) (ends : List ℕ) (text : ℕ → List ℕ) (instrs : List Instr) (m last : ℕ) → m ≤ length seqs → AreEnds seqs ends → AreTexts seqs text → LaterSpelled counted seqs ends text m → ByRecursion (Fine counted) instrs → after ends (names instrs) m ≡ Some last
    → WalkSpelled counted seqs text instrs m last
walk counted seqs ends text [] m last here are_ends texts later fine leads =
    let same : m ≡ last = cc in
    record {
      above = omega arith;
      within = omega arith;
      spelled = λ n in_if by_else h lt. end_spelled counted in_if by_else n m (part seqs m last) (part_none seqs m last same) h lt;
    }
walk counted seqs ends text (x ∷ instrs) m last here are_ends texts later fine leads =
    let both = leads_on (after ends (names instrs)) (after ends (named_by x) m) last (sym (after-append ends (named_by x) (names instrs) m) ∙ leads) in
    let next = both.0 in
    let one = one_spelled counted seqs ends text x m next are_ends texts later fine.0 both.1 in
    let others = walk counted seqs ends text instrs next last (one.within here) are_ends texts (λ j le lt. later j (omega (arith, one.above)) lt) fine.1 both.2 in
    record {
      above = omega (arith, one.above, others.above);
      within = others.within;
      spelled = λ n in_if by_else h lt. on n in_if by_else h lt next one others (one.within here);
    }
  where
    on : (n : ℕ) (in_if by_else : Bool) → (by_else ≡ true → in_if ≡ true) → length (flat_map (instr_bytes text) (x ∷ instrs)) < n → (next : ℕ) → OneSpelled counted seqs text x m next → WalkSpelled counted seqs text instrs next last → next ≤ length seqs
        → (sequence_below n counted in_if m).Spells (record { instrs = x ∷ instrs; inside = part seqs m last; by_else = by_else }) (flat_map (instr_bytes text) (x ∷ instrs) ++ end_byte by_else ∷ [])
    on zero in_if by_else h lt next one others within = absurd (omega arith)
    on (suc n) in_if by_else h lt next one others within =
        let front = instr_bytes text x in
        let rest = flat_map (instr_bytes text) instrs in
        let end = end_byte by_else ∷ [] in
        let long = length-append front rest in
        let all = one_more counted in_if by_else seqs x instrs front (rest ++ end) m next last n one.above others.above within
        (one.spelled n in_if (omega (arith, long))) (others.spelled n in_if by_else h (omega (arith, long, instr_some text x))) in
        let P : List ℕ → Type 0 = λ t. (sequence_below (suc n) counted in_if m).Spells (record { instrs = x ∷ instrs; inside = part seqs m last; by_else = by_else }) t in
        subst P (sym (append_assoc front rest end)) all

-- ---- all sequences, from the last back

-- what is asked of each instruction of each sequence
abbrev AllFine : Bool → List (List Instr) → Type 0
AllFine counted seqs = (j : ℕ) → j < length seqs → ByRecursion (Fine counted) (get_or seqs j [])

sequences_spelled : (counted : Bool) (seqs : List (List Instr)) (ends : List ℕ) (text : ℕ → List ℕ) → AreEnds seqs ends → AreTexts seqs text → AllFine counted seqs → (d j : ℕ) → length seqs ≤ j + d → j < length seqs → SequenceSpelled counted seqs ends text j
sequences_spelled counted seqs ends text are_ends texts fine zero j past lt = absurd (omega arith)
sequences_spelled counted seqs ends text are_ends texts fine (suc d) j past lt =
    let instrs = get_or seqs j [] in
    let there : slice_get seqs j ≡ Some instrs = slice_get-get_or seqs j [] lt in
    let w = walk counted seqs ends text instrs (j + 1) (slice_index ends j) (omega arith) are_ends texts (λ i le within. sequences_spelled counted seqs ends text are_ends texts fine d i (omega arith) within) (fine j lt) (are_ends.each j instrs there) in
    let its = texts.each j lt in
    record {
      above = omega (arith, w.above);
      within = w.within;
      spelled = λ n in_if by_else h less.
          let P : List ℕ → Type 0 = λ t. (sequence_below n counted in_if (j + 1)).Spells (spelling_of seqs ends j by_else) (t ++ end_byte by_else ∷ []) in
          subst P (sym its) (w.spelled n in_if by_else h (omega (arith, ap length its)));
    }

-- ---- expressions

-- where an instruction of the expression names a data segment, there is a data count section
pub record IsCounted (counted : Bool) (e : Expr) : Type 0 where
  pub each : (j i : ℕ) (x : Instr) → j < length e.seqs → i < length (get_or e.seqs j []) → names_data (get_or (get_or e.seqs j []) i x) ≡ true → counted ≡ true

fine_of : (counted : Bool) (instrs : List Instr) → All InstrHasShape instrs → All InstrInRange instrs → ((i : ℕ) (x : Instr) → i < length instrs → names_data (get_or instrs i x) ≡ true → counted ≡ true) → ByRecursion (Fine counted) instrs
fine_of counted [] shape range data_counted = tt
fine_of counted (x ∷ instrs) shape range data_counted = (
  record { shape = shape 0 x (omega arith); range = range 0 x (omega arith); data_counted = λ in_if h. data_counted 0 x (omega arith) h },
  fine_of counted instrs (λ k d lt. shape (suc k) d (omega arith)) (λ k d lt. range (suc k) d (omega arith)) (λ i d lt h. data_counted (suc i) d (omega arith) h),
)

pub expr_spelled : (counted : Bool) (e : Expr) → ExprHasShape e → ExprInRange e → IsCounted counted e → (expression counted).Spells e (expr_bytes e)
unfolding expression
expr_spelled counted e shape range are_counted =
    let seqs = e.seqs in
    let numbered = shape.numbered in
    let ends = numbered.ends in
    let text = text_of 0 seqs in
    let fine : AllFine counted seqs = λ j lt. fine_of counted (get_or seqs j []) (shape.each j [] lt).each (range j [] lt) (λ i x within h. are_counted.each j i x lt within h) in
    let s = sequences_spelled counted seqs ends text numbered.are_ends (are_texts seqs numbered) fine (length seqs) 0 (omega arith) numbered.outermost in
    let bytes = expr_bytes e in
    let whole : seqs ≡ get_or seqs 0 [] ∷ part seqs 1 (slice_index ends 0) =
    sym (take_all (length seqs - 0) seqs (omega arith)) ∙ part_cons seqs 0 (length seqs) numbered.outermost (omega arith) ∙ ap (λ i. get_or seqs 0 [] ∷ part seqs 1 i) (sym numbered.all_inside) in (
      suc (length (text 0)),
      (
        spelling_of seqs ends 0 false,
        bytes,
        [],
        sym (append-nil bytes),
        s.spelled (suc (length (text 0))) false false (λ h. absurd cc) (omega arith),
        (ap (λ l. let x : Expr = record { seqs = l } in x) whole, refl),
      ),
    )
