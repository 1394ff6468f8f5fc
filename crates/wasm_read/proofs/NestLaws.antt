-- Reading on with open sequences gives what the grammar says of the expression.
use Rattle.std.proofs.Common.{◌≡◌, ℕ, suc, ◌+◌, ◌<◌, ◌≤◌, ◌⊎◌, inl, inr, Bool, true, false, List, [], ◌∷◌, ◌++◌, length, Option, Some, None, IfSome, All, Result, Ok, Err, refl, sym, ap, subst, ◌∙◌, arith, append_assoc, append-nil, length-append}
use Rattle.std.specs.Prelude.{◌==◌, ◌||◌, slice_set, if◌then◌else◌}
use Rattle.std.proofs.lemmas.List.{set-append_left, length-set}
use Rattle.std.proofs.lemmas.List.Elements.{All-append, All-push}
use Rattle.std.proofs.Math.Seq.{set-append_seam}
use Rattle.grammar_forms.specs.Forms.{Window, read_on, ◌>>=◌, gives, checked, when◌form◌else◌}
use Rattle.grammar_forms.specs.Laws.{IsLawful, HasBytes}
use Rattle.grammar_forms.proofs.FormLaws.{checked_has_bytes, checked_lawful, agrees}
use Rattle.std.proofs.lemmas.Bool.Decides.{nat_tests}
use Rattle.wasm_ast.specs.Opcodes.{is_from}
use Rattle.wasm_ast.specs.declared.instructions.Instr.{Instr}
use Rattle.wasm_ast.specs.declared.instructions.Instr.TheVariants.{Block, Loop, If}
use Rattle.wasm_ast.specs.declared.types.BlockType.{BlockType}
use Rattle.wasm_binary.specs.Faults.{Fault}
use Rattle.wasm_binary.specs.Values.{Grammar}
use Rattle.wasm_binary.specs.Types.{block_type}
use Rattle.wasm_binary.specs.Instructions.{Opcode, opcode, Around, allowed, plain, Sequence, Sequences, WithInside, empty_sequence, all_of, block_of, if_of, instruction, is_last, before, after_opcode, sequence_below, expression}
use Rattle.wasm_binary.proofs.GrammarLaws.{sequence_lawful, sequence_in, opcode_lawful, opcode_has_bytes}
use Rattle.wasm_read.specs.declared.enclosing.Opener.{Opener}
use Rattle.wasm_read.specs.declared.enclosing.Opener.TheVariants.{Block as BlockOpens, Loop as LoopOpens, Then, Else}
use Rattle.wasm_read.specs.declared.bad.ReadBad.{ReadBad}
use Rattle.wasm_read.specs.Refusals.{fault_of}
use Rattle.wasm_read.specs.Nests.{Enclosing, Seqs, Nest, IsNest, LeadsTo, first_nest, pushed, opened, written, back_in, closed_in, is_then, in_if, sequences_of, Answer, rest_of, ended_by, ending, rest, around, after, turned, closed_to, closed, is_alone, opener_for}
use Rattle.owi_base.proofs.Choices.{taken, passed, either}

-- ---- one after another

abbrev Given : Type 0 → Type 0
Given A = Result (A × ℕ) Fault

abbrev ok : {A : Type 0} → A → ℕ → Given A
ok x next = Ok (x, next)

on_after : {A B C : Type 0} (r : Given A) (f : A → ℕ → Given B) (g : B → ℕ → Given C) → read_on (read_on r f) g ≡ read_on r (λ x next. read_on (f x next) g)
on_after (Ok x) f g = refl
on_after (Err fault) f g = refl

on_same : {A B : Type 0} (r : Given A) (f g : A → ℕ → Given B) → ((x : A) (next : ℕ) → f x next ≡ g x next) → read_on r f ≡ read_on r g
on_same (Ok x) f g same = same x.0 x.1
on_same (Err fault) f g same = refl

-- ---- the start

pub starts : (w : Window Fault) (has_data_count : Bool) (at : ℕ) → (expression has_data_count).read w at ≡ rest w has_data_count first_nest at
unfolding expression rest ending
starts w has_data_count at = refl

-- ---- an opcode

-- a deeper approximation reads the same
deeper : (w : Window Fault) (has_data_count in_if : Bool) (k at : ℕ) → (sequences_of w has_data_count in_if k).read w at ≡ (sequence_below (suc (suc (length w.bytes))) has_data_count in_if k).read w at
deeper w has_data_count in_if k at =
    let n = suc (length w.bytes) in
    sym (agrees (λ m. sequence_below m has_data_count in_if k) (λ m. sequence_lawful m has_data_count in_if k) n (suc n) (sequence_in n has_data_count in_if k) w at (omega arith) (omega arith) ((sequence_below n has_data_count in_if k).read w at) refl)

pub next_opcode : (w : Window Fault) (has_data_count : Bool) (n : Nest) (at : ℕ) → rest w has_data_count n at ≡ read_on ((checked opcode (allowed (around has_data_count n))).read w at) (λ op next. after w has_data_count n op next)
unfolding rest after
next_opcode w has_data_count n at =
    let fin : Sequence → ℕ → Answer = λ s next. ending w has_data_count n.outer n.number s.by_else (slice_set n.seqs n.number (n.instrs ++ s.instrs) ++ s.inside) next in
    ap (λ (r : Given Sequence). read_on r fin) (deeper w has_data_count (in_if n.outer) (length n.seqs) at)
    ∙ on_after ((checked opcode (allowed (around has_data_count n))).read w at) (λ op next. (after_opcode (sequences_of w has_data_count) (sequences_of w has_data_count (in_if n.outer)) op (length n.seqs)).read w next) fin

-- ---- choices

when_taken : {A : Type 0} (b : Bool) (f g : Grammar A) (w : Window Fault) (at : ℕ) → b ≡ true → (when b form f else g).read w at ≡ f.read w at
when_taken true f g w at e = refl
when_taken false f g w at e = absurd cc

when_passed : {A : Type 0} (b : Bool) (f g : Grammar A) (w : Window Fault) (at : ℕ) → b ≡ false → (when b form f else g).read w at ≡ g.read w at
when_passed true f g w at e = absurd cc
when_passed false f g w at e = refl

-- ---- the end of a sequence

abbrev last_of : Opcode → Grammar Sequence
last_of op = gives (record { instrs = []; inside = []; by_else = op.first == 0x05 })

abbrev one_and_rest : Sequences → (ℕ → Grammar Sequence) → Opcode → ℕ → Grammar Sequence
one_and_rest inner others op k = do
  one ← instruction inner op k
  more ← others (k + length one.inside)
  gives (before one more)

nothing_more : (n : Nest) → slice_set n.seqs n.number (n.instrs ++ []) ++ [] ≡ written n
nothing_more n = append-nil (slice_set n.seqs n.number (n.instrs ++ [])) ∙ ap (λ (l : List Instr). slice_set n.seqs n.number l) (append-nil n.instrs)

-- after an end or an else
pub ends : (w : Window Fault) (has_data_count : Bool) (n : Nest) (op : Opcode) (at : ℕ) → is_last op ≡ true
    → after w has_data_count n op at ≡ ending w has_data_count n.outer n.number (op.first == 0x05) (written n) at
unfolding after
ends w has_data_count n op at last =
    let s = sequences_of w has_data_count in
    let fin : Sequence → ℕ → Answer = λ s next. ending w has_data_count n.outer n.number s.by_else (slice_set n.seqs n.number (n.instrs ++ s.instrs) ++ s.inside) next in
    ap (λ (r : Given Sequence). read_on r fin) (when_taken (is_last op) (last_of op) (one_and_rest s (s (in_if n.outer)) op (length n.seqs)) w at last)
    ∙ ap (λ (l : Seqs). ending w has_data_count n.outer n.number (op.first == 0x05) l at) (nothing_more n)

one_longer : (seqs : Seqs) → length (seqs ++ [] ∷ []) ≡ length seqs + 1
one_longer seqs = length-append seqs ([] ∷ [])

-- a sequence in its place, with all inside it
seam : (seqs : Seqs) (s : Sequence) → slice_set (seqs ++ [] ∷ []) (length seqs) ([] ++ s.instrs) ++ s.inside ≡ seqs ++ all_of s
seam seqs s = ap (λ (l : Seqs). l ++ s.inside) (set-append_seam seqs [] [] s.instrs) ∙ append_assoc seqs (s.instrs ∷ []) s.inside

abbrev rest_around : Window Fault → Bool → Nest → List Instr → Seqs → ℕ → Answer
rest_around w has_data_count n = rest_of w has_data_count (in_if n.outer) n.number (ending w has_data_count n.outer)

-- reading on in a sequence that was opened
entered : (w : Window Fault) (has_data_count : Bool) (n : Nest) (o : Opener) (at : ℕ) → rest w has_data_count (opened o n) at
    ≡ read_on ((sequences_of w has_data_count (is_then o) (length n.seqs + 1)).read w at) (λ s next. ended_by w has_data_count o (rest_around w has_data_count n) n.instrs (length n.seqs) s.by_else (n.seqs ++ all_of s) next)
unfolding rest ending
entered w has_data_count n o at =
    let goes : Sequence → Seqs → ℕ → Answer = λ s seqs next. ended_by w has_data_count o (rest_around w has_data_count n) n.instrs (length n.seqs) s.by_else seqs next in
    let raw : Sequence → ℕ → Answer = λ s next. goes s (slice_set (n.seqs ++ [] ∷ []) (length n.seqs) ([] ++ s.instrs) ++ s.inside) next in
    ap (λ k. read_on ((sequences_of w has_data_count (is_then o) k).read w at) raw) (one_longer n.seqs)
    ∙ on_same ((sequences_of w has_data_count (is_then o) (length n.seqs + 1)).read w at) raw (λ s next. goes s (n.seqs ++ all_of s) next)
    (λ s next. ap (λ (l : Seqs). goes s l next) (seam n.seqs s))

ended_closed : (w : Window Fault) (has_data_count : Bool) (o : Opener) (v : Enclosing) (outer : List Enclosing) (number : ℕ) (by_else : Bool) (seqs : Seqs) (at : ℕ)
    → ended_by w has_data_count o (rest_of w has_data_count (in_if outer) v.number (ending w has_data_count outer)) v.instrs number by_else seqs at ≡ rest w has_data_count (closed_in o v outer number by_else seqs) at
unfolding rest
ended_closed w has_data_count (BlockOpens ty) v outer number by_else seqs at = refl
ended_closed w has_data_count (LoopOpens ty) v outer number by_else seqs at = refl
ended_closed w has_data_count Else v outer number by_else seqs at = refl
ended_closed w has_data_count (Then ty) v outer number false seqs at = refl
ended_closed w has_data_count (Then ty) v outer number true seqs at =
    sym (entered w has_data_count (record { seqs = seqs; number = v.number; instrs = v.instrs ++ If ty number (length seqs) ∷ []; outer = outer }) Else at)

-- an inner sequence ends
pub closes : (w : Window Fault) (has_data_count : Bool) (v : Enclosing) (outer : List Enclosing) (number : ℕ) (by_else : Bool) (seqs : Seqs) (at : ℕ)
    → ending w has_data_count (v ∷ outer) number by_else seqs at ≡ rest w has_data_count (closed_in v.opener v outer number by_else seqs) at
unfolding ending
closes w has_data_count v outer number by_else seqs at = ended_closed w has_data_count v.opener v outer number by_else seqs at

-- the outermost ends
pub all_end : (w : Window Fault) (has_data_count : Bool) (number : ℕ) (by_else : Bool) (seqs : Seqs) (at : ℕ) → ending w has_data_count [] number by_else seqs at ≡ Ok (record { seqs = seqs }, at)
unfolding ending
all_end w has_data_count number by_else seqs at = refl

-- ---- an instruction

placed : (n : Nest) → n.number < length n.seqs → (instr : Instr) (inside : Seqs) (more : Sequence)
    → slice_set n.seqs n.number (n.instrs ++ instr ∷ more.instrs) ++ (inside ++ more.inside) ≡ slice_set (n.seqs ++ inside) n.number ((n.instrs ++ instr ∷ []) ++ more.instrs) ++ more.inside
placed n lt instr inside more =
    let instrs = (n.instrs ++ instr ∷ []) ++ more.instrs in
    ap (λ (l : List Instr). slice_set n.seqs n.number l ++ (inside ++ more.inside)) (sym (append_assoc n.instrs (instr ∷ []) more.instrs))
    ∙ sym (append_assoc (slice_set n.seqs n.number instrs) inside more.inside)
    ∙ ap (λ (l : Seqs). l ++ more.inside) (sym (set-append_left n.seqs inside n.number instrs lt))

added : (w : Window Fault) (has_data_count : Bool) (n : Nest) → n.number < length n.seqs → (one : WithInside) (at : ℕ)
    → read_on ((sequences_of w has_data_count (in_if n.outer) (length n.seqs + length one.inside)).read w at)
    (λ more next. ending w has_data_count n.outer n.number more.by_else (slice_set n.seqs n.number (n.instrs ++ one.instr ∷ more.instrs) ++ (one.inside ++ more.inside)) next)
    ≡ rest_around w has_data_count n (n.instrs ++ one.instr ∷ []) (n.seqs ++ one.inside) at
added w has_data_count n lt one at =
    let raw : Sequence → ℕ → Answer = λ more next. ending w has_data_count n.outer n.number more.by_else (slice_set n.seqs n.number (n.instrs ++ one.instr ∷ more.instrs) ++ (one.inside ++ more.inside)) next in
    let goes : Sequence → ℕ → Answer = λ more next. ending w has_data_count n.outer n.number more.by_else (slice_set (n.seqs ++ one.inside) n.number ((n.instrs ++ one.instr ∷ []) ++ more.instrs) ++ more.inside) next in
    ap (λ k. read_on ((sequences_of w has_data_count (in_if n.outer) k).read w at) raw) (sym (length-append n.seqs one.inside))
    ∙ on_same ((sequences_of w has_data_count (in_if n.outer) (length (n.seqs ++ one.inside))).read w at) raw goes
    (λ more next. ap (λ (l : Seqs). ending w has_data_count n.outer n.number more.by_else l next) (placed n lt one.instr one.inside more))

-- an instruction with the sequences inside it
one_more : (w : Window Fault) (has_data_count : Bool) (n : Nest) (op : Opcode) (at : ℕ) → n.number < length n.seqs → is_last op ≡ false
    → after w has_data_count n op at ≡ read_on ((instruction (sequences_of w has_data_count) op (length n.seqs)).read w at) (λ one next. rest_around w has_data_count n (n.instrs ++ one.instr ∷ []) (n.seqs ++ one.inside) next)
unfolding after
one_more w has_data_count n op at lt not_last =
    let s = sequences_of w has_data_count in
    let k = length n.seqs in
    let fin : Sequence → ℕ → Answer = λ s next. ending w has_data_count n.outer n.number s.by_else (slice_set n.seqs n.number (n.instrs ++ s.instrs) ++ s.inside) next in
    let others : WithInside → ℕ → Given Sequence = λ one next. read_on ((s (in_if n.outer) (k + length one.inside)).read w next) (λ more last. ok (before one more) last) in
    ap (λ (r : Given Sequence). read_on r fin) (when_passed (is_last op) (last_of op) (one_and_rest s (s (in_if n.outer)) op k) w at not_last)
    ∙ on_after ((instruction s op k).read w at) others fin
    ∙ on_same ((instruction s op k).read w at) (λ one next. read_on (others one next) fin) (λ one next. rest_around w has_data_count n (n.instrs ++ one.instr ∷ []) (n.seqs ++ one.inside) next)
    (λ one next.
    on_after ((s (in_if n.outer) (k + length one.inside)).read w next) (λ more last. ok (before one more) last) fin
    ∙ added w has_data_count n lt one next)

abbrev simple : Instr → WithInside
simple instr = record { instr = instr; inside = [] }

abbrev no_others : Opcode → Grammar WithInside
no_others op = do
  instr ← plain op
  gives (simple instr)

abbrev blocks : Sequences → ℕ → Grammar WithInside
blocks s k = do
  ty ← block_type
  block_of (Block ty) s k

abbrev loops : Sequences → ℕ → Grammar WithInside
loops s k = do
  ty ← block_type
  block_of (Loop ty) s k

abbrev ifs : Sequences → ℕ → Grammar WithInside
ifs s k = do
  ty ← block_type
  if_of (If ty) s k

-- an opcode that opens no sequence and ends none
pub record IsPlain (op : Opcode) : Type 0 where
  pub not_last : is_last op ≡ false
  pub not_block : (op.first == 0x02) ≡ false
  pub not_loop : (op.first == 0x03) ≡ false
  pub not_if : (op.first == 0x04) ≡ false

abbrev added_to : Window Fault → Bool → Nest → WithInside → ℕ → Answer
added_to w has_data_count n one next = rest_around w has_data_count n (n.instrs ++ one.instr ∷ []) (n.seqs ++ one.inside) next

pub plain_next : (w : Window Fault) (has_data_count : Bool) (n : Nest) (op : Opcode) (at : ℕ) → n.number < length n.seqs → IsPlain op
    → after w has_data_count n op at ≡ read_on ((plain op).read w at) (λ instr next. rest w has_data_count (pushed instr n) next)
unfolding rest
plain_next w has_data_count n op at lt h =
    let s = sequences_of w has_data_count in
    let k = length n.seqs in
    let goes : WithInside → ℕ → Answer = added_to w has_data_count n in
    one_more w has_data_count n op at lt h.not_last
    ∙ ap (λ (r : Given WithInside). read_on r goes) (
    when_passed (op.first == 0x02) (blocks s k) (when op.first == 0x03 form loops s k else when op.first == 0x04 form ifs s k else no_others op) w at h.not_block
    ∙ when_passed (op.first == 0x03) (loops s k) (when op.first == 0x04 form ifs s k else no_others op) w at h.not_loop
    ∙ when_passed (op.first == 0x04) (ifs s k) (no_others op) w at h.not_if)
    ∙ on_after ((plain op).read w at) (λ instr next. ok (simple instr) next) goes
    ∙ on_same ((plain op).read w at) (λ instr next. goes (simple instr) next) (λ instr next. rest_around w has_data_count n (n.instrs ++ instr ∷ []) n.seqs next)
    (λ instr next. ap (λ (l : Seqs). rest_around w has_data_count n (n.instrs ++ instr ∷ []) l next) (append-nil n.seqs))

-- the body of a block or a loop, and what follows it
body_next : (w : Window Fault) (has_data_count : Bool) (n : Nest) (instr : ℕ → Instr) (at : ℕ)
    → read_on ((block_of instr (sequences_of w has_data_count) (length n.seqs)).read w at) (added_to w has_data_count n)
    ≡ read_on ((sequences_of w has_data_count false (length n.seqs + 1)).read w at) (λ body next. rest_around w has_data_count n (n.instrs ++ instr (length n.seqs) ∷ []) (n.seqs ++ all_of body) next)
body_next w has_data_count n instr at =
    on_after ((sequences_of w has_data_count false (length n.seqs + 1)).read w at) (λ body next. ok (let one : WithInside = record { instr = instr (length n.seqs); inside = all_of body } in one) next) (added_to w has_data_count n)

pub block_next : (w : Window Fault) (has_data_count : Bool) (n : Nest) (op : Opcode) (at : ℕ) → n.number < length n.seqs → is_last op ≡ false → (op.first == 0x02) ≡ true
    → after w has_data_count n op at ≡ read_on (block_type.read w at) (λ ty next. rest w has_data_count (opened (BlockOpens ty) n) next)
block_next w has_data_count n op at lt not_last is =
    let s = sequences_of w has_data_count in
    let k = length n.seqs in
    let goes : WithInside → ℕ → Answer = added_to w has_data_count n in
    one_more w has_data_count n op at lt not_last
    ∙ ap (λ (r : Given WithInside). read_on r goes) (when_taken (op.first == 0x02) (blocks s k) (when op.first == 0x03 form loops s k else when op.first == 0x04 form ifs s k else no_others op) w at is)
    ∙ on_after (block_type.read w at) (λ ty next. (block_of (Block ty) s k).read w next) goes
    ∙ on_same (block_type.read w at) (λ ty next. read_on ((block_of (Block ty) s k).read w next) goes) (λ ty next. rest w has_data_count (opened (BlockOpens ty) n) next)
    (λ ty next. body_next w has_data_count n (Block ty) next ∙ sym (entered w has_data_count n (BlockOpens ty) next))

pub loop_next : (w : Window Fault) (has_data_count : Bool) (n : Nest) (op : Opcode) (at : ℕ) → n.number < length n.seqs → is_last op ≡ false → (op.first == 0x02) ≡ false → (op.first == 0x03) ≡ true
    → after w has_data_count n op at ≡ read_on (block_type.read w at) (λ ty next. rest w has_data_count (opened (LoopOpens ty) n) next)
loop_next w has_data_count n op at lt not_last not_block is =
    let s = sequences_of w has_data_count in
    let k = length n.seqs in
    let goes : WithInside → ℕ → Answer = added_to w has_data_count n in
    one_more w has_data_count n op at lt not_last
    ∙ ap (λ (r : Given WithInside). read_on r goes) (
    when_passed (op.first == 0x02) (blocks s k) (when op.first == 0x03 form loops s k else when op.first == 0x04 form ifs s k else no_others op) w at not_block
    ∙ when_taken (op.first == 0x03) (loops s k) (when op.first == 0x04 form ifs s k else no_others op) w at is)
    ∙ on_after (block_type.read w at) (λ ty next. (block_of (Loop ty) s k).read w next) goes
    ∙ on_same (block_type.read w at) (λ ty next. read_on ((block_of (Loop ty) s k).read w next) goes) (λ ty next. rest w has_data_count (opened (LoopOpens ty) n) next)
    (λ ty next. body_next w has_data_count n (Loop ty) next ∙ sym (entered w has_data_count n (LoopOpens ty) next))

-- an if's second sequence, which is empty without an else
abbrev second_of : Sequences → Sequence → ℕ → Grammar Sequence
second_of s first k = when first.by_else form s false (k + 1) else gives empty_sequence

abbrev whole_if : (ℕ → ℕ → Instr) → ℕ → Sequence → Sequence → WithInside
whole_if instr k first second = record { instr = instr k (k + length (all_of first)); inside = all_of first ++ all_of second }

branches_next : (w : Window Fault) (has_data_count : Bool) (n : Nest) (instr : ℕ → ℕ → Instr) (at : ℕ)
    → read_on ((if_of instr (sequences_of w has_data_count) (length n.seqs)).read w at) (added_to w has_data_count n)
    ≡ read_on ((sequences_of w has_data_count true (length n.seqs + 1)).read w at)
    (λ first next. read_on ((second_of (sequences_of w has_data_count) first (length (n.seqs ++ all_of first))).read w next)
    (λ second last. rest_around w has_data_count n (n.instrs ++ instr (length n.seqs) (length (n.seqs ++ all_of first)) ∷ []) ((n.seqs ++ all_of first) ++ all_of second) last))
branches_next w has_data_count n instr at =
    let s = sequences_of w has_data_count in
    let k = length n.seqs in
    let goes : WithInside → ℕ → Answer = added_to w has_data_count n in
    let made : Sequence → Sequence → ℕ → Given WithInside = λ first second last. ok (whole_if instr k first second) last in
    let wanted : Sequence → ℕ → Sequence → ℕ → Answer = λ first j second last. rest_around w has_data_count n (n.instrs ++ instr k j ∷ []) ((n.seqs ++ all_of first) ++ all_of second) last in
    on_after ((s true (k + 1)).read w at) (λ first next. read_on ((second_of s first (k + length (all_of first))).read w next) (made first)) goes
    ∙ on_same ((s true (k + 1)).read w at) (λ first next. read_on (read_on ((second_of s first (k + length (all_of first))).read w next) (made first)) goes)
    (λ first next. read_on ((second_of s first (length (n.seqs ++ all_of first))).read w next) (wanted first (length (n.seqs ++ all_of first))))
    (λ first next.
    on_after ((second_of s first (k + length (all_of first))).read w next) (made first) goes
    ∙ on_same ((second_of s first (k + length (all_of first))).read w next) (λ second last. goes (whole_if instr k first second) last) (wanted first (k + length (all_of first)))
    (λ second last. ap (λ (l : Seqs). rest_around w has_data_count n (n.instrs ++ instr k (k + length (all_of first)) ∷ []) l last) (sym (append_assoc n.seqs (all_of first) (all_of second))))
    ∙ ap (λ j. read_on ((second_of s first j).read w next) (wanted first j)) (sym (length-append n.seqs (all_of first))))

pub if_next : (w : Window Fault) (has_data_count : Bool) (n : Nest) (op : Opcode) (at : ℕ) → n.number < length n.seqs → is_last op ≡ false → (op.first == 0x02) ≡ false → (op.first == 0x03) ≡ false → (op.first == 0x04) ≡ true
    → after w has_data_count n op at ≡ read_on (block_type.read w at) (λ ty next. rest w has_data_count (opened (Then ty) n) next)
if_next w has_data_count n op at lt not_last not_block not_loop is =
    let s = sequences_of w has_data_count in
    let k = length n.seqs in
    let goes : WithInside → ℕ → Answer = added_to w has_data_count n in
    one_more w has_data_count n op at lt not_last
    ∙ ap (λ (r : Given WithInside). read_on r goes) (
    when_passed (op.first == 0x02) (blocks s k) (when op.first == 0x03 form loops s k else when op.first == 0x04 form ifs s k else no_others op) w at not_block
    ∙ when_passed (op.first == 0x03) (loops s k) (when op.first == 0x04 form ifs s k else no_others op) w at not_loop
    ∙ when_taken (op.first == 0x04) (ifs s k) (no_others op) w at is)
    ∙ on_after (block_type.read w at) (λ ty next. (if_of (If ty) s k).read w next) goes
    ∙ on_same (block_type.read w at) (λ ty next. read_on ((if_of (If ty) s k).read w next) goes) (λ ty next. rest w has_data_count (opened (Then ty) n) next)
    (λ ty next. branches_next w has_data_count n (If ty) next ∙ sym (entered w has_data_count n (Then ty) next))

-- ---- in short

not_last : (b : ℕ) → is_from 0x02 0x04 b ≡ true → (b == 0x0B || b == 0x05) ≡ false
not_last b e = grind (arith, nat_tests, e)

opens_not_last : (op : Opcode) → is_from 0x02 0x04 op.first ≡ true → is_last op ≡ false
opens_not_last op e = not_last op.first e

is_if : (b : ℕ) → is_from 0x02 0x04 b ≡ true → (b == 0x02) ≡ false → (b == 0x03) ≡ false → (b == 0x04) ≡ true
is_if b e not_block not_loop = grind (arith, nat_tests, e)

not_in_range : (b k : ℕ) → is_from 0x02 0x04 b ≡ false → 0x02 ≤ k → k ≤ 0x04 → (b == k) ≡ false
not_in_range b k e low high = grind (arith, nat_tests, e)

pub enters : (w : Window Fault) (has_data_count : Bool) (n : Nest) (op : Opcode) (at : ℕ) → n.number < length n.seqs → is_from 0x02 0x04 op.first ≡ true
    → after w has_data_count n op at ≡ read_on (block_type.read w at) (λ ty next. rest w has_data_count (opened (opener_for op.first ty) n) next)
enters w has_data_count n op at lt is =
    let not_last : is_last op ≡ false = opens_not_last op is in
    let goes : (o : BlockType → Opener) → BlockType → ℕ → Answer = λ o ty next. rest w has_data_count (opened (o ty) n) next in
    let by : (o : BlockType → Opener) → ((ty : BlockType) → opener_for op.first ty ≡ o ty) → read_on (block_type.read w at) (goes o) ≡ read_on (block_type.read w at) (goes (opener_for op.first)) =
    λ o same. on_same (block_type.read w at) (goes o) (goes (opener_for op.first)) (λ ty next. ap (λ (p : Opener). rest w has_data_count (opened p n) next) (sym (same ty))) in
    elim (either (op.first == 0x02)) [
      | inl block ↦ block_next w has_data_count n op at lt not_last block ∙ by BlockOpens (λ ty. taken (op.first == 0x02) (BlockOpens ty) (if op.first == 0x03 then LoopOpens ty else Then ty) block)
      | inr not_block ↦ elim (either (op.first == 0x03)) [
        | inl loop ↦
            loop_next w has_data_count n op at lt not_last not_block loop
            ∙ by LoopOpens (λ ty. passed (op.first == 0x02) (BlockOpens ty) (if op.first == 0x03 then LoopOpens ty else Then ty) not_block ∙ taken (op.first == 0x03) (LoopOpens ty) (Then ty) loop)
        | inr not_loop ↦
            if_next w has_data_count n op at lt not_last not_block not_loop (is_if op.first is not_block not_loop)
            ∙ by Then (λ ty. passed (op.first == 0x02) (BlockOpens ty) (if op.first == 0x03 then LoopOpens ty else Then ty) not_block ∙ passed (op.first == 0x03) (LoopOpens ty) (Then ty) not_loop)
      ]
    ]

pub plains : (w : Window Fault) (has_data_count : Bool) (n : Nest) (op : Opcode) (at : ℕ) → n.number < length n.seqs → is_from 0x02 0x04 op.first ≡ false → is_last op ≡ false
    → after w has_data_count n op at ≡ read_on ((plain op).read w at) (λ instr next. rest w has_data_count (pushed instr n) next)
plains w has_data_count n op at lt not_opens not_last =
    plain_next w has_data_count n op at lt (record {
      not_last = not_last;
      not_block = not_in_range op.first 0x02 not_opens (omega arith) (omega arith);
      not_loop = not_in_range op.first 0x03 not_opens (omega arith) (omega arith);
      not_if = not_in_range op.first 0x04 not_opens (omega arith) (omega arith);
    })

turns : (w : Window Fault) (has_data_count : Bool) (outer : List Enclosing) (number : ℕ) (by_else : Bool) (seqs : Seqs) (at : ℕ)
    → ending w has_data_count outer number by_else seqs at ≡ turned w has_data_count (closed_to outer number by_else seqs) (is_alone outer) at
turns w has_data_count [] number by_else seqs at = all_end w has_data_count number by_else seqs at
turns w has_data_count (v ∷ outer) number by_else seqs at = closes w has_data_count v outer number by_else seqs at

pub leaves : (w : Window Fault) (has_data_count : Bool) (n : Nest) (op : Opcode) (at : ℕ) → is_last op ≡ true
    → after w has_data_count n op at ≡ turned w has_data_count (closed (op.first == 0x05) n) (is_alone n.outer) at
leaves w has_data_count n op at last = ends w has_data_count n op at last ∙ turns w has_data_count n.outer n.number (op.first == 0x05) (written n) at

-- ---- what a refusal tells

pub told_before : {A B : Type 0} (all : Given B) (r : Given A) (g : A → ℕ → Given B) (told : Option Fault) → all ≡ read_on r g → IfSome told (λ fault. r ≡ Err fault) → IfSome told (λ fault. all ≡ Err fault)
told_before {A} {B} all r g (Some fault) e h = e ∙ ap (λ (x : Given A). read_on x g) h
told_before all r g None e h = h

pub gone_on : {A B : Type 0} (all : Given B) (r : Given A) (g : A → ℕ → Given B) (x : A) (next : ℕ) → all ≡ read_on r g → r ≡ Ok (x, next) → all ≡ g x next
gone_on {A} all r g x next e h = e ∙ ap (λ (y : Given A). read_on y g) h

pub led_before : {A : Type 0} (all : Answer) (r : Given A) (g : A → ℕ → Answer) (w : Window Fault) (has_data_count : Bool) (n : Nest) (bad other : ReadBad) (result : Result (Bool × ℕ) ReadBad) → result ≡ Err other → other ≡ bad → all ≡ read_on r g
    → IfSome (fault_of bad) (λ fault. r ≡ Err fault) → LeadsTo all w has_data_count n result
led_before {A} all r g w has_data_count n bad other result is same e h =
    let P : Result (Bool × ℕ) ReadBad → Type 0 = λ x. LeadsTo all w has_data_count n x in
    let Q : ReadBad → Type 0 = λ b. IfSome (fault_of b) (λ fault. r ≡ Err fault) in
    subst P (sym is) (told_before all r g (fault_of other) e (subst Q (sym same) h))

-- ---- places

-- the place after a form is not before it, and later where the form has a byte
pub not_before : {A : Type 0} (f : Grammar A) → ((n : ℕ) → IsLawful n f) → (w : Window Fault) (at : ℕ) (x : A) (next : ℕ) → f.read w at ≡ Ok (x, next) → at ≤ next
not_before f lawful w at x next e =
    let b = (lawful (suc (length w.bytes))).sound w at (omega arith) x next e in
    omega (arith, b.3)

pub later : {A : Type 0} (f : Grammar A) → HasBytes f → ((n : ℕ) → IsLawful n f) → (w : Window Fault) (at : ℕ) (x : A) (next : ℕ) → f.read w at ≡ Ok (x, next) → at < next
later f some lawful w at x next e =
    let b = (lawful (suc (length w.bytes))).sound w at (omega arith) x next e in
    omega (arith, b.3, some x b.0 b.4)

pub opcode_later : (w : Window Fault) (around : Around) (at : ℕ) (op : Opcode) (next : ℕ) → (checked opcode (allowed around)).read w at ≡ Ok (op, next) → at < next
opcode_later w around at op next e =
    later (checked opcode (allowed around)) (checked_has_bytes opcode (allowed around) opcode_has_bytes) (λ n. checked_lawful n opcode (allowed around) (opcode_lawful n)) w at op next e

-- ---- each open sequence keeps its place

abbrev HaveTheirPlace : Seqs → List Enclosing → Type 0
HaveTheirPlace seqs outer = All (λ v. v.number < length seqs) outer

weaker : (seqs more : Seqs) (outer : List Enclosing) → length seqs ≤ length more → HaveTheirPlace seqs outer → HaveTheirPlace more outer
weaker seqs more outer le h = λ i d lt. omega (arith, h i d lt)

one_more_place : (seqs : Seqs) (v : Enclosing) (outer : List Enclosing) → v.number < length seqs → HaveTheirPlace seqs outer → HaveTheirPlace seqs (v ∷ outer)
one_more_place seqs v outer lt h =
    let P : Enclosing → Type 0 = λ u. u.number < length seqs in
    All-append P (v ∷ []) outer (All-push P [] v (λ i d none. absurd (omega arith)) lt) h

pub opened_is_nest : (o : Opener) (n : Nest) → IsNest n → IsNest (opened o n)
opened_is_nest o n h = record {
  inner = omega (arith, one_longer n.seqs);
  outer =
      one_more_place (n.seqs ++ [] ∷ []) (record { number = n.number; instrs = n.instrs; opener = o }) n.outer (omega (arith, h.inner, one_longer n.seqs))
      (weaker n.seqs (n.seqs ++ [] ∷ []) n.outer (omega (arith, one_longer n.seqs)) h.outer);
}

back_is_nest : (v : Enclosing) (outer : List Enclosing) (seqs : Seqs) (instrs : List Instr) → v.number < length seqs → HaveTheirPlace seqs outer → IsNest (back_in v outer seqs instrs)
back_is_nest v outer seqs instrs lt h = record { inner = lt; outer = h }

closed_in_is_nest : (o : Opener) (v : Enclosing) (outer : List Enclosing) (number : ℕ) (by_else : Bool) (seqs : Seqs) → v.number < length seqs → HaveTheirPlace seqs outer → IsNest (closed_in o v outer number by_else seqs)
closed_in_is_nest (BlockOpens ty) v outer number by_else seqs lt h = back_is_nest v outer seqs (v.instrs ++ Block ty number ∷ []) lt h
closed_in_is_nest (LoopOpens ty) v outer number by_else seqs lt h = back_is_nest v outer seqs (v.instrs ++ Loop ty number ∷ []) lt h
closed_in_is_nest Else v outer number by_else seqs lt h = back_is_nest v outer seqs v.instrs lt h
closed_in_is_nest (Then ty) v outer number true seqs lt h =
    opened_is_nest Else (back_in v outer seqs (v.instrs ++ If ty number (length seqs) ∷ [])) (back_is_nest v outer seqs (v.instrs ++ If ty number (length seqs) ∷ []) lt h)
closed_in_is_nest (Then ty) v outer number false seqs lt h =
    back_is_nest v outer (seqs ++ [] ∷ []) (v.instrs ++ If ty number (length seqs) ∷ []) (omega (arith, lt, one_longer seqs)) (weaker seqs (seqs ++ [] ∷ []) outer (omega (arith, one_longer seqs)) h)

closed_to_is_nest : (outer : List Enclosing) (number : ℕ) (by_else : Bool) (seqs : Seqs) → number < length seqs → HaveTheirPlace seqs outer → IsNest (closed_to outer number by_else seqs)
closed_to_is_nest [] number by_else seqs lt h = record { inner = lt; outer = λ i d none. absurd (omega arith) }
closed_to_is_nest (v ∷ outer) number by_else seqs lt h =
    closed_in_is_nest v.opener v outer number by_else seqs (h 0 v (omega arith)) (λ i d less. h (suc i) d (omega (arith, less)))

pub closed_is_nest : (by_else : Bool) (n : Nest) → IsNest n → IsNest (closed by_else n)
closed_is_nest by_else n h =
    let long = length-set n.seqs n.number n.instrs in
    closed_to_is_nest n.outer n.number by_else (written n) (omega (arith, h.inner, long)) (weaker n.seqs (written n) n.outer (omega (arith, long)) h.outer)

pub first_is_nest : IsNest first_nest
first_is_nest = record { inner = omega arith; outer = λ i d none. absurd (omega arith) }
