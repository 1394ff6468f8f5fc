-- An expression that is spelled has its shape.
use Rattle.std.proofs.Common.{◌≡◌, ℕ, zero, suc, ◌+◌, ◌^◌, ◌<◌, ◌≤◌, ◌⊎◌, inl, inr, Bool, true, false, List, [], ◌∷◌, ◌++◌, length, Result, Ok, Err, All, refl, sym, ap, subst, arith, length-append}
use Rattle.std.specs.Prelude.{◌==◌}
use Rattle.std.proofs.lemmas.List.Elements.{All-nil, All-cons, All-append}
use Rattle.grammar_forms.specs.Forms.{gives, when◌form◌else◌}
use Rattle.grammar_forms.specs.Laws.{HasBytes}
use Rattle.wasm_ast.specs.Numbering.{names, named_by}
use Rattle.wasm_ast.specs.Shape.{InstrHasShape, SeqHasShape, ExprHasShape}
use Rattle.wasm_ast.specs.declared.instructions.Instr.{Instr}
use Rattle.wasm_ast.specs.declared.instructions.Instr.TheVariants.{Block, Loop, If}
use Rattle.wasm_ast.specs.declared.instructions.Expr.{Expr}
use Rattle.wasm_binary.specs.Faults.{Fault, byte, outside}
use Rattle.wasm_binary.specs.Values.{Grammar}
use Rattle.wasm_binary.specs.Types.{block_type}
use Rattle.wasm_binary.specs.Instructions.{Opcode, Around, is_opcode, is_outside, allowed_after_FC, as_opcode, allowed, Sequence, all_of, empty_sequence, WithInside, Sequences, block_of, if_of, instruction, is_last, before, after_opcode, sequence_below, expression}
use Rattle.wasm_binary.proofs.GrammarLaws.{opcode_has_bytes}
use Rattle.wasm_binary.proofs.ShapeOfLists.{AreFew, few_of, SpellsOnly}
use Rattle.wasm_ast.proofs.LaidSequences.{IsLaid, none_laid, wrapped, appended, numbered}
use Rattle.wasm_binary.proofs.ShapeOfInstructions.{IsPlainOpcode, plain_only, or_not}
use Rattle.owi_base.proofs.Choices.{chosen}

-- ---- opcodes

abbrev opcode_ok : Opcode → Result Opcode (ℕ → Fault)
opcode_ok op = Ok op

as_is : (r : Result ℕ (ℕ → Fault)) (op : Opcode) → as_opcode 0xFC r ≡ Ok op → op.first ≡ 0xFC
as_is (Ok n) op e = let same : (let x : Opcode = record { first = 0xFC; second = n } in x) ≡ op = cc in sym (ap (λ (x : Opcode). x.first) same)
as_is (Err fault) op e = absurd cc

abbrev IsKnown : Around → Opcode → Type 0
IsKnown around op = (is_opcode around op.first ≡ true) ⊎ (op.first ≡ 0xFC)

is_known : (around : Around) (x op : Opcode) → allowed around x ≡ Ok op → IsKnown around op
is_known around x op e =
    elim (chosen (x.first == 0xFC) (as_opcode 0xFC (allowed_after_FC around x.second)) _ (opcode_ok op) e) [
      | inl fc ↦ inr (as_is (allowed_after_FC around x.second) op fc.1)
      | inr other ↦
          elim (chosen (is_opcode around x.first) (opcode_ok x) _ (opcode_ok op) other.1) [
            | inl is ↦ let both = is.1 in let same : x ≡ op = cc in let P : Opcode → Type 0 = λ y. is_opcode around y.first ≡ true in inl (subst P same is.0)
            | inr none ↦
                elim (chosen (is_outside x.first) (Err outside) (Err byte) (opcode_ok op) none.1) [
                  | inl out ↦ let both = out.1 in absurd cc
                  | inr bad ↦ let both = bad.1 in absurd cc
                ]
          ]
    ]

-- ---- sequences

-- what is known of a sequence that a text spells, where the sequences inside it are numbered from k on
pub record IsSequence (k : ℕ) (s : Sequence) (text : List ℕ) : Type 0 where
  pub laid : IsLaid k (names s.instrs) s.inside
  pub instrs : All InstrHasShape s.instrs
  pub inside : All SeqHasShape s.inside
  pub few : length s.instrs + length s.inside < length text

-- the same of an instruction with the sequences inside it
pub record IsInstruction (k : ℕ) (o : WithInside) (text : List ℕ) : Type 0 where
  pub laid : IsLaid k (named_by o.instr) o.inside
  pub instr : InstrHasShape o.instr
  pub inside : All SeqHasShape o.inside
  pub few : length o.inside ≤ length text

abbrev All_sequences : Sequences → Type 0
All_sequences sequence = (b : Bool) (k : ℕ) (s : Sequence) (text : List ℕ) → AreFew text → (sequence b k).Spells s text → IsSequence k s text

seq_shape : (k : ℕ) (s : Sequence) (text : List ℕ) → length text < 2 ^ 32 → IsSequence k s text → SeqHasShape s.instrs
seq_shape k s text short is = record { each = is.instrs; short = omega (arith, short, is.few) }

block_type_has_bytes : HasBytes block_type
block_type_has_bytes ty text s = omega (arith, ap length s.2)

-- by a test that is known
either : {A : Type 0} (b : Bool) (f g : Grammar A) (P : A → List ℕ → Type 0)
    → (b ≡ true → (x : A) (text : List ℕ) → AreFew text → f.Spells x text → P x text)
    → (b ≡ false → (x : A) (text : List ℕ) → AreFew text → g.Spells x text → P x text)
    → (x : A) (text : List ℕ) → AreFew text → (when b form f else g).Spells x text → P x text
either true f g P p q x text few s = p refl x text few s
either false f g P p q x text few s = q refl x text few s

-- a block or a loop; the whole text is as long at least
block_only : (instr : ℕ → Instr) (sequence : Sequences) (k : ℕ) → ((n : ℕ) → named_by (instr n) ≡ n ∷ []) → ((n : ℕ) → InstrHasShape (instr n)) → All_sequences sequence
    → (o : WithInside) (text whole : List ℕ) → AreFew text → length text ≤ length whole → (block_of instr sequence k).Spells o text → IsInstruction k o whole
block_only instr sequence k named shape p o text whole few le s =
    let body = s.0 in
    let parts = few_of text s.1 s.2 s.3 few in
    let is = p false (k + 1) body s.1 parts.0 s.4 in
    let P : WithInside → Type 0 = λ x. IsInstruction k x whole in
    let Q : List ℕ → Type 0 = λ ns. IsLaid k ns (all_of body) in
    subst P (sym s.5.0) (record {
      laid = subst Q (sym (named k)) (wrapped k body.instrs body.inside is.laid);
      instr = shape k;
      inside = All-cons SeqHasShape body.instrs body.inside (seq_shape (k + 1) body s.1 parts.0.short is) is.inside;
      few = omega (arith, is.few, le, ap length s.3, length-append s.1 s.2);
    })

-- the second sequence of an if, where there is one
record IsSecond (k : ℕ) (s : Sequence) (text : List ℕ) : Type 0 where
  laid : IsLaid (k + 1) (names s.instrs) s.inside
  shape : SeqHasShape s.instrs
  inside : All SeqHasShape s.inside
  few : length s.inside ≤ length text

second_only : (sequence : Sequences) (k : ℕ) (by_else : Bool) → All_sequences sequence → (s : Sequence) (text : List ℕ) → AreFew text
    → (when by_else form sequence false (k + 1) else gives empty_sequence).Spells s text → IsSecond k s text
second_only sequence k true p s text few sp =
    let is = p false (k + 1) s text few sp in
    record { laid = is.laid; shape = seq_shape (k + 1) s text few.short is; inside = is.inside; few = omega (arith, is.few) }
second_only sequence k false p s text few sp =
    let P : Sequence → Type 0 = λ x. IsSecond k x text in
    subst P (sym sp.0) (record {
      laid = none_laid (k + 1);
      shape = record { each = All-nil InstrHasShape; short = omega arith };
      inside = All-nil SeqHasShape;
      few = omega arith;
    })

-- an if; the whole text is longer
if_only : (instr : ℕ → ℕ → Instr) (sequence : Sequences) (k : ℕ) → ((n m : ℕ) → named_by (instr n m) ≡ n ∷ m ∷ []) → ((n m : ℕ) → InstrHasShape (instr n m)) → All_sequences sequence
    → (o : WithInside) (text whole : List ℕ) → AreFew text → length text < length whole → (if_of instr sequence k).Spells o text → IsInstruction k o whole
if_only instr sequence k named shape p o text whole few lt s =
    let one = s.0 in
    let parts = few_of text s.1 s.2 s.3 few in
    let first = p true (k + 1) one s.1 parts.0 s.4 in
    let t = s.5 in
    let two = t.0 in
    let after = few_of s.2 t.1 t.2 t.3 parts.1 in
    let m = k + length (all_of one) in
    let second = second_only sequence m one.by_else p two t.1 after.0 t.4 in
    let P : WithInside → Type 0 = λ x. IsInstruction k x whole in
    let Q : List ℕ → Type 0 = λ ns. IsLaid k ns (all_of one ++ all_of two) in
    subst P (sym t.5.0) (record {
      laid = subst Q (sym (named k m)) (appended k (k ∷ []) (m ∷ []) (all_of one) (all_of two) (wrapped k one.instrs one.inside first.laid) (wrapped m two.instrs two.inside second.laid));
      instr = shape k m;
      inside =
          All-append SeqHasShape (all_of one) (all_of two)
          (All-cons SeqHasShape one.instrs one.inside (seq_shape (k + 1) one s.1 parts.0.short first) first.inside)
          (All-cons SeqHasShape two.instrs two.inside second.shape second.inside);
      few = omega (arith, first.few, second.few, lt, ap length s.3, ap length t.3, length-append s.1 s.2, length-append t.1 t.2, length-append (all_of one) (all_of two));
    })

instruction_only : (around : Around) (op : Opcode) (sequence : Sequences) (k : ℕ) → IsKnown around op → is_last op ≡ false → All_sequences sequence
    → (o : WithInside) (text : List ℕ) → AreFew text → (instruction sequence op k).Spells o text → IsInstruction k o text
instruction_only around op sequence k known last p =
    let ends = or_not (op.first == 0x0B) (op.first == 0x05) last in
    either (op.first == 0x02) _ _ (IsInstruction k)
    (λ t o text few s.
    let parts = few_of text s.1 s.2 s.3 few in
    block_only (Block s.0) sequence k (λ n. refl) (λ n. tt) p o s.2 text parts.1 (omega (arith, ap length s.3, length-append s.1 s.2)) s.5)
    (λ block. either (op.first == 0x03) _ _ (IsInstruction k)
    (λ t o text few s.
    let parts = few_of text s.1 s.2 s.3 few in
    block_only (Loop s.0) sequence k (λ n. refl) (λ n. tt) p o s.2 text parts.1 (omega (arith, ap length s.3, length-append s.1 s.2)) s.5)
    (λ loop. either (op.first == 0x04) _ _ (IsInstruction k)
    (λ t o text few s.
    let parts = few_of text s.1 s.2 s.3 few in
    let some = block_type_has_bytes s.0 s.1 s.4 in
    if_only (If s.0) sequence k (λ n m. refl) (λ n m. tt) p o s.2 text parts.1 (omega (arith, some, ap length s.3, length-append s.1 s.2)) s.5)
    (λ choice o text few s.
    let parts = few_of text s.1 s.2 s.3 few in
    let plain_opcode : IsPlainOpcode around op = record { known = known; block = block; loop = loop; choice = choice; last = ends.1; end = ends.0 } in
    let is = (plain_only around op plain_opcode).each s.0 s.1 parts.0 s.4 in
    let P : WithInside → Type 0 = λ x. IsInstruction k x text in
    let Q : List ℕ → Type 0 = λ ns. IsLaid k ns [] in
    subst P (sym s.5.0) (record {
      laid = subst Q (sym is.0) (none_laid k);
      instr = is.1;
      inside = All-nil SeqHasShape;
      few = omega arith;
    }))))

-- one instruction more
before_only : (k : ℕ) (one : WithInside) (rest : Sequence) (first text last : List ℕ) → IsInstruction k one first → IsSequence (k + length one.inside) rest last
    → 0 + length first + length last < length text → IsSequence k (before one rest) text
before_only k one rest first text last p q long = record {
  laid = appended k (named_by one.instr) (names rest.instrs) one.inside rest.inside p.laid q.laid;
  instrs = All-cons InstrHasShape one.instr rest.instrs p.instr q.instrs;
  inside = All-append SeqHasShape one.inside rest.inside p.inside q.inside;
  few = omega (arith, p.few, q.few, long, length-append one.inside rest.inside);
}

after_only : (around : Around) (op : Opcode) (inner : Sequences) (others : ℕ → Grammar Sequence) (k : ℕ) → IsKnown around op → All_sequences inner
    → ((j : ℕ) (s : Sequence) (text : List ℕ) → AreFew text → (others j).Spells s text → IsSequence j s text)
    → (s : Sequence) (text whole : List ℕ) → AreFew text → length text < length whole → (after_opcode inner others op k).Spells s text → IsSequence k s whole
after_only around op inner others k known p q s text whole few lt =
    λ sp. (either (is_last op) _ _ (λ s text. length text < length whole → IsSequence k s whole)
    (λ t s text few sp lt.
    let P : Sequence → Type 0 = λ x. IsSequence k x whole in
    subst P (sym sp.0) (record { laid = none_laid k; instrs = All-nil InstrHasShape; inside = All-nil SeqHasShape; few = omega arith }))
    (λ last s text few sp lt.
    let parts = few_of text sp.1 sp.2 sp.3 few in
    let one = instruction_only around op inner k known last p sp.0 sp.1 parts.0 sp.4 in
    let t = sp.5 in
    let more = few_of sp.2 t.1 t.2 t.3 parts.1 in
    let rest = q (k + length sp.0.inside) t.0 t.1 more.0 t.4 in
    let P : Sequence → Type 0 = λ x. IsSequence k x whole in
    subst P (sym t.5.0) (before_only k sp.0 t.0 sp.1 whole t.1 one rest (omega (arith, lt, ap length sp.3, ap length t.3, length-append sp.1 sp.2, length-append t.1 t.2))))
    s text few sp) lt

sequence_only : (n : ℕ) (has_data_count in_if : Bool) (k : ℕ) (s : Sequence) (text : List ℕ) → AreFew text → (sequence_below n has_data_count in_if k).Spells s text → IsSequence k s text
sequence_only zero has_data_count in_if k s text few sp = absurd sp
sequence_only (suc n) has_data_count in_if k s text few sp =
    let around : Around = record { has_data_count = has_data_count; else_may_follow = in_if } in
    let parts = few_of text sp.1 sp.2 sp.3 few in
    let some = opcode_has_bytes sp.4.0 sp.1 sp.4.1 in
    after_only around sp.0 (sequence_below n has_data_count) (sequence_below n has_data_count in_if) k (is_known around sp.4.0 sp.0 sp.4.2)
    (λ b j t more f q. sequence_only n has_data_count b j t more f q) (λ j t more f q. sequence_only n has_data_count in_if j t more f q)
    s sp.2 text parts.1 (omega (arith, some, ap length sp.3, length-append sp.1 sp.2)) sp.5

pub expression_only : (has_data_count : Bool) → SpellsOnly (expression has_data_count) ExprHasShape
unfolding expression
expression_only has_data_count = record {
  each = λ e text few sp.
      let t = sp.1 in
      let parts = few_of text t.1 t.2 t.3 few in
      let is = sequence_only sp.0 has_data_count false 1 t.0 t.1 parts.0 t.4 in
      let P : Expr → Type 0 = λ x. ExprHasShape x in
      subst P (sym t.5.0) (record {
        numbered = numbered t.0.instrs t.0.inside is.laid;
        each = All-cons SeqHasShape t.0.instrs t.0.inside (seq_shape 1 t.0 t.1 parts.0.short is) is.inside;
        short = omega (arith, parts.0.short, is.few);
      });
}
