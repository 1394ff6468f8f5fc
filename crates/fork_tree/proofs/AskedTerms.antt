-- The term that a node's members are asked about: its value, its width and its symbols.
use Rattle.std.proofs.Common.{◌≡◌, ℕ, zero, suc, ◌+◌, ◌^◌, ◌<◌, List, ◌++◌, eqb-true, refl, sym, ap, ◌∙◌, subst, arith}
use Rattle.std.specs.Prelude.{◌↔◌, Bool, true, false, not, ◌==◌, if◌then◌else◌, IsTrue, Some, None, unwrap_or, Result, Ok, Err}
use Rattle.std.proofs.lemmas.List.Elements.{All-weaker}
use Rattle.wasm_ast.specs.declared.runs.Draw.{Draw}
use Rattle.wasm_reduction.specs.Configurations.{Question, End, Config}
use Rattle.wasm_reduction.specs.Instantiation.{first_config}
use Rattle.wasm_reduction.specs.Runs.{Trace, no_trace, Going, Halt, Stands, Ended, Bound, Deep, Turned, On, Over, by_list, follow, follows, started_by, then_follow}
use Rattle.wasm_reduction.specs.RunImages.{IsAnswered, turned_image, halt_image, trace_of}
use Rattle.wasm_reduction.specs.Scripts.{Script, Asked, Passes, drawn, widths}
use Rattle.wasm_reduction.proofs.ScriptLaws.{left-comes}
use Rattle.wasm_reduction.proofs.ScriptPlaces.{widths-drawn}
use Rattle.wasm_reduction.proofs.ScriptAgain.{Extends}
use Rattle.wasm_reduction.proofs.ListedRuns.{runs-longer, turn-asks}
use Rattle.int_ops.specs.Integers.{ne, truth}
use Rattle.int_ops.specs.Operators.{operator_of, is_binary, operand_bits, result_bits, total}
use Rattle.bv_terms.specs.Terms.{Term, Number, Symbol, Unary, Binary, Choose, Byte, Join, is_number, width_of, value_of, HasWidth, HasBits}
use Rattle.bv_terms.specs.Making.{terms, made, rules, first_of, first_made, where_compared, is_comparison}
use Rattle.bv_terms.proofs.KindLemmas.{terms-give}
use Rattle.bv_terms.proofs.SymbolLemmas.{made-symbols}
use Rattle.bit_blast.specs.Meanings.{IsProper, AreProper}
use Rattle.sym_state.specs.Nodes.{Condition, CanExplore, Node, IsMemberAt}
use Rattle.sym_state.specs.NextNodes.{IsOther, MembersAsk}
use Rattle.sym_state.specs.States.{HasOver, over_terms}
use Rattle.sym_state.proofs.DrawnLemmas.{asked-held, symbols-more}
use Rattle.sym_state.proofs.LeastLemmas.{over-of, stays, later-extends, first-drawn}
use Rattle.sym_state.proofs.PlaceLemmas.{over, turn-next}
use Rattle.sym_state.proofs.QuestionTurns.{Before}
use Rattle.sym_state.proofs.ValueLemmas.{listed, members-ask, keeps-operations}
use Rattle.fork_tree.specs.Marks.{Words, AreWords, differs_from}

-- ---- where the run over terms asks

-- the run over terms stands at the question of a term, whose value is the number that a member is asked about
pub record AsksTerm (n : Node) (I : List ℕ) (q : Question) (v : ℕ) (d : List Draw) (t : Term) : Type 0 where
  pub turns : ℕ
  pub trace : Trace
  pub stands : over_terms n turns ≡ Over (Stands q t) trace
  pub value : v ≡ value_of I t
  pub symbols : trace.symbols ≡ widths d

stands-image : (I : List ℕ) (k : Halt Term) (q : Question) (v : ℕ) → halt_image (value_of I) k ≡ Stands q v → (t : Term) × (k ≡ Stands q t) × (v ≡ value_of I t)
stands-image I (Stands p t) q v e = let same : Stands p (value_of I t) ≡ Stands q v = e in (t, cc, cc)
stands-image I (Ended x) q v e = absurd cc
stands-image I Bound q v e = absurd cc
stands-image I Deep q v e = absurd cc

pub asks-term : (n : Node) → CanExplore n.invocation → (I : List ℕ) (q : Question) (v : ℕ) (d : List Draw) (rest : Script) → IsMemberAt n I (Asked q v d rest) → (t : Term) × AsksTerm n I q v d t
asks-term n can I q v d rest at =
    let i = n.invocation in
    let c = left-comes i.«module» i.entry i.args I i.steps Passes n.answers at.script (Asked q v d rest) at.is_script at.past in
    let image : turned_image (value_of I) (over_terms n c.turns) ≡ Over c.halt c.trace = sym (listed n can I c.turns) ∙ c.over in
    let o = over-of (value_of I) (over_terms n c.turns) c.halt c.trace image in
    let both : Over (halt_image (value_of I) o.0) c.trace ≡ Over c.halt c.trace = sym (ap (turned_image (value_of I)) o.1) ∙ image in
    let halts : halt_image (value_of I) o.0 ≡ c.halt = cc in
    let t = stands-image I o.0 q v (halts ∙ c.first.0) in (
      t.0,
      record {
        turns = c.turns;
        trace = c.trace;
        stands = o.1 ∙ ap (λ k. Over k c.trace) t.1;
        value = t.2;
        symbols = sym (widths-drawn I 0 c.trace.symbols) ∙ ap (λ l. widths l) c.first.1;
      },
    )

-- what is known of the term that words give for a node
pub record KnownTerm (n : Node) (I : List ℕ) (q : Question) (v : ℕ) (d : List Draw) (t : Term) : Type 0 where
  pub at : AsksTerm n I q v d t
  pub asks : MembersAsk n q t
  pub held : HasOver (widths d) 32 t

pub known-term : (words : Words) (n : Node) → CanExplore n.invocation → AreWords n.invocation words → (I : List ℕ) (q : Question) (v : ℕ) (d : List Draw) (rest : Script) → IsMemberAt n I (Asked q v d rest)
    → KnownTerm n I q v d (words.asked n.answers)
known-term words n can are I q v d rest at =
    let a = asks-term n can I q v d rest at in
    let t = a.0 in
    let is : words.asked n.answers ≡ t = are.asked n.answers q t (a.1.turns, a.1.trace, a.1.stands) in
    subst (λ t. KnownTerm n I q v d t) (sym is) (record {
      at = a.1;
      asks = members-ask n can q t a.1.turns a.1.trace a.1.stands;
      held = subst (λ draws. HasOver draws 32 t) a.1.symbols (asked-held n can q t a.1.turns a.1.trace a.1.stands);
    })

-- ---- later draws

-- a member of a node that has more answers has drawn more
pub drawn-more : (n m : Node) → CanExplore m.invocation → m.invocation ≡ n.invocation → (more : List ℕ) → m.answers ≡ n.answers ++ more → (symbols : List Bool) → Before n symbols
    → (I : List ℕ) (left : Script) → IsMemberAt m I left → Extends symbols (widths (drawn left))
drawn-more n m can same more answers symbols before I left at =
    let i = m.invocation in
    let T = before.turns in
    let c = left-comes i.«module» i.entry i.args I i.steps Passes m.answers at.script left at.is_script at.past in
    let o = over-of (value_of I) (over_terms m c.turns) c.halt c.trace (sym (listed m can I c.turns) ∙ c.over) in
    let longer : over n.invocation (n.answers ++ more) T ≡ over_terms n T =
    runs-longer terms terms.symbol n.invocation.«module» n.invocation.entry n.invocation.args n.invocation.steps T n.answers more (over_terms n T) before.answered refl in
    let alike : over_terms m T ≡ over_terms n T = ap (λ i. over i m.answers T) same ∙ ap (λ A. over n.invocation A T) answers ∙ longer in
    let late : (trace_of (over_terms m (T + c.turns))).symbols ≡ c.trace.symbols = ap (λ x. (trace_of x).symbols) (stays m c.turns T o.0 c.trace o.1) in
    let order : c.turns + T ≡ T + c.turns = omega arith in
    let grown : Extends (trace_of (over_terms m T)).symbols (trace_of (over_terms m (T + c.turns))).symbols =
    subst (λ k. Extends (trace_of (over_terms m T)).symbols (trace_of (over_terms m k)).symbols) order (later-extends m T c.turns) in
    let here : widths (drawn left) ≡ c.trace.symbols = ap (λ l. widths l) (sym (first-drawn I c.halt c.trace left c.first)) ∙ widths-drawn I 0 c.trace.symbols in
    (grown.0, here ∙ sym late ∙ grown.1 ∙ ap (λ l. l ++ grown.0) (ap (λ x. (trace_of x).symbols) alike ∙ before.drawn))

-- ---- terms as conditions

width-is : (t : Term) (bits : ℕ) → is_number t ≡ false → HasWidth bits t → bits ≡ width_of t
width-is (Number n) bits e h = absurd cc
width-is (Symbol k wide) bits e h = h
width-is (Unary op a) bits e h = h.0
width-is (Binary op a b) bits e h = h.0
width-is (Choose wide c a b) bits e h = h.0
width-is (Byte a i) bits e h = h.0
width-is (Join wide bytes) bits e h = h.0

not-true : (b : Bool) → b ≡ false → IsTrue (not b)
not-true true e = absurd cc
not-true false e = refl

pub proper : (draws : List Bool) (bits : ℕ) (t : Term) → is_number t ≡ false → HasOver draws bits t → IsProper draws t
proper draws bits t e h = record {
  no_number = not-true (is_number t) e;
  typed = subst (λ b. HasWidth b t) (width-is t bits e h.0.0) h.0.0;
  drawn = h.1;
}

pub proper-more : (draws more : List Bool) (conditions : List Condition) → AreProper draws conditions → AreProper (draws ++ more) conditions
proper-more draws more conditions h =
    All-weaker (λ condition. IsProper draws condition.0) (λ condition. IsProper (draws ++ more) condition.0)
    (λ condition p. record { no_number = p.no_number; typed = p.typed; drawn = symbols-more draws more condition.0 p.drawn }) conditions h

-- ---- whether a word is another than a number

ne-class : IsTrue (is_binary 0x47)
unfolding operator_of
ne-class = refl

ne-operands : operand_bits 0x47 ≡ 32
unfolding operator_of
ne-operands = refl

ne-result : result_bits 0x47 ≡ 32
unfolding operator_of
ne-result = refl

ne-value : (x y : ℕ) → total 0x47 x y ≡ ne x y
unfolding operator_of
ne-value x y = refl

pub differs-held : (draws : List Bool) (t : Term) (a : ℕ) → a < 2 ^ 32 → HasOver draws 32 t → HasOver draws 32 (differs_from t a)
differs-held draws t a below h =
    let mine : HasBits (operand_bits 0x47) t = subst (λ bits. HasBits bits t) (sym ne-operands) h.0 in
    let theirs : HasBits (operand_bits 0x47) (Number a) = subst (λ bits. HasBits bits (Number a)) (sym ne-operands) (below, λ input. below) in
    let made : HasBits (result_bits 0x47) (differs_from t a) = terms-give.binary 0x47 t (Number a) ne-class mine theirs in
    (subst (λ bits. HasBits bits (differs_from t a)) ne-result made, made-symbols draws (Binary 0x47 t (Number a)) (h.1, tt))

ne-zero : (x a : ℕ) → (ne x a ≡ 0) ↔ (x ≡ a)
ne-zero x a = go (x == a) refl
  where
    go : (b : Bool) → (x == a) ≡ b → (ne x a ≡ 0) ↔ (x ≡ a)
    go true e = (λ h. eqb-true x a e, λ h. ap (λ b. truth (not b)) e)
    go false e = (λ h. absurd (let one : ne x a ≡ 1 = ap (λ b. truth (not b)) e in omega (arith, h, one)), λ h. absurd (let other : (x == a) ≡ true = grind (arith, h) in cc))

pub differs-other : (t : Term) (a : ℕ) → a < 2 ^ 32 → HasBits 32 t → IsOther (differs_from t a) t a
differs-other t a below h I =
    let mine : HasBits (operand_bits 0x47) t = subst (λ bits. HasBits bits t) (sym ne-operands) h in
    let theirs : HasBits (operand_bits 0x47) (Number a) = subst (λ bits. HasBits bits (Number a)) (sym ne-operands) (below, λ input. below) in
    let is : value_of I (differs_from t a) ≡ ne (value_of I t) a = (keeps-operations I).binary 0x47 t (Number a) ne-class mine theirs ∙ ne-value (value_of I t) a in
    subst (λ v. (v ≡ 0) ↔ (value_of I t ≡ a)) (sym is) (ne-zero (value_of I t) a)

-- the only rule that fits is that of a comparison and 0
ne-rules : (t : Term) (a : ℕ) → is_number t ≡ false → first_of rules (Binary 0x47 t (Number a)) ≡ first_made (if 0 == a then where_compared (Some t) else None) None
unfolding operator_of
ne-rules (Number n) a e = absurd cc
ne-rules (Symbol k wide) a e = refl
ne-rules (Unary op b) a e = refl
ne-rules (Binary op b c) a e = refl
ne-rules (Choose wide b c d) a e = refl
ne-rules (Byte b i) a e = refl
ne-rules (Join wide bytes) a e = refl

pub differs-no-number : (t : Term) (a : ℕ) → is_number t ≡ false → is_number (differs_from t a) ≡ false
unfolding made
differs-no-number t a e = ap (λ o. is_number (unwrap_or o (Binary 0x47 t (Number a)))) (ne-rules t a e) ∙ go (0 == a) (is_comparison t)
  where
    go : (b c : Bool) → is_number (unwrap_or (first_made (if b then (if c then Some t else None) else None) None) (Binary 0x47 t (Number a))) ≡ false
    go true true = e
    go true false = refl
    go false c = refl
