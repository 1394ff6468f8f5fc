-- The making rules that go by the operation give terms of the same width and the same value at every input.
use Rattle.std.proofs.Common.{◌≡◌, ℕ, zero, suc, ◌^◌, ◌<◌, Bool, true, false, cond, ◌==◌, List, [], ◌∷◌, refl, ap, ap₂, sym, ◌∙◌, subst, arith, Option, Some, None, eqb-true}
use Rattle.std.specs.Prelude.{◌&&◌, ◌||◌, not, IsTrue, IfSome, if◌then◌else◌}
use Rattle.std.specs.List.{list_all}
use Rattle.std.specs.Option.{option_map_or}
use Rattle.std.proofs.lemmas.Bool.{and_parts, false≢true}
use Rattle.int_ops.specs.declared.operators.Width.{Width}
use Rattle.int_ops.specs.declared.operators.Width.TheVariants.{W32, W64}
use Rattle.int_ops.specs.declared.operators.Unary.TheVariants.{Eqz}
use Rattle.int_ops.specs.declared.operators.Binary.{Binary as BinaryOperation}
use Rattle.int_ops.specs.declared.operators.Binary.TheVariants.{Eq, Ne, LtS, LtU, GtS, GtU, LeS, LeU, GeS, GeU, Sub, And, Or, Xor}
use Rattle.int_ops.specs.declared.operators.Operation.{Operation}
use Rattle.int_ops.specs.declared.operators.Operation.TheVariants.{OfOne, OfTwo}
use Rattle.int_ops.specs.declared.operators.Operator.{Operator}
use Rattle.int_ops.specs.Integers.{truth}
use Rattle.int_ops.specs.Operators.{bits_of, operators, find_operator, operator_of, of_one, of_two_total, total_value, operand_bits, result_bits, unary, total}
use Rattle.int_ops.proofs.WidthLemmas.{compares as is_compared, has_room, has_room_at}
use Rattle.bv_terms.specs.Terms.{Term, Number, Symbol, Unary, Binary, Choose, Byte, Join, value_of, HasWidth, is_same}
use Rattle.bv_terms.specs.Making.{IsSound, Keeps, ByOperation, of_two_operands, of_operator, by_operation, is_the, other_side, no_side, zero_on_left, zero_on_right, adds_nothing, one_on_left, one_on_right, changes_nothing, clearing_left, clearing_right, leaves_nothing, compares, is_comparison, under_eqz, where_compared, of_comparison, with_itself, of_same}
use Rattle.bv_terms.proofs.SameLemmas.{is_same-is, same_number}
use Rattle.bv_terms.proofs.WidthLemmas.{value-below}
use Rattle.bv_terms.proofs.OperandLemmas.{left_zero, right_zero, left_one, right_one, left_clears, right_clears, and_itself, or_itself, xor_itself, sub_itself, ne_itself, eq_itself, lt_s-itself, lt_u-itself, le_s-itself, le_u-itself}

-- what a rule that fits gave
pub given : (P : Term → Type 0) (a s : Term) → Some a ≡ Some s → P a → P s
given P a s e p = let is : a ≡ s = cc in subst P is p

-- a rule that doesn't fit gave nothing
pub nothing : (P : Type 0) (s : Term) → None ≡ Some s → P
nothing P s e = cc

-- ---- by the operation

-- what a term keeps of an operation on two
abbrev Stands : BinaryOperation → Width → Width → Term → Term → Term → Type 0
Stands operation from to a b s =
    HasWidth (bits_of to) s × ((input : List ℕ) → value_of input s ≡ total_value operation (bits_of from) (value_of input a) (value_of input b))

abbrev OperationSound : ByOperation → Type 0
OperationSound rule =
    (operation : BinaryOperation) (from to : Width) (a b s : Term) → IsTrue (has_room (OfTwo operation) (bits_of from) (bits_of to))
    → rule operation (bits_of from) a b ≡ Some s → HasWidth (bits_of from) a → HasWidth (bits_of from) b → Stands operation from to a b s

abbrev HasRoom : Option Operator → Type 0
HasRoom found = IfSome found (λ o. IsTrue (has_room o.operation (bits_of o.operand) (bits_of o.result)))

module _ (rule : ByOperation) (sound : OperationSound rule) (a b s : Term) where
  at-operation : (operation : Operation) (from to : Width) → IsTrue (has_room operation (bits_of from) (bits_of to))
      → of_two_operands rule operation (bits_of from) a b ≡ Some s → HasWidth (bits_of from) a → HasWidth (bits_of from) b
      → HasWidth (bits_of to) s × ((input : List ℕ) → value_of input s ≡ of_two_total operation (bits_of from) (value_of input a) (value_of input b))
  at-operation (OfOne operation) from to room e ha hb = nothing _ s e
  at-operation (OfTwo operation) from to room e ha hb = sound operation from to a b s room e ha hb

  at-operator : (found : Option Operator) → HasRoom found → of_operator rule found a b ≡ Some s
      → HasWidth (option_map_or (λ o. bits_of o.operand) found 0) a → HasWidth (option_map_or (λ o. bits_of o.operand) found 0) b
      → HasWidth (option_map_or (λ o. bits_of o.result) found 0) s
      × ((input : List ℕ) → value_of input s ≡ option_map_or (λ o. of_two_total o.operation (bits_of o.operand) (value_of input a) (value_of input b)) found 0)
  at-operator None room e ha hb = nothing _ s e
  at-operator (Some o) room e ha hb = at-operation o.operation o.operand o.result room e ha hb

by_operation-sound : (rule : ByOperation) → OperationSound rule → IsSound (by_operation rule)
by_operation-sound rule sound (Binary op a b) s bits e h =
    let at = at-operator rule sound a b s (operator_of op) (has_room_at op) e h.2 h.3 in
    (subst (λ n. HasWidth n s) (sym h.0) at.0, at.1)
by_operation-sound rule sound _ s bits e h = nothing _ s e

-- an operation that is no comparison has the bits of its operands
same_bits : (operation : BinaryOperation) (from to : Width) → is_compared operation ≡ false → IsTrue (has_room (OfTwo operation) (bits_of from) (bits_of to)) → bits_of from ≡ bits_of to
same_bits operation from to other room =
    eqb-true (bits_of from) (bits_of to) (subst (λ (b : Bool). IsTrue (if b then true else bits_of from == bits_of to)) other room)

-- ---- a number on one side

is_the-number : (wanted : Option ℕ) (t : Term) → is_the wanted t ≡ true → (n : ℕ) × (wanted ≡ Some n) × (t ≡ Number n)
is_the-number (Some n) (Number m) e = let is : n ≡ m = same_number n m e in (n, refl, ap (λ k. Number k) (sym is))
is_the-number (Some n) (Symbol k wide) e = absurd (false≢true e)
is_the-number (Some n) (Unary op a) e = absurd (false≢true e)
is_the-number (Some n) (Binary op a b) e = absurd (false≢true e)
is_the-number (Some n) (Choose wide c a b) e = absurd (false≢true e)
is_the-number (Some n) (Byte a i) e = absurd (false≢true e)
is_the-number (Some n) (Join wide bytes) e = absurd (false≢true e)
is_the-number None t e = absurd (false≢true e)

-- what is wanted on the left leaves the right side as it is
abbrev LeavesRight : BinaryOperation → Width → Option ℕ → Type 0
LeavesRight operation w wanted = (n y : ℕ) → wanted ≡ Some n → y < 2 ^ bits_of w → (is_compared operation ≡ false) × (total_value operation (bits_of w) n y ≡ y)

abbrev LeavesLeft : BinaryOperation → Width → Option ℕ → Type 0
LeavesLeft operation w wanted = (n x : ℕ) → wanted ≡ Some n → x < 2 ^ bits_of w → (is_compared operation ≡ false) × (total_value operation (bits_of w) x n ≡ x)

module _ (operation : BinaryOperation) (from to : Width) (left right : Option ℕ) (a b s : Term)
    (room : IsTrue (has_room (OfTwo operation) (bits_of from) (bits_of to))) (ha : HasWidth (bits_of from) a) (hb : HasWidth (bits_of from) b) where
  stays-right : LeavesRight operation from left → is_the left a ≡ true → Stands operation from to a b b
  stays-right leaves test =
      let the = is_the-number left a test in
      let at = λ (input : List ℕ). leaves the.0 (value_of input b) the.1 (value-below (bits_of from) b input hb) in (
        subst (λ n. HasWidth n b) (same_bits operation from to (at []).0 room) hb,
        λ input. sym (ap (λ t. total_value operation (bits_of from) (value_of input t) (value_of input b)) the.2 ∙ (at input).1),
      )

  stays-left : LeavesLeft operation from right → is_the right b ≡ true → Stands operation from to a b a
  stays-left leaves test =
      let the = is_the-number right b test in
      let at = λ (input : List ℕ). leaves the.0 (value_of input a) the.1 (value-below (bits_of from) a input ha) in (
        subst (λ n. HasWidth n a) (same_bits operation from to (at []).0 room) ha,
        λ input. sym (ap (λ t. total_value operation (bits_of from) (value_of input a) (value_of input t)) the.2 ∙ (at input).1),
      )

  other_side-sound : LeavesRight operation from left → LeavesLeft operation from right → other_side left right a b ≡ Some s → Stands operation from to a b s
  other_side-sound rightly leftly e = go (is_the left a) (is_the right b) refl refl e
    where
      go : (x y : Bool) → is_the left a ≡ x → is_the right b ≡ y → cond x (Some b) (cond y (Some a) None) ≡ Some s → Stands operation from to a b s
      go true y test other e = given (Stands operation from to a b) b s e (stays-right rightly test)
      go false true test other e = given (Stands operation from to a b) a s e (stays-left leftly other)
      go false false test other e = nothing _ s e

  zero-below : (w : Width) → 0 < 2 ^ bits_of w
  zero-below W32 = omega arith
  zero-below W64 = omega arith

  no_side-sound : ((n y : ℕ) → left ≡ Some n → total_value operation (bits_of from) n y ≡ 0) → ((n x : ℕ) → right ≡ Some n → total_value operation (bits_of from) x n ≡ 0)
      → no_side left right a b ≡ Some s → Stands operation from to a b s
  no_side-sound rightly leftly e = go (is_the left a) (is_the right b) refl refl e
    where
      go : (x y : Bool) → is_the left a ≡ x → is_the right b ≡ y → cond (x || y) (Some (Number 0)) None ≡ Some s → Stands operation from to a b s
      go true y test other e =
          let the = is_the-number left a test in
          given (Stands operation from to a b) (Number 0) s e (
            zero-below to,
            λ input. sym (ap (λ t. total_value operation (bits_of from) (value_of input t) (value_of input b)) the.2 ∙ rightly the.0 (value_of input b) the.1),
          )
      go false true test other e =
          let the = is_the-number right b other in
          given (Stands operation from to a b) (Number 0) s e (
            zero-below to,
            λ input. sym (ap (λ t. total_value operation (bits_of from) (value_of input a) (value_of input t)) the.2 ∙ leftly the.0 (value_of input a) the.1),
          )
      go false false test other e = nothing _ s e

pub adds_nothing-sound : IsSound (by_operation adds_nothing)
adds_nothing-sound =
    by_operation-sound adds_nothing
    (λ operation from to a b s room e ha hb. other_side-sound operation from to (zero_on_left operation) (zero_on_right operation) a b s room ha hb (left_zero operation from) (right_zero operation from) e)

pub changes_nothing-sound : IsSound (by_operation changes_nothing)
changes_nothing-sound =
    by_operation-sound changes_nothing
    (λ operation from to a b s room e ha hb. other_side-sound operation from to (one_on_left operation (bits_of from)) (one_on_right operation (bits_of from)) a b s room ha hb
    (left_one operation from) (right_one operation from) e)

pub leaves_nothing-sound : IsSound (by_operation leaves_nothing)
leaves_nothing-sound =
    by_operation-sound leaves_nothing
    (λ operation from to a b s room e ha hb. no_side-sound operation from to (clearing_left operation) (clearing_right operation) a b s room ha hb
    (left_clears operation from) (right_clears operation from) e)

-- ---- one term twice

module _ (from to : Width) (a s : Term) where
  itself : (operation : BinaryOperation) → is_compared operation ≡ false → IsTrue (has_room (OfTwo operation) (bits_of from) (bits_of to)) → HasWidth (bits_of from) a
      → ((x : ℕ) → total_value operation (bits_of from) x x ≡ x) → Some a ≡ Some s → Stands operation from to a a s
  itself operation other room ha same e =
      given (Stands operation from to a a) a s e (subst (λ n. HasWidth n a) (same_bits operation from to other room) ha, λ input. sym (same (value_of input a)))

  answered : (operation : BinaryOperation) (n : ℕ) → n < 2 → ((x : ℕ) → total_value operation (bits_of from) x x ≡ n) → Some (Number n) ≡ Some s → Stands operation from to a a s
  answered operation n small same e = given (Stands operation from to a a) (Number n) s e (below to, λ input. sym (same (value_of input a)))
    where
      below : (w : Width) → n < 2 ^ bits_of w
      below W32 = omega arith
      below W64 = omega arith

  always : 1 < 2
  always = omega arith

  never : 0 < 2
  never = omega arith

  with_itself-sound : (operation : BinaryOperation) → IsTrue (has_room (OfTwo operation) (bits_of from) (bits_of to)) → HasWidth (bits_of from) a
      → with_itself operation a ≡ Some s → Stands operation from to a a s
  with_itself-sound And room ha e = itself And refl room ha (and_itself (bits_of from)) e
  with_itself-sound Or room ha e = itself Or refl room ha (or_itself (bits_of from)) e
  with_itself-sound Xor room ha e = answered Xor 0 never (xor_itself (bits_of from)) e
  with_itself-sound Sub room ha e = answered Sub 0 never (sub_itself (bits_of from)) e
  with_itself-sound Ne room ha e = answered Ne 0 never (ne_itself (bits_of from)) e
  with_itself-sound LtS room ha e = answered LtS 0 never (lt_s-itself (bits_of from)) e
  with_itself-sound LtU room ha e = answered LtU 0 never (lt_u-itself (bits_of from)) e
  with_itself-sound GtS room ha e = answered GtS 0 never (lt_s-itself (bits_of from)) e
  with_itself-sound GtU room ha e = answered GtU 0 never (lt_u-itself (bits_of from)) e
  with_itself-sound Eq room ha e = answered Eq 1 always (eq_itself (bits_of from)) e
  with_itself-sound LeS room ha e = answered LeS 1 always (le_s-itself (bits_of from)) e
  with_itself-sound LeU room ha e = answered LeU 1 always (le_u-itself (bits_of from)) e
  with_itself-sound GeS room ha e = answered GeS 1 always (le_s-itself (bits_of from)) e
  with_itself-sound GeU room ha e = answered GeU 1 always (le_u-itself (bits_of from)) e
  with_itself-sound operation room ha e = nothing _ s e

pub of_same-sound : IsSound (by_operation of_same)
of_same-sound = by_operation-sound of_same (λ operation from to a b s room e ha hb. go operation from to a b s room ha (is_same a b) refl e)
  where
    go : (operation : BinaryOperation) (from to : Width) (a b s : Term) → IsTrue (has_room (OfTwo operation) (bits_of from) (bits_of to)) → HasWidth (bits_of from) a
        → (x : Bool) → is_same a b ≡ x → cond x (with_itself operation a) None ≡ Some s → Stands operation from to a b s
    go operation from to a b s room ha true test e =
        subst (λ t. Stands operation from to a t s) (is_same-is a b test) (with_itself-sound from to a s operation room ha e)
    go operation from to a b s room ha false test e = nothing _ s e

-- ---- comparisons

-- what a comparison's opcode means: a test for 0, or a comparison
answers : Operation → Bool
answers (OfOne Eqz) = true
answers (OfOne operation) = false
answers (OfTwo operation) = is_compared operation

find-at : (test : ℕ → Operator → Bool) (op : ℕ) (rows : List (ℕ × Operator)) → IsTrue (list_all (λ row. test row.0 row.1) rows)
    → IfSome (find_operator op rows) (λ o. IsTrue (test op o))
find-at test op [] h = tt
find-at test op (row ∷ rest) h =
    let passes = and_parts (test row.0 row.1) (list_all (λ row. test row.0 row.1) rest) h in
    go (op == row.0) refl passes.0 (find-at test op rest passes.1)
  where
    go : (b : Bool) → (op == row.0) ≡ b → IsTrue (test row.0 row.1) → IfSome (find_operator op rest) (λ o. IsTrue (test op o))
        → IfSome (if b then Some row.1 else find_operator op rest) (λ o. IsTrue (test op o))
    go true same here later = subst (λ n. IsTrue (test n row.1)) (sym (same_number op row.0 same)) here
    go false same here later = later

test : ℕ → Operator → Bool
test op o = if compares op then answers o.operation else true

answers-at : (op : ℕ) → IfSome (operator_of op) (λ o. IsTrue (test op o))
unfolding operator_of test answers
answers-at op = find-at test op operators refl

truth-small : (b : Bool) → truth b < 2
truth-small true = omega arith
truth-small false = omega arith

compared-small : (operation : BinaryOperation) (N x y : ℕ) → is_compared operation ≡ true → total_value operation N x y < 2
compared-small Eq N x y ok = truth-small _
compared-small Ne N x y ok = truth-small _
compared-small LtS N x y ok = truth-small _
compared-small LtU N x y ok = truth-small _
compared-small GtS N x y ok = truth-small _
compared-small GtU N x y ok = truth-small _
compared-small LeS N x y ok = truth-small _
compared-small LeU N x y ok = truth-small _
compared-small GeS N x y ok = truth-small _
compared-small GeU N x y ok = truth-small _
compared-small operation N x y ok = absurd (false≢true ok)

small-one : (operation : Operation) (M N x : ℕ) → answers operation ≡ true → of_one operation M N x < 2
unfolding answers
small-one (OfOne Eqz) M N x ok = truth-small _
small-one (OfOne operation) M N x ok = absurd (false≢true ok)
small-one (OfTwo operation) M N x ok = no_more
  where
    no_more : 0 < 2
    no_more = omega arith

small-two : (operation : Operation) (N x y : ℕ) → answers operation ≡ true → of_two_total operation N x y < 2
unfolding answers
small-two (OfOne operation) N x y ok = no_more
  where
    no_more : 0 < 2
    no_more = omega arith
small-two (OfTwo operation) N x y ok = compared-small operation N x y ok

answers-of : (op : ℕ) (o : Operator) → compares op ≡ true → IsTrue (test op o) → answers o.operation ≡ true
unfolding test
answers-of op o is h = subst (λ (b : Bool). IsTrue (if b then answers o.operation else true)) is h

unary-small : (op x : ℕ) → compares op ≡ true → unary op x < 2
unary-small op x is = go (operator_of op) (answers-at op)
  where
    go : (found : Option Operator) → IfSome found (λ o. IsTrue (test op o)) → option_map_or (λ o. of_one o.operation (bits_of o.operand) (bits_of o.result) x) found 0 < 2
    go None h = omega arith
    go (Some o) h = small-one o.operation (bits_of o.operand) (bits_of o.result) x (answers-of op o is h)

total-small : (op x y : ℕ) → compares op ≡ true → total op x y < 2
total-small op x y is = go (operator_of op) (answers-at op)
  where
    go : (found : Option Operator) → IfSome found (λ o. IsTrue (test op o)) → option_map_or (λ o. of_two_total o.operation (bits_of o.operand) x y) found 0 < 2
    go None h = omega arith
    go (Some o) h = small-two o.operation (bits_of o.operand) x y (answers-of op o is h)

comparison-small : (t : Term) (input : List ℕ) → is_comparison t ≡ true → value_of input t < 2
comparison-small (Unary op a) input e = unary-small op (value_of input a) e
comparison-small (Binary op a b) input e = total-small op (value_of input a) (value_of input b) e
comparison-small _ input e = absurd (false≢true e)

-- the tests themselves

eqz_is : (x : ℕ) → unary 0x45 x ≡ truth (x == 0)
unfolding operator_of
eqz_is x = refl

ne_is : (x : ℕ) → total 0x47 x 0 ≡ truth (not (x == 0))
unfolding operator_of
ne_is x = refl

eqz_operand : operand_bits 0x45 ≡ 32
unfolding operator_of
eqz_operand = refl

eqz_result : result_bits 0x45 ≡ 32
unfolding operator_of
eqz_result = refl

ne_operand : operand_bits 0x47 ≡ 32
unfolding operator_of
ne_operand = refl

ne_result : result_bits 0x47 ≡ 32
unfolding operator_of
ne_result = refl

twice : (x : ℕ) → x < 2 → truth (truth (x == 0) == 0) ≡ x
twice zero h = refl
twice (suc zero) h = refl
twice (suc (suc x)) h = absurd (omega arith)

not_zero : (x : ℕ) → x < 2 → truth (not (x == 0)) ≡ x
not_zero zero h = refl
not_zero (suc zero) h = refl
not_zero (suc (suc x)) h = absurd (omega arith)

eqz_twice : (t : Term) (bits : ℕ) → is_comparison t ≡ true → HasWidth bits (Unary 0x45 (Unary 0x45 t)) → Keeps bits (Unary 0x45 (Unary 0x45 t)) t
eqz_twice t bits compared h = (
  subst (λ n. HasWidth n t) (eqz_operand ∙ sym eqz_result ∙ sym h.0) h.2.2,
  λ input. sym (eqz_is (unary 0x45 (value_of input t)) ∙ ap (λ (n : ℕ). truth (n == 0)) (eqz_is (value_of input t)) ∙ twice (value_of input t) (comparison-small t input compared)),
)

ne_zero : (t : Term) (bits : ℕ) → is_comparison t ≡ true → HasWidth bits (Binary 0x47 t (Number 0)) → Keeps bits (Binary 0x47 t (Number 0)) t
ne_zero t bits compared h = (
  subst (λ n. HasWidth n t) (ne_operand ∙ sym ne_result ∙ sym h.0) h.2,
  λ input. sym (ne_is (value_of input t) ∙ not_zero (value_of input t) (comparison-small t input compared)),
)

where_compared-is : (o : Option Term) (s : Term) → where_compared o ≡ Some s → (o ≡ Some s) × (is_comparison s ≡ true)
where_compared-is None s e = let wrong : ⊥ = cc in absurd wrong
where_compared-is (Some t) s e = go (is_comparison t) refl e
  where
    go : (b : Bool) → is_comparison t ≡ b → cond b (Some t) None ≡ Some s → (Some t ≡ Some s) × (is_comparison s ≡ true)
    go true is e = let same : t ≡ s = cc in (e, ap is_comparison (sym same) ∙ is)
    go false is e = let wrong : ⊥ = cc in absurd wrong

under_eqz-is : (t s : Term) → under_eqz t ≡ Some s → t ≡ Unary 0x45 s
under_eqz-is (Unary op a) s e = go (op == 0x45) refl e
  where
    go : (b : Bool) → (op == 0x45) ≡ b → cond b (Some a) None ≡ Some s → Unary op a ≡ Unary 0x45 s
    go true is e =
        let same : a ≡ s = cc in
        let code : op ≡ 0x45 = same_number op 0x45 is in ap₂ (λ n t. Unary n t) code same
    go false is e = let wrong : ⊥ = cc in absurd wrong
under_eqz-is _ s e = let wrong : ⊥ = cc in absurd wrong

pub of_comparison-sound : IsSound of_comparison
of_comparison-sound (Unary op a) s bits e h = go (op == 0x45) refl e
  where
    go : (b : Bool) → (op == 0x45) ≡ b → cond b (where_compared (under_eqz a)) None ≡ Some s → Keeps bits (Unary op a) s
    go true is e =
        let compared = where_compared-is (under_eqz a) s e in
        let under : a ≡ Unary 0x45 s = under_eqz-is a s compared.0 in
        let code : op ≡ 0x45 = same_number op 0x45 is in
        let all : Unary op a ≡ Unary 0x45 (Unary 0x45 s) = ap₂ (λ n t. Unary n t) code under in
        subst (λ t. Keeps bits t s) (sym all) (eqz_twice s bits compared.1 (subst (HasWidth bits) all h))
    go false is e = nothing _ s e
of_comparison-sound (Binary op a b) s bits e h = go (op == 0x47) (is_the (Some 0) b) refl refl e
  where
    go : (x y : Bool) → (op == 0x47) ≡ x → is_the (Some 0) b ≡ y → cond (x && y) (where_compared (Some a)) None ≡ Some s → Keeps bits (Binary op a b) s
    go true true is zero_there e =
        let compared = where_compared-is (Some a) s e in
        let first : a ≡ s = cc in
        let the = is_the-number (Some 0) b zero_there in
        let second : b ≡ Number 0 = the.2 ∙ ap (λ k. Number k) (number_is 0 the.0 the.1) in
        let code : op ≡ 0x47 = same_number op 0x47 is in
        let all : Binary op a b ≡ Binary 0x47 s (Number 0) = cc in
        subst (λ t. Keeps bits t s) (sym all) (ne_zero s bits compared.1 (subst (HasWidth bits) all h))
      where
        number_is : (m n : ℕ) → Some m ≡ Some n → n ≡ m
        number_is m n e = cc
    go true false is zero_there e = nothing _ s e
    go false y is zero_there e = nothing _ s e
of_comparison-sound _ s bits e h = nothing _ s e
