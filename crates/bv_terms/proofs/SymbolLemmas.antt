-- What is made of a term has no symbol that the term hasn't.
use Rattle.std.proofs.Common.{◌≡◌, ℕ, zero, suc, Bool, true, false, cond, ◌==◌, List, [], ◌∷◌, refl, Option, Some, None}
use Rattle.std.specs.Prelude.{◌&&◌, ◌||◌, option_map, unwrap_or}
use Rattle.std.specs.List.{AllByRecursion}
use Rattle.int_ops.specs.declared.operators.Binary.{Binary as BinaryOperation}
use Rattle.int_ops.specs.declared.operators.Binary.TheVariants.{Eq, Ne, LtS, LtU, GtS, GtU, LeS, LeU, GeS, GeU, Sub, And, Or, Xor}
use Rattle.int_ops.specs.declared.operators.Operation.{Operation}
use Rattle.int_ops.specs.declared.operators.Operation.TheVariants.{OfOne, OfTwo}
use Rattle.int_ops.specs.declared.operators.Operator.{Operator}
use Rattle.int_ops.specs.Operators.{bits_of, operator_of, unary, total}
use Rattle.int_ops.specs.Bytes.{byte_of, joined}
use Rattle.wasm_rules.specs.Words.{bits_where, chosen}
use Rattle.bv_terms.specs.Terms.{Term, Number, Unary, Binary, Choose, Byte, Join, Bytes, NoBytes, Then, number_of, width_of, is_same, are_same, HasSymbols, HaveSymbols}
use Rattle.bv_terms.specs.Making.{Rule, ByOperation, of_numbers, numbers_of, chosen_by, chosen_side, byte_at, byte_of_join, bytes_of_term, bytes_where, join_of_bytes, of_two_operands, of_operator, by_operation, is_the, zero_on_left, zero_on_right, other_side, adds_nothing, one_on_left, one_on_right, changes_nothing, clearing_left, clearing_right, leaves_nothing, is_comparison, under_eqz, where_compared, of_comparison, with_itself, of_same, rules, first_of, first_made, made}
use Rattle.bv_terms.proofs.OperationRules.{given, nothing}

module _ (draws : List Bool) where
  AddsNone : Rule → Type 0
  AddsNone rule = (t s : Term) → rule t ≡ Some s → HasSymbols draws t → HasSymbols draws s

  -- a term that is chosen by a test
  when : (b : Bool) (a s : Term) → cond b (Some a) None ≡ Some s → HasSymbols draws a → HasSymbols draws s
  when true a s e h = given (HasSymbols draws) a s e h
  when false a s e h = nothing _ s e

  of_numbers-adds : (t s : Term) → of_numbers t ≡ Some s → HasSymbols draws t → HasSymbols draws s
  of_numbers-adds (Unary op (Number n)) s e h = given (HasSymbols draws) (Number (unary op n)) s e tt
  of_numbers-adds (Binary op (Number n) (Number m)) s e h = given (HasSymbols draws) (Number (total op n m)) s e tt
  of_numbers-adds (Choose wide (Number c) (Number n) (Number m)) s e h = given (HasSymbols draws) (Number (chosen c n m)) s e tt
  of_numbers-adds (Byte (Number n) i) s e h = given (HasSymbols draws) (Number (byte_of n i)) s e tt
  of_numbers-adds (Join wide bytes) s e h = go (numbers_of bytes) e
    where
      go : (o : Option (List ℕ)) → option_map (λ (ns : List ℕ). Number (joined ns)) o ≡ Some s → HasSymbols draws s
      go None e = nothing _ s e
      go (Some ns) e = given (HasSymbols draws) (Number (joined ns)) s e tt
  of_numbers-adds _ s e h = nothing _ s e

  chosen-adds : (o : Option ℕ) (a b s : Term) → chosen_by o a b ≡ Some s → HasSymbols draws a → HasSymbols draws b → HasSymbols draws s
  chosen-adds (Some n) a b s e ha hb = go (n == 0) e
    where
      go : (x : Bool) → Some (cond x b a) ≡ Some s → HasSymbols draws s
      go true e = given (HasSymbols draws) b s e hb
      go false e = given (HasSymbols draws) a s e ha
  chosen-adds None a b s e ha hb = when (is_same a b) a s e ha

  chosen_side-adds : (t s : Term) → chosen_side t ≡ Some s → HasSymbols draws t → HasSymbols draws s
  chosen_side-adds (Choose wide c a b) s e h = chosen-adds (number_of c) a b s e h.1 h.2
  chosen_side-adds _ s e h = nothing _ s e

  byte_at-adds : (bytes : Bytes) (i : ℕ) → HaveSymbols draws bytes → HasSymbols draws (byte_at bytes i)
  byte_at-adds NoBytes i h = tt
  byte_at-adds (Then t rest) zero h = h.0
  byte_at-adds (Then t rest) (suc i) h = byte_at-adds rest i h.1

  byte_of_join-adds : (t s : Term) → byte_of_join t ≡ Some s → HasSymbols draws t → HasSymbols draws s
  byte_of_join-adds (Byte (Join wide bytes) i) s e h = given (HasSymbols draws) (byte_at bytes i) s e (byte_at-adds bytes i h)
  byte_of_join-adds _ s e h = nothing _ s e

  join_of_bytes-adds : (t s : Term) → join_of_bytes t ≡ Some s → HasSymbols draws t → HasSymbols draws s
  join_of_bytes-adds (Join wide (Then (Byte t i) rest)) s e h =
      when (width_of t == bits_where wide && are_same (Then (Byte t i) rest) (bytes_of_term t 0 (bytes_where wide))) t s e h.0
  join_of_bytes-adds _ s e h = nothing _ s e

  -- ---- by the operation

  abbrev AddsNoneOfTwo : ByOperation → Type 0
  AddsNoneOfTwo rule = (operation : BinaryOperation) (N : ℕ) (a b s : Term) → rule operation N a b ≡ Some s → HasSymbols draws a → HasSymbols draws b → HasSymbols draws s

  at-operation : (rule : ByOperation) → AddsNoneOfTwo rule → (operation : Operation) (N : ℕ) (a b s : Term) → of_two_operands rule operation N a b ≡ Some s → HasSymbols draws a
      → HasSymbols draws b → HasSymbols draws s
  at-operation rule adds (OfTwo operation) N a b s e ha hb = adds operation N a b s e ha hb
  at-operation rule adds (OfOne operation) N a b s e ha hb = nothing _ s e

  at-operator : (rule : ByOperation) → AddsNoneOfTwo rule → (found : Option Operator) (a b s : Term) → of_operator rule found a b ≡ Some s → HasSymbols draws a → HasSymbols draws b
      → HasSymbols draws s
  at-operator rule adds None a b s e ha hb = nothing _ s e
  at-operator rule adds (Some o) a b s e ha hb = at-operation rule adds o.operation (bits_of o.operand) a b s e ha hb

  by_operation-adds : (rule : ByOperation) → AddsNoneOfTwo rule → (t s : Term) → by_operation rule t ≡ Some s → HasSymbols draws t → HasSymbols draws s
  by_operation-adds rule adds (Binary op a b) s e h = at-operator rule adds (operator_of op) a b s e h.0 h.1
  by_operation-adds rule adds _ s e h = nothing _ s e

  other_side-adds : (left right : Option ℕ) (a b s : Term) → other_side left right a b ≡ Some s → HasSymbols draws a → HasSymbols draws b → HasSymbols draws s
  other_side-adds left right a b s e ha hb = go (is_the left a) e
    where
      go : (x : Bool) → cond x (Some b) (cond (is_the right b) (Some a) None) ≡ Some s → HasSymbols draws s
      go true e = given (HasSymbols draws) b s e hb
      go false e = when (is_the right b) a s e ha

  with_itself-adds : (operation : BinaryOperation) (a s : Term) → with_itself operation a ≡ Some s → HasSymbols draws a → HasSymbols draws s
  with_itself-adds And a s e h = given (HasSymbols draws) a s e h
  with_itself-adds Or a s e h = given (HasSymbols draws) a s e h
  with_itself-adds Xor a s e h = given (HasSymbols draws) (Number 0) s e tt
  with_itself-adds Sub a s e h = given (HasSymbols draws) (Number 0) s e tt
  with_itself-adds Ne a s e h = given (HasSymbols draws) (Number 0) s e tt
  with_itself-adds LtS a s e h = given (HasSymbols draws) (Number 0) s e tt
  with_itself-adds LtU a s e h = given (HasSymbols draws) (Number 0) s e tt
  with_itself-adds GtS a s e h = given (HasSymbols draws) (Number 0) s e tt
  with_itself-adds GtU a s e h = given (HasSymbols draws) (Number 0) s e tt
  with_itself-adds Eq a s e h = given (HasSymbols draws) (Number 1) s e tt
  with_itself-adds LeS a s e h = given (HasSymbols draws) (Number 1) s e tt
  with_itself-adds LeU a s e h = given (HasSymbols draws) (Number 1) s e tt
  with_itself-adds GeS a s e h = given (HasSymbols draws) (Number 1) s e tt
  with_itself-adds GeU a s e h = given (HasSymbols draws) (Number 1) s e tt
  with_itself-adds operation a s e h = nothing _ s e

  of_same-adds : (operation : BinaryOperation) (a b s : Term) (x : Bool) → cond x (with_itself operation a) None ≡ Some s → HasSymbols draws a → HasSymbols draws s
  of_same-adds operation a b s true e ha = with_itself-adds operation a s e ha
  of_same-adds operation a b s false e ha = nothing _ s e

  -- ---- comparisons

  where_compared-adds : (o : Option Term) (s : Term) → where_compared o ≡ Some s → ((t : Term) → o ≡ Some t → HasSymbols draws t) → HasSymbols draws s
  where_compared-adds None s e h = nothing _ s e
  where_compared-adds (Some t) s e h = when (is_comparison t) t s e (h t refl)

  under_eqz-adds : (t s : Term) → under_eqz t ≡ Some s → HasSymbols draws t → HasSymbols draws s
  under_eqz-adds (Unary op a) s e h = when (op == 0x45) a s e h
  under_eqz-adds _ s e h = nothing _ s e

  of_comparison-adds : (t s : Term) → of_comparison t ≡ Some s → HasSymbols draws t → HasSymbols draws s
  of_comparison-adds (Unary op a) s e h = go (op == 0x45) e
    where
      go : (x : Bool) → cond x (where_compared (under_eqz a)) None ≡ Some s → HasSymbols draws s
      go true e = where_compared-adds (under_eqz a) s e (λ t is. under_eqz-adds a t is h)
      go false e = nothing _ s e
  of_comparison-adds (Binary op a b) s e h = go (op == 0x47 && is_the (Some 0) b) e
    where
      go : (x : Bool) → cond x (where_compared (Some a)) None ≡ Some s → HasSymbols draws s
      go true e = where_compared-adds (Some a) s e (λ t is. given (HasSymbols draws) a t is h.0)
      go false e = nothing _ s e
  of_comparison-adds _ s e h = nothing _ s e

  -- ---- all rules

  abbrev AddNone : List Rule → Type 0
  AddNone all = AllByRecursion (λ (rule : Rule). (t s : Term) → rule t ≡ Some s → HasSymbols draws t → HasSymbols draws s) all

  rules-add : AddNone rules
  rules-add = (
    of_numbers-adds,
    (
      chosen_side-adds,
      (
        byte_of_join-adds,
        (
          join_of_bytes-adds,
          (
            by_operation-adds adds_nothing (λ operation N a b s e ha hb. other_side-adds (zero_on_left operation) (zero_on_right operation) a b s e ha hb),
            (
              by_operation-adds changes_nothing (λ operation N a b s e ha hb. other_side-adds (one_on_left operation N) (one_on_right operation N) a b s e ha hb),
              (
                by_operation-adds leaves_nothing (λ operation N a b s e ha hb. when (is_the (clearing_left operation) a || is_the (clearing_right operation) b) (Number 0) s e tt),
                (of_comparison-adds, (by_operation-adds of_same (λ operation N a b s e ha hb. of_same-adds operation a b s (is_same a b) e ha), tt)),
              ),
            ),
          ),
        ),
      ),
    ),
  )

  first-adds : (all : List Rule) → AddNone all → (t s : Term) → first_of all t ≡ Some s → HasSymbols draws t → HasSymbols draws s
  first-adds [] each t s e h = nothing _ s e
  first-adds (rule ∷ others) each t s e h = go (λ e. first-adds others each.1 t s e h) (rule t) refl e
    where
      go : (first_of others t ≡ Some s → HasSymbols draws s) → (o : Option Term) → rule t ≡ o → first_made o (first_of others t) ≡ Some s → HasSymbols draws s
      go later (Some r) is e = given (HasSymbols draws) r s e (each.0 t r is h)
      go later None is e = later e

pub made-symbols : (draws : List Bool) (t : Term) → HasSymbols draws t → HasSymbols draws (made t)
unfolding made
made-symbols draws t h = go (first_of rules t) refl
  where
    go : (o : Option Term) → first_of rules t ≡ o → HasSymbols draws (unwrap_or o t)
    go None is = h
    go (Some s) is = first-adds draws rules (rules-add draws) t s is h
