-- How terms are made. An operation over terms is first its plain term, the operation with its operands below it. Then the
-- making rules are tried in their order, and the first that fits says what is made in its place; where none fits, the plain
-- term is made. (The operators: Execution, Numerics; division by 0 as in SMT-LIB's theory of bit-vectors.)
use Rattle.std.specs.Prelude.{◌≡◌, ℕ, zero, suc, ◌+◌, Bool, false, ◌==◌, ◌&&◌, ◌||◌, nat_le, if◌then◌else◌, List, [], ◌∷◌, Option, Some, None, option_map, unwrap_or}
use Rattle.int_ops.specs.declared.operators.Binary.{Binary as BinaryOperation}
use Rattle.int_ops.specs.declared.operators.Binary.TheVariants.{Eq, Ne, LtS, LtU, GtS, GtU, LeS, LeU, GeS, GeU, Add, Sub, Mul, DivS, DivU, RemS, RemU, And, Or, Xor, Shl, ShrS, ShrU, Rotl, Rotr}
use Rattle.int_ops.specs.declared.operators.Operation.{Operation}
use Rattle.int_ops.specs.declared.operators.Operation.TheVariants.{OfOne, OfTwo}
use Rattle.int_ops.specs.declared.operators.Operator.{Operator}
use Rattle.int_ops.specs.Integers.{minus_one}
use Rattle.int_ops.specs.Operators.{bits_of, operator_of, unary, total}
use Rattle.int_ops.specs.Bytes.{byte_of, joined}
use Rattle.wasm_rules.specs.Words.{Kind, bits_where, chosen}
use Rattle.bv_terms.specs.Terms.{Term, Number, Symbol, Unary, Binary, Choose, Byte, Join, Bytes, NoBytes, Then, bytes_from, number_of, value_of, width_of, HasWidth, is_same, are_same}

-- what a rule makes of a plain term, where it fits
abbrev pub Rule : Type 0
Rule = Term → Option Term

-- ---- 1. An operation whose operands are all numbers gives the number.

-- the numbers that bytes are, where all of them are numbers
abbrev pub numbers_of : Bytes → Option (List ℕ)
numbers_of NoBytes = Some []
numbers_of (Then (Number n) rest) = option_map (λ ns. n ∷ ns) (numbers_of rest)
numbers_of _ = None

abbrev pub of_numbers : Rule
of_numbers (Unary op (Number n)) = Some (Number (unary op n))
of_numbers (Binary op (Number n) (Number m)) = Some (Number (total op n m))
of_numbers (Choose wide (Number c) (Number n) (Number m)) = Some (Number (chosen c n m))
of_numbers (Byte (Number n) i) = Some (Number (byte_of n i))
of_numbers (Join wide bytes) = option_map (λ ns. Number (joined ns)) (numbers_of bytes)
of_numbers _ = None

-- ---- 2. A choice by a number gives the chosen side, and a choice of one term twice gives that term.

abbrev pub chosen_by : Option ℕ → Term → Term → Option Term
chosen_by (Some n) a b = Some (if n == 0 then b else a)
chosen_by None a b = if is_same a b then Some a else None

abbrev pub chosen_side : Rule
chosen_side (Choose wide c a b) = chosen_by (number_of c) a b
chosen_side _ = None

-- ---- 3. A byte of a join is the joined byte at its place, and 0 past them.

abbrev pub byte_at : Bytes → ℕ → Term
byte_at NoBytes i = Number 0
byte_at (Then t rest) zero = t
byte_at (Then t rest) (suc i) = byte_at rest i

abbrev pub byte_of_join : Rule
byte_of_join (Byte (Join wide bytes) i) = Some (byte_at bytes i)
byte_of_join _ = None

-- ---- 4. A join to the width of a term, no number, of all bytes of that one term in order is the term.

-- so many bytes of a term in order, from a place on
abbrev pub bytes_of_term : Term → ℕ → ℕ → Bytes
bytes_of_term t i zero = NoBytes
bytes_of_term t i (suc n) = Then (Byte t i) (bytes_of_term t (i + 1) n)

-- how many bytes an i64 has, where wide, or an i32
abbrev pub bytes_where : Bool → ℕ
bytes_where wide = if wide then 8 else 4

abbrev pub whole : Bool → Bytes → Term → Option Term
whole wide bytes t =
    if width_of t == bits_where wide && are_same bytes (bytes_of_term t 0 (bytes_where wide)) then Some t else None

abbrev pub join_of_bytes : Rule
join_of_bytes (Join wide (Then (Byte t i) rest)) = whole wide (Then (Byte t i) rest) t
join_of_bytes _ = None

-- ---- Rules by the operation of a binary opcode, with the number of bits of its operands

abbrev pub ByOperation : Type 0
ByOperation = BinaryOperation → ℕ → Term → Term → Option Term

abbrev pub of_two_operands : ByOperation → Operation → ℕ → Term → Term → Option Term
of_two_operands rule (OfTwo operation) N a b = rule operation N a b
of_two_operands rule (OfOne operation) N a b = None

abbrev pub of_operator : ByOperation → Option Operator → Term → Term → Option Term
of_operator rule None a b = None
of_operator rule (Some o) a b = of_two_operands rule o.operation (bits_of o.operand) a b

abbrev pub by_operation : ByOperation → Rule
by_operation rule (Binary op a b) = of_operator rule (operator_of op) a b
by_operation rule _ = None

-- whether a term is the number that is wanted, where one is
abbrev pub is_the : Option ℕ → Term → Bool
is_the (Some n) (Number m) = n == m
is_the _ _ = false

-- the other side, where the left one is the first number or the right one the second
abbrev pub other_side : Option ℕ → Option ℕ → Term → Term → Option Term
other_side left right a b = if is_the left a then Some b else if is_the right b then Some a else None

-- the number 0, where the left side is the first number or the right one the second
abbrev pub no_side : Option ℕ → Option ℕ → Term → Term → Option Term
no_side left right a b = if is_the left a || is_the right b then Some (Number 0) else None

-- ---- 5. add, or, xor with the number 0 on either side, and sub, shl, shr_s, shr_u, rotl, rotr with the number 0 on the right,
-- give the other side.

abbrev pub zero_on_left : BinaryOperation → Option ℕ
zero_on_left Add = Some 0
zero_on_left Or = Some 0
zero_on_left Xor = Some 0
zero_on_left operation = None

abbrev pub zero_on_right : BinaryOperation → Option ℕ
zero_on_right Add = Some 0
zero_on_right Or = Some 0
zero_on_right Xor = Some 0
zero_on_right Sub = Some 0
zero_on_right Shl = Some 0
zero_on_right ShrS = Some 0
zero_on_right ShrU = Some 0
zero_on_right Rotl = Some 0
zero_on_right Rotr = Some 0
zero_on_right operation = None

abbrev pub adds_nothing : ByOperation
adds_nothing operation N a b = other_side (zero_on_left operation) (zero_on_right operation) a b

-- ---- 6. mul with the number 1 on either side, and with the number of all ones of its width on either side, and div_s, div_u
-- with the number 1 on the right, give the other side.

abbrev pub one_on_left : BinaryOperation → ℕ → Option ℕ
one_on_left Mul N = Some 1
one_on_left And N = Some (minus_one N)
one_on_left operation N = None

abbrev pub one_on_right : BinaryOperation → ℕ → Option ℕ
one_on_right Mul N = Some 1
one_on_right And N = Some (minus_one N)
one_on_right DivS N = Some 1
one_on_right DivU N = Some 1
one_on_right operation N = None

abbrev pub changes_nothing : ByOperation
changes_nothing operation N a b = other_side (one_on_left operation N) (one_on_right operation N) a b

-- ---- 7. mul, and with the number 0 on either side, and rem_s, rem_u with the number 1 on the right, give 0.

abbrev pub clearing_left : BinaryOperation → Option ℕ
clearing_left Mul = Some 0
clearing_left And = Some 0
clearing_left operation = None

abbrev pub clearing_right : BinaryOperation → Option ℕ
clearing_right Mul = Some 0
clearing_right And = Some 0
clearing_right RemS = Some 1
clearing_right RemU = Some 1
clearing_right operation = None

abbrev pub leaves_nothing : ByOperation
leaves_nothing operation N a b = no_side (clearing_left operation) (clearing_right operation) a b

-- ---- 8. i32.eqz of i32.eqz of a comparison gives that comparison; i32.ne of a comparison and, on the right, the number 0 gives
-- that comparison. A comparison is a term with an opcode from 0x45 to 0x5A: its value is 0 or 1.

abbrev pub compares : ℕ → Bool
compares op = nat_le 0x45 op && nat_le op 0x5A

abbrev pub is_comparison : Term → Bool
is_comparison (Unary op a) = compares op
is_comparison (Binary op a b) = compares op
is_comparison _ = false

-- what i32.eqz is taken of
abbrev pub under_eqz : Term → Option Term
under_eqz (Unary op a) = if op == 0x45 then Some a else None
under_eqz _ = None

abbrev pub where_compared : Option Term → Option Term
where_compared None = None
where_compared (Some t) = if is_comparison t then Some t else None

abbrev pub of_comparison : Rule
of_comparison (Unary op a) = if op == 0x45 then where_compared (under_eqz a) else None
of_comparison (Binary op a b) = if op == 0x47 && is_the (Some 0) b then where_compared (Some a) else None
of_comparison _ = None

-- ---- 9. For two operands that are the same term: and, or give it; xor, sub, ne, lt_s, lt_u, gt_s, gt_u give 0; eq, le_s, le_u,
-- ge_s, ge_u give 1.

abbrev pub with_itself : BinaryOperation → Term → Option Term
with_itself And a = Some a
with_itself Or a = Some a
with_itself Xor a = Some (Number 0)
with_itself Sub a = Some (Number 0)
with_itself Ne a = Some (Number 0)
with_itself LtS a = Some (Number 0)
with_itself LtU a = Some (Number 0)
with_itself GtS a = Some (Number 0)
with_itself GtU a = Some (Number 0)
with_itself Eq a = Some (Number 1)
with_itself LeS a = Some (Number 1)
with_itself LeU a = Some (Number 1)
with_itself GeS a = Some (Number 1)
with_itself GeU a = Some (Number 1)
with_itself operation a = None

abbrev pub of_same : ByOperation
of_same operation N a b = if is_same a b then with_itself operation a else None

-- ---- all rules, in their order

abbrev pub rules : List Rule
rules =
    of_numbers ∷
    chosen_side ∷
    byte_of_join ∷
    join_of_bytes ∷
    by_operation adds_nothing ∷
    by_operation changes_nothing ∷
    by_operation leaves_nothing ∷
    of_comparison ∷
    by_operation of_same ∷ []

-- What a rule makes in place of a term has the term's width, and its value at every input.
abbrev pub Keeps : ℕ → Term → Term → Type 0
Keeps bits t s = HasWidth bits s × ((input : List ℕ) → value_of input s ≡ value_of input t)

abbrev pub IsSound : Rule → Type 0
IsSound rule = (t s : Term) (bits : ℕ) → rule t ≡ Some s → HasWidth bits t → Keeps bits t s

-- what the first of two made, else the second
abbrev pub first_made : Option Term → Option Term → Option Term
first_made (Some t) later = Some t
first_made None later = later

-- what the first rule that fits makes
abbrev pub first_of : List Rule → Term → Option Term
first_of [] t = None
first_of (rule ∷ others) t = first_made (rule t) (first_of others t)

-- what is made of a plain term
unfoldable pub made : Term → Term
made t = unwrap_or (first_of rules t) t

-- the kind of terms
abbrev pub terms : Kind Term
terms = record {
  number = λ n. Number n;
  unary = λ op a. made (Unary op a);
  binary = λ op a b. made (Binary op a b);
  choose = λ wide c a b. made (Choose wide c a b);
  byte = λ a i. made (Byte a i);
  join = λ wide bytes. made (Join wide (bytes_from bytes));
  symbol = λ k wide. Symbol k wide;
}
