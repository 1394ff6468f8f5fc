-- Each operator gives a result of the width that the table says.
use Rattle.std.proofs.Common.{◌≡◌, ℕ, zero, ◌+◌, ◌-◌, ◌*◌, ◌/◌, ◌%◌, ◌^◌, ◌<◌, ◌≤◌, ℤ, pos, negsuc, Bool, true, false, cond, nat_lt, nat_le, ◌==◌, ◌&&◌, IsTrue, IfOk, IfSome, List, [], ◌∷◌, Option, Some, None, Ok, Err, refl, sym, ap, ◌∙◌, subst, arith, le_trans, lt_of_le_of_lt, div-le_self, if◌then◌else◌, eqb-true, pow_mono}
use Rattle.std.proofs.lemmas.Bool.{false≢true}
use Rattle.std.specs.List.{list_all}
use Rattle.std.specs.Option.{option_map_or}
use Rattle.std.proofs.Math.Nat.{mod-le}
use Rattle.std.proofs.lemmas.Nat.{pow_pos, mod_below, and_le_l, or_lt, xor_lt, leading_le, trailing_le, ones-le, mul-add-lt, pow-add, pow_below}
use Rattle.int_ops.specs.declared.operators.Width.{Width}
use Rattle.int_ops.specs.declared.operators.Width.TheVariants.{W32, W64}
use Rattle.int_ops.specs.declared.operators.Unary.{Unary}
use Rattle.int_ops.specs.declared.operators.Unary.TheVariants.{Eqz, Clz, Ctz, Popcnt, Wrap, ExtendU, Extend8, Extend16, Extend32}
use Rattle.int_ops.specs.declared.operators.Binary.{Binary}
use Rattle.int_ops.specs.declared.operators.Binary.TheVariants.{Eq, Ne, LtS, LtU, GtS, GtU, LeS, LeU, GeS, GeU, Add, Sub, Mul, DivS, DivU, RemS, RemU, And, Or, Xor, Shl, ShrS, ShrU, Rotl, Rotr}
use Rattle.int_ops.specs.declared.operators.Operation.{Operation}
use Rattle.int_ops.specs.declared.operators.Operation.TheVariants.{OfOne, OfTwo}
use Rattle.int_ops.specs.declared.operators.Operator.{Operator}
use Rattle.int_ops.specs.declared.operators.Trap.TheVariants.{DivZero, Overflow}
use Rattle.int_ops.specs.Integers.{truth, unsigned, rotated_left, least, minus_one}
use Rattle.int_ops.specs.Operators.{bits_of, operators, find_operator, operator_of, is_of_one, is_of_two, unary_value, binary_value, partial_value, total_value, by_zero, of_one, of_two, of_two_total, divides, is_div_s, is_unary, is_binary, operand_bits, result_bits, unary, binary, total}
use Rattle.int_ops.proofs.LawLemmas.{rotated-parts, high_part}

-- ---- what a row's widths have to be

abbrev pub compares : Binary → Bool
compares Eq = true
compares Ne = true
compares LtS = true
compares LtU = true
compares GtS = true
compares GtU = true
compares LeS = true
compares LeU = true
compares GeS = true
compares GeU = true
compares operation = false

abbrev pub extends : Unary → Bool
extends ExtendU = true
extends operation = false

-- whether the operation has room: only a comparison, a test, a count and a wrap may give fewer bits than its operands have
abbrev pub has_room : Operation → ℕ → ℕ → Bool
has_room (OfOne operation) M N = if extends operation then nat_le M N else true
has_room (OfTwo operation) M N = if compares operation then true else M == N

-- ---- results of N bits

truth-below : (b : Bool) (width : Width) → truth b < 2 ^ bits_of width
truth-below true W32 = omega arith
truth-below true W64 = omega arith
truth-below false W32 = omega arith
truth-below false W64 = omega arith

count-below : (width from : Width) (n : ℕ) → n ≤ bits_of from → n < 2 ^ bits_of width
count-below W32 W32 n h = omega arith
count-below W32 W64 n h = omega arith
count-below W64 W32 n h = omega arith
count-below W64 W64 n h = omega arith

pub unsigned-below : (N : ℕ) (z : ℤ) → unsigned N z < 2 ^ N
unsigned-below N (pos n) = mod_below n (2 ^ N) (pow_pos N)
unsigned-below N (negsuc n) = let some = pow_pos N in omega (arith, some)

wider : (from to : Width) (x : ℕ) → nat_le (bits_of from) (bits_of to) ≡ true → x < 2 ^ bits_of from → x < 2 ^ bits_of to
wider W32 W32 x ok h = h
wider W32 W64 x ok h = omega arith
wider W64 W32 x ok h = cc
wider W64 W64 x ok h = h

pub unary-fits : (operation : Unary) (from to : Width) (x : ℕ) → IsTrue (has_room (OfOne operation) (bits_of from) (bits_of to))
    → x < 2 ^ bits_of from → unary_value operation (bits_of from) (bits_of to) x < 2 ^ bits_of to
unary-fits Eqz from to x ok h = truth-below (x == 0) to
unary-fits Clz from to x ok h = count-below to from _ (leading_le (bits_of from) x)
unary-fits Ctz from to x ok h = count-below to from _ (trailing_le (bits_of from) x)
unary-fits Popcnt from to x ok h = count-below to from _ (ones-le (bits_of from) x h)
unary-fits Wrap from to x ok h = mod_below x (2 ^ bits_of to) (pow_pos (bits_of to))
unary-fits ExtendU from to x ok h = wider from to x ok h
unary-fits Extend8 from to x ok h = unsigned-below (bits_of to) _
unary-fits Extend16 from to x ok h = unsigned-below (bits_of to) _
unary-fits Extend32 from to x ok h = unsigned-below (bits_of to) _

pub rotated-below : (N x k : ℕ) → k ≤ N → x < 2 ^ N → rotated_left N x k < 2 ^ N
rotated-below N x k within below =
    let all : k + (N - k) ≡ N = omega arith in
    let places = mul-add-lt (x % 2 ^ (N - k)) (2 ^ k) (x / 2 ^ (N - k)) (2 ^ (N - k))
    (mod_below x (2 ^ (N - k)) (pow_pos (N - k))) (high_part N x k within below) in
    subst (λ (n : ℕ). n < 2 ^ N) (sym (rotated-parts N x k within))
    (subst (λ (n : ℕ). (x % 2 ^ (N - k)) * 2 ^ k + x / 2 ^ (N - k) < n) (sym (pow-add 2 k (N - k)) ∙ ap (λ (n : ℕ). 2 ^ n) all) places)

-- ---- two operands

-- a comparison gives 0 or 1
compared : (operation : Binary) (N x y : ℕ) (to : Width) → compares operation ≡ true → total_value operation N x y < 2 ^ bits_of to
compared Eq N x y to ok = truth-below _ to
compared Ne N x y to ok = truth-below _ to
compared LtS N x y to ok = truth-below _ to
compared LtU N x y to ok = truth-below _ to
compared GtS N x y to ok = truth-below _ to
compared GtU N x y to ok = truth-below _ to
compared LeS N x y to ok = truth-below _ to
compared LeU N x y to ok = truth-below _ to
compared GeS N x y to ok = truth-below _ to
compared GeU N x y to ok = truth-below _ to
compared operation N x y to ok = cc

-- another operation gives N bits
kept : (operation : Binary) (N x y : ℕ) → zero < N → compares operation ≡ false → x < 2 ^ N → y < 2 ^ N
    → binary_value operation N x y < 2 ^ N
kept Add N x y some ok xb yb = mod_below _ (2 ^ N) (pow_pos N)
kept Sub N x y some ok xb yb = mod_below _ (2 ^ N) (pow_pos N)
kept Mul N x y some ok xb yb = mod_below _ (2 ^ N) (pow_pos N)
kept DivS N x y some ok xb yb = unsigned-below N _
kept DivU N x y some ok xb yb = lt_of_le_of_lt (div-le_self x y) xb
kept RemS N x y some ok xb yb = unsigned-below N _
kept RemU N x y some ok xb yb = lt_of_le_of_lt (mod-le x y) xb
kept And N x y some ok xb yb = lt_of_le_of_lt (and_le_l x y) xb
kept Or N x y some ok xb yb = or_lt N x y xb yb
kept Xor N x y some ok xb yb = xor_lt N x y xb yb
kept Shl N x y some ok xb yb = mod_below _ (2 ^ N) (pow_pos N)
kept ShrS N x y some ok xb yb = unsigned-below N _
kept ShrU N x y some ok xb yb = lt_of_le_of_lt (div-le_self x (2 ^ (y % N))) xb
kept Rotl N x y some ok xb yb = let count = mod_below y N some in rotated-below N x (y % N) (omega (arith, count)) xb
kept Rotr N x y some ok xb yb = rotated-below N x (N - y % N) (omega arith) xb
kept operation N x y some ok xb yb = cc

pub either : (P : ℕ → Type 0) (b : Bool) (m n : ℕ) → P m → P n → P (cond b m n)
either P true m n p q = p
either P false m n p q = q

-- also where it divides by 0
by_zero-below : (operation : Binary) (N x : ℕ) → zero < N → x < 2 ^ N → by_zero operation N x < 2 ^ N
by_zero-below DivU N x some xb = omega arith
by_zero-below DivS N x some xb =
    let one : 1 < 2 ^ N = le_trans (pow_below 0 1 (omega arith)) (pow_mono some) in
    either (λ n. n < 2 ^ N) (nat_lt x (least N)) (minus_one N) 1 (omega arith) one
by_zero-below operation N x some xb = xb

kept_total : (operation : Binary) (N x y : ℕ) → zero < N → compares operation ≡ false → x < 2 ^ N → y < 2 ^ N
    → total_value operation N x y < 2 ^ N
kept_total operation N x y some ok xb yb =
    either (λ n. n < 2 ^ N) (divides operation && y == 0) (by_zero operation N x) (binary_value operation N x y)
    (by_zero-below operation N x some xb) (kept operation N x y some ok xb yb)

some_bits : (width : Width) → zero < bits_of width
some_bits W32 = omega arith
some_bits W64 = omega arith

total-fits : (operation : Binary) (from to : Width) (x y : ℕ) → IsTrue (has_room (OfTwo operation) (bits_of from) (bits_of to))
    → x < 2 ^ bits_of from → y < 2 ^ bits_of from → total_value operation (bits_of from) x y < 2 ^ bits_of to
total-fits operation from to x y ok xb yb = go (compares operation) refl ok
  where
    go : (b : Bool) → compares operation ≡ b → IsTrue (if b then true else bits_of from == bits_of to) → total_value operation (bits_of from) x y < 2 ^ bits_of to
    go true is room = compared operation (bits_of from) x y to is
    go false is room =
        subst (λ (n : ℕ). total_value operation (bits_of from) x y < 2 ^ n) (eqb-true (bits_of from) (bits_of to) room)
        (kept_total operation (bits_of from) x y (some_bits from) is xb yb)

-- what is given where nothing traps is what is given without traps
partial-total : (operation : Binary) (N x y : ℕ) (P : ℕ → Type 0) → P (total_value operation N x y) → IfOk (partial_value operation N x y) P
partial-total operation N x y P h =
    go (divides operation && y == 0) (is_div_s operation && x == least N && y == minus_one N) h
  where
    go : (a b : Bool) → P (cond a (by_zero operation N x) (binary_value operation N x y))
        → IfOk (if a then Err DivZero else if b then Err Overflow else Ok (binary_value operation N x y)) P
    go true b p = tt
    go false true p = tt
    go false false p = p

-- ---- by opcode

both_pass : (a b : Bool) → IsTrue (a && b) → IsTrue a × IsTrue b
both_pass true b h = (refl, h)
both_pass false b h = absurd (false≢true h)

-- what passes in each row passes at the row that is found
find-passes : (test : Operator → Bool) (op : ℕ) (rows : List (ℕ × Operator)) → IsTrue (list_all (λ row. test row.1) rows)
    → IfSome (find_operator op rows) (λ o. IsTrue (test o))
find-passes test op [] h = tt
find-passes test op (row ∷ rest) h =
    let passes = both_pass (test row.1) (list_all (λ row. test row.1) rest) h in
    go (op == row.0) passes.0 (find-passes test op rest passes.1)
  where
    go : (b : Bool) → IsTrue (test row.1) → IfSome (find_operator op rest) (λ o. IsTrue (test o))
        → IfSome (if b then Some row.1 else find_operator op rest) (λ o. IsTrue (test o))
    go true here later = here
    go false here later = later

abbrev HasRoom : Option Operator → Type 0
HasRoom found = IfSome found (λ o. IsTrue (has_room o.operation (bits_of o.operand) (bits_of o.result)))

pub has_room_at : (op : ℕ) → HasRoom (operator_of op)
unfolding operator_of
has_room_at op = find-passes (λ o. has_room o.operation (bits_of o.operand) (bits_of o.result)) op operators refl

one-fits : (operation : Operation) (from to : Width) (x : ℕ) → IsTrue (has_room operation (bits_of from) (bits_of to))
    → IsTrue (is_of_one operation) → x < 2 ^ bits_of from → of_one operation (bits_of from) (bits_of to) x < 2 ^ bits_of to
one-fits (OfOne operation) from to x room class h = unary-fits operation from to x room h
one-fits (OfTwo operation) from to x room class h = cc

two-fits : (operation : Operation) (from to : Width) (x y : ℕ) → IsTrue (has_room operation (bits_of from) (bits_of to))
    → IsTrue (is_of_two operation) → x < 2 ^ bits_of from → y < 2 ^ bits_of from
    → (of_two_total operation (bits_of from) x y < 2 ^ bits_of to) × IfOk (of_two operation (bits_of from) x y) (λ r. r < 2 ^ bits_of to)
two-fits (OfOne operation) from to x y room class xb yb = absurd (false≢true class)
two-fits (OfTwo operation) from to x y room class xb yb =
    let fits = total-fits operation from to x y room xb yb in
    (fits, partial-total operation (bits_of from) x y (λ r. r < 2 ^ bits_of to) fits)

one_at : (found : Option Operator) (x : ℕ) → HasRoom found → IsTrue (option_map_or (λ o. is_of_one o.operation) found false)
    → x < 2 ^ option_map_or (λ o. bits_of o.operand) found 0
    → option_map_or (λ o. of_one o.operation (bits_of o.operand) (bits_of o.result) x) found 0 < 2 ^ option_map_or (λ o. bits_of o.result) found 0
one_at None x room class h = cc
one_at (Some o) x room class h = one-fits o.operation o.operand o.result x room class h

two_at : (found : Option Operator) (x y : ℕ) → HasRoom found → IsTrue (option_map_or (λ o. is_of_two o.operation) found false)
    → x < 2 ^ option_map_or (λ o. bits_of o.operand) found 0 → y < 2 ^ option_map_or (λ o. bits_of o.operand) found 0
    → (option_map_or (λ o. of_two_total o.operation (bits_of o.operand) x y) found 0 < 2 ^ option_map_or (λ o. bits_of o.result) found 0)
    × IfOk (option_map_or (λ o. of_two o.operation (bits_of o.operand) x y) found (Ok 0)) (λ r. r < 2 ^ option_map_or (λ o. bits_of o.result) found 0)
two_at None x y room class xb yb = absurd (false≢true class)
two_at (Some o) x y room class xb yb = two-fits o.operation o.operand o.result x y room class xb yb

pub unary-below : (op x : ℕ) → IsTrue (is_unary op) → x < 2 ^ operand_bits op → unary op x < 2 ^ result_bits op
unary-below op x class h = one_at (operator_of op) x (has_room_at op) class h

pub binary-below : (op x y : ℕ) → IsTrue (is_binary op) → x < 2 ^ operand_bits op → y < 2 ^ operand_bits op
    → (total op x y < 2 ^ result_bits op) × IfOk (binary op x y) (λ r. r < 2 ^ result_bits op)
binary-below op x y class xb yb = two_at (operator_of op) x y (has_room_at op) class xb yb
