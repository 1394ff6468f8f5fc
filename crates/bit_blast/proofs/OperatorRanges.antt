-- The gates of the operators are over wires of earlier variables.
use Rattle.std.proofs.Common.{ℕ, ◌-◌, ◌≤◌, [], ◌∷◌, length, map, take, replicate, reverse, arith, Option, Some, None}
use Rattle.int_ops.specs.declared.operators.Width.{Width}
use Rattle.int_ops.specs.declared.operators.Unary.{Unary}
use Rattle.int_ops.specs.declared.operators.Unary.TheVariants.{Eqz, Clz, Ctz, Popcnt, Wrap, ExtendU, Extend8, Extend16, Extend32}
use Rattle.int_ops.specs.declared.operators.Binary.{Binary}
use Rattle.int_ops.specs.declared.operators.Binary.TheVariants.{Eq, Ne, LtS, LtU, GtS, GtU, LeS, LeU, GeS, GeU, Add, Sub, Mul, DivS, DivU, RemS, RemU, And as AndOf, Or as OrOf, Xor as XorOf, Shl, ShrS, ShrU, Rotl, Rotr}
use Rattle.int_ops.specs.declared.operators.Operation.{Operation}
use Rattle.int_ops.specs.declared.operators.Operation.TheVariants.{OfOne, OfTwo}
use Rattle.int_ops.specs.declared.operators.Operator.{Operator}
use Rattle.int_ops.specs.Operators.{bits_of, operator_of}
use Rattle.bit_blast.specs.declared.gates.Gate.TheVariants.{And, Xor}
use Rattle.bit_blast.specs.declared.blocks.Shift.TheVariants.{Left, Right, RightSigned, RotateLeft, RotateRight}
use Rattle.bit_blast.specs.Gates.{Wires, true_wire, false_wire, negation, Circuit, next_of}
use Rattle.bit_blast.specs.Blocks.{Building, put, each_two, less, zeros, highest, none, negate_if, count, divide}
use Rattle.bit_blast.specs.Operators.{fitted, sign_extended, sign_turned, answer, count_to, unary_wires, equal, compared, compared_not, shift_bits, binary_wires, one_operand, unary_by, unary_operator, two_operands, binary_by, binary_operator}
use Rattle.bit_blast.proofs.RangeLemmas.{IsWire, AreWires, wire-later, wires-later, wire-negation, true-wire, false-wire, wires-negations, wires-append, wires-take, wires-copies, wires-reverse, wire-highest, Goes, stays, then_goes, put_goes, each_two_goes, add_goes, less_goes, zeros_goes, none_goes, negate_if_goes, count_goes, divide_goes, multiply_goes, shift_goes}

-- a building of wires goes on from a circuit
abbrev pub GoesOn : Building Wires → Circuit → Type 0
GoesOn p c = Goes c (p c).circuit × AreWires (next_of (p c).circuit) (p c).result

abbrev GoesOnOne : Building ℕ → Circuit → Type 0
GoesOnOne p c = Goes c (p c).circuit × IsWire (next_of (p c).circuit) (p c).result

pub wires-fitted : (m count fill : ℕ) (ws : Wires) → IsWire m fill → AreWires m ws → AreWires m (fitted count fill ws)
wires-fitted m count fill ws h i = wires-append m (take count ws) (replicate (count - length ws) fill) (wires-take m count ws i) (wires-copies m (count - length ws) fill h)

wires-extended : (m from count : ℕ) (ws : Wires) → 2 ≤ m → AreWires m ws → AreWires m (sign_extended from count ws)
wires-extended m from count ws h i =
    let low = wires-take m from ws i in
    wires-fitted m count (highest (take from ws)) (take from ws) (wire-highest m (take from ws) h low) low

wires-turned : (m : ℕ) (ws : Wires) → 2 ≤ m → AreWires m ws → AreWires m (sign_turned ws)
wires-turned m ws h i =
    wires-append m (take (length ws - 1) ws) (negation (highest ws) ∷ []) (wires-take m (length ws - 1) ws i) (wire-negation m (highest ws) (wire-highest m ws h i), tt)

wires-answer : (m count w : ℕ) → 2 ≤ m → IsWire m w → AreWires m (answer count w)
wires-answer m count w h i = wires-fitted m count false_wire (w ∷ []) (false-wire m h) (i, tt)

count_to_goes : (to : ℕ) (wires : Wires) (c : Circuit) → 2 ≤ next_of c → AreWires (next_of c) wires → GoesOn (count_to to wires) c
count_to_goes to wires c some i =
    let a = count_goes wires c some i in
    let m = a.0.more in
    (a.0, wires-fitted (next_of (count wires c).circuit) to false_wire (count wires c).result (false-wire (next_of (count wires c).circuit) (omega arith)) a.1)

-- ---- one operand

pub unary_goes : (operation : Unary) (to : ℕ) (xs : Wires) (c : Circuit) → 2 ≤ next_of c → AreWires (next_of c) xs → GoesOn (unary_wires operation to xs) c
unary_goes Eqz to xs c some i =
    let a = none_goes xs c some i in
    let m = a.0.more in
    (a.0, wires-answer (next_of (none xs c).circuit) to (none xs c).result (omega arith) a.1)
unary_goes Popcnt to xs c some i = count_to_goes to xs c some i
unary_goes Ctz to xs c some i =
    let a = zeros_goes xs c some i in
    let m = a.0.more in
    let b = count_to_goes to (zeros xs c).result (zeros xs c).circuit (omega arith) a.1 in
    (then_goes c (zeros xs c).circuit (count_to to (zeros xs c).result (zeros xs c).circuit).circuit a.0 b.0, b.1)
unary_goes Clz to xs c some i =
    let a = zeros_goes (reverse xs) c some (wires-reverse (next_of c) xs i) in
    let m = a.0.more in
    let b = count_to_goes to (zeros (reverse xs) c).result (zeros (reverse xs) c).circuit (omega arith) a.1 in
    (then_goes c (zeros (reverse xs) c).circuit (count_to to (zeros (reverse xs) c).result (zeros (reverse xs) c).circuit).circuit a.0 b.0, b.1)
unary_goes Wrap to xs c some i = (stays c, wires-fitted (next_of c) to false_wire xs (false-wire (next_of c) some) i)
unary_goes ExtendU to xs c some i = (stays c, wires-fitted (next_of c) to false_wire xs (false-wire (next_of c) some) i)
unary_goes Extend8 to xs c some i = (stays c, wires-extended (next_of c) 8 to xs some i)
unary_goes Extend16 to xs c some i = (stays c, wires-extended (next_of c) 16 to xs some i)
unary_goes Extend32 to xs c some i = (stays c, wires-extended (next_of c) 32 to xs some i)

-- ---- two operands

compared_goes : (to : ℕ) (test : Building ℕ) (c : Circuit) → 2 ≤ next_of c → GoesOnOne test c → GoesOn (compared to test) c
compared_goes to test c some a =
    let m = a.0.more in
    (a.0, wires-answer (next_of (test c).circuit) to (test c).result (omega arith) a.1)

compared_not_goes : (to : ℕ) (test : Building ℕ) (c : Circuit) → 2 ≤ next_of c → GoesOnOne test c → GoesOn (compared_not to test) c
compared_not_goes to test c some a =
    let m = a.0.more in
    (a.0, wires-answer (next_of (test c).circuit) to (negation (test c).result) (omega arith) (wire-negation (next_of (test c).circuit) (test c).result a.1))

equal_goes : (xs ys : Wires) (c : Circuit) → 2 ≤ next_of c → AreWires (next_of c) xs → AreWires (next_of c) ys → GoesOnOne (equal xs ys) c
equal_goes xs ys c some i j =
    let apart = each_two Xor xs ys c in
    let a = each_two_goes Xor xs ys c some (λ v w h k. (h, k)) i j in
    let m = a.0.more in
    let b = none_goes apart.result apart.circuit (omega arith) a.1 in
    (then_goes c apart.circuit (none apart.result apart.circuit).circuit a.0 b.0, b.1)

less_than_goes : (xs ys : Wires) (c : Circuit) → 2 ≤ next_of c → AreWires (next_of c) xs → AreWires (next_of c) ys → GoesOnOne (less xs ys) c
less_than_goes xs ys c some i j = less_goes false_wire xs ys c some (false-wire (next_of c) some) i j

less_signed_goes : (xs ys : Wires) (c : Circuit) → 2 ≤ next_of c → AreWires (next_of c) xs → AreWires (next_of c) ys → GoesOnOne (less (sign_turned xs) (sign_turned ys)) c
less_signed_goes xs ys c some i j = less_than_goes (sign_turned xs) (sign_turned ys) c some (wires-turned (next_of c) xs some i) (wires-turned (next_of c) ys some j)

pub binary_goes : (operation : Binary) (width : Width) (to : ℕ) (xs ys : Wires) (c : Circuit) → 2 ≤ next_of c → AreWires (next_of c) xs → AreWires (next_of c) ys
    → GoesOn (binary_wires operation width to xs ys) c
binary_goes Eq width to xs ys c some i j = compared_goes to (equal xs ys) c some (equal_goes xs ys c some i j)
binary_goes Ne width to xs ys c some i j = compared_not_goes to (equal xs ys) c some (equal_goes xs ys c some i j)
binary_goes LtU width to xs ys c some i j = compared_goes to (less xs ys) c some (less_than_goes xs ys c some i j)
binary_goes GtU width to xs ys c some i j = compared_goes to (less ys xs) c some (less_than_goes ys xs c some j i)
binary_goes LeU width to xs ys c some i j = compared_not_goes to (less ys xs) c some (less_than_goes ys xs c some j i)
binary_goes GeU width to xs ys c some i j = compared_not_goes to (less xs ys) c some (less_than_goes xs ys c some i j)
binary_goes LtS width to xs ys c some i j = compared_goes to (less (sign_turned xs) (sign_turned ys)) c some (less_signed_goes xs ys c some i j)
binary_goes GtS width to xs ys c some i j = compared_goes to (less (sign_turned ys) (sign_turned xs)) c some (less_signed_goes ys xs c some j i)
binary_goes LeS width to xs ys c some i j = compared_not_goes to (less (sign_turned ys) (sign_turned xs)) c some (less_signed_goes ys xs c some j i)
binary_goes GeS width to xs ys c some i j = compared_not_goes to (less (sign_turned xs) (sign_turned ys)) c some (less_signed_goes xs ys c some i j)
binary_goes Add width to xs ys c some i j =
    let a = add_goes xs ys false_wire c some i j (false-wire (next_of c) some) in
    (a.0, a.1)
binary_goes Sub width to xs ys c some i j =
    let a = add_goes xs (map negation ys) true_wire c some i (wires-negations (next_of c) ys j) (true-wire (next_of c) some) in
    (a.0, a.1)
binary_goes Mul width to xs ys c some i j = multiply_goes xs ys c some i j
binary_goes DivU width to xs ys c some i j =
    let a = divide_goes xs ys c some i j in
    (a.0, a.1)
binary_goes RemU width to xs ys c some i j =
    let a = divide_goes xs ys c some i j in
    (a.0, a.2)
binary_goes DivS width to xs ys c some i j =
    let first = negate_if (highest xs) xs c in
    let second = negate_if (highest ys) ys first.circuit in
    let divided = divide first.result second.result second.circuit in
    let sign = put (Xor (highest xs) (highest ys)) divided.circuit in
    let last = negate_if sign.result divided.result.quotient sign.circuit in
    let a = negate_if_goes (highest xs) xs c some (wire-highest (next_of c) xs some i) i in
    let am = a.0.more in
    let ys_first = wires-later (next_of c) (next_of first.circuit) am ys j in
    let b = negate_if_goes (highest ys) ys first.circuit (omega arith) (wire-highest (next_of first.circuit) ys (omega arith) ys_first) ys_first in
    let bm = b.0.more in
    let d = divide_goes first.result second.result second.circuit (omega arith) (wires-later (next_of first.circuit) (next_of second.circuit) bm first.result a.1) b.1 in
    let dm = d.0.more in
    let to_divided : next_of c ≤ next_of divided.circuit = omega arith in
    let e = put_goes (Xor (highest xs) (highest ys)) divided.circuit (omega arith) (
      wire-later (next_of c) (next_of divided.circuit) to_divided (highest xs) (wire-highest (next_of c) xs some i),
      wire-later (next_of c) (next_of divided.circuit) to_divided (highest ys) (wire-highest (next_of c) ys some j),
    ) in
    let em = e.0.more in
    let f = negate_if_goes sign.result divided.result.quotient sign.circuit (omega arith) e.1 (wires-later (next_of divided.circuit) (next_of sign.circuit) em divided.result.quotient d.1) in (
      then_goes c first.circuit last.circuit a.0 (then_goes first.circuit second.circuit last.circuit b.0
          (then_goes second.circuit divided.circuit last.circuit d.0 (then_goes divided.circuit sign.circuit last.circuit e.0 f.0))),
      f.1,
    )
binary_goes RemS width to xs ys c some i j =
    let first = negate_if (highest xs) xs c in
    let second = negate_if (highest ys) ys first.circuit in
    let divided = divide first.result second.result second.circuit in
    let last = negate_if (highest xs) divided.result.remainder divided.circuit in
    let a = negate_if_goes (highest xs) xs c some (wire-highest (next_of c) xs some i) i in
    let am = a.0.more in
    let ys_first = wires-later (next_of c) (next_of first.circuit) am ys j in
    let b = negate_if_goes (highest ys) ys first.circuit (omega arith) (wire-highest (next_of first.circuit) ys (omega arith) ys_first) ys_first in
    let bm = b.0.more in
    let d = divide_goes first.result second.result second.circuit (omega arith) (wires-later (next_of first.circuit) (next_of second.circuit) bm first.result a.1) b.1 in
    let dm = d.0.more in
    let to_divided : next_of c ≤ next_of divided.circuit = omega arith in
    let f = negate_if_goes (highest xs) divided.result.remainder divided.circuit (omega arith)
    (wire-later (next_of c) (next_of divided.circuit) to_divided (highest xs) (wire-highest (next_of c) xs some i)) d.2 in (
      then_goes c first.circuit last.circuit a.0 (then_goes first.circuit second.circuit last.circuit b.0 (then_goes second.circuit divided.circuit last.circuit d.0 f.0)),
      f.1,
    )
binary_goes AndOf width to xs ys c some i j = each_two_goes And xs ys c some (λ v w h k. (h, k)) i j
binary_goes XorOf width to xs ys c some i j = each_two_goes Xor xs ys c some (λ v w h k. (h, k)) i j
binary_goes OrOf width to xs ys c some i j =
    let a = each_two_goes And (map negation xs) (map negation ys) c some (λ v w h k. (h, k)) (wires-negations (next_of c) xs i) (wires-negations (next_of c) ys j) in
    (a.0, wires-negations (next_of (each_two And (map negation xs) (map negation ys) c).circuit) (each_two And (map negation xs) (map negation ys) c).result a.1)
binary_goes Shl width to xs ys c some i j = shift_goes Left 1 (take (shift_bits width) ys) xs c some (wires-take (next_of c) (shift_bits width) ys j) i
binary_goes ShrU width to xs ys c some i j = shift_goes Right 1 (take (shift_bits width) ys) xs c some (wires-take (next_of c) (shift_bits width) ys j) i
binary_goes ShrS width to xs ys c some i j = shift_goes RightSigned 1 (take (shift_bits width) ys) xs c some (wires-take (next_of c) (shift_bits width) ys j) i
binary_goes Rotl width to xs ys c some i j = shift_goes RotateLeft 1 (take (shift_bits width) ys) xs c some (wires-take (next_of c) (shift_bits width) ys j) i
binary_goes Rotr width to xs ys c some i j = shift_goes RotateRight 1 (take (shift_bits width) ys) xs c some (wires-take (next_of c) (shift_bits width) ys j) i

-- ---- by opcodes

one_goes : (operation : Operation) (to : ℕ) (xs : Wires) (c : Circuit) → 2 ≤ next_of c → AreWires (next_of c) xs → GoesOn (one_operand operation to xs) c
one_goes (OfOne operation) to xs c some i = unary_goes operation to xs c some i
one_goes (OfTwo operation) to xs c some i = (stays c, tt)

one_found_goes : (found : Option Operator) (xs : Wires) (c : Circuit) → 2 ≤ next_of c → AreWires (next_of c) xs → GoesOn (unary_by found xs) c
one_found_goes None xs c some i = (stays c, tt)
one_found_goes (Some o) xs c some i = one_goes o.operation (bits_of o.result) xs c some i

pub unary_operator_goes : (op : ℕ) (xs : Wires) (c : Circuit) → 2 ≤ next_of c → AreWires (next_of c) xs → GoesOn (unary_operator op xs) c
unary_operator_goes op xs c some i = one_found_goes (operator_of op) xs c some i

two_goes : (operation : Operation) (width : Width) (to : ℕ) (xs ys : Wires) (c : Circuit) → 2 ≤ next_of c → AreWires (next_of c) xs → AreWires (next_of c) ys
    → GoesOn (two_operands operation width to xs ys) c
two_goes (OfOne operation) width to xs ys c some i j = (stays c, tt)
two_goes (OfTwo operation) width to xs ys c some i j = binary_goes operation width to xs ys c some i j

two_found_goes : (found : Option Operator) (xs ys : Wires) (c : Circuit) → 2 ≤ next_of c → AreWires (next_of c) xs → AreWires (next_of c) ys → GoesOn (binary_by found xs ys) c
two_found_goes None xs ys c some i j = (stays c, tt)
two_found_goes (Some o) xs ys c some i j = two_goes o.operation o.operand (bits_of o.result) xs ys c some i j

pub binary_operator_goes : (op : ℕ) (xs ys : Wires) (c : Circuit) → 2 ≤ next_of c → AreWires (next_of c) xs → AreWires (next_of c) ys → GoesOn (binary_operator op xs ys) c
binary_operator_goes op xs ys c some i j = two_found_goes (operator_of op) xs ys c some i j
