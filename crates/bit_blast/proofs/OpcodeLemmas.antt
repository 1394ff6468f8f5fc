-- The operators by their opcodes.
use Rattle.std.proofs.Common.{◌≡◌, ℕ, true, false, length, Option, Some, None, IsTrue, IfSome}
use Rattle.std.specs.Option.{option_map_or}
use Rattle.int_ops.specs.declared.operators.Width.{Width}
use Rattle.int_ops.specs.declared.operators.Operation.{Operation}
use Rattle.int_ops.specs.declared.operators.Operation.TheVariants.{OfOne, OfTwo}
use Rattle.int_ops.specs.declared.operators.Operator.{Operator}
use Rattle.int_ops.specs.Operators.{bits_of, operator_of, is_of_one, is_of_two, of_one, of_two_total, is_unary, is_binary, operand_bits, result_bits, unary, total}
use Rattle.int_ops.proofs.WidthLemmas.{has_room, has_room_at}
use Rattle.refute_check.specs.Clauses.{Assignment}
use Rattle.bit_blast.specs.Gates.{Wires, Circuit}
use Rattle.bit_blast.specs.Operators.{one_operand, unary_by, unary_operator, two_operands, binary_by, binary_operator}
use Rattle.bit_blast.proofs.BitNumbers.{number}
use Rattle.bit_blast.proofs.WireLemmas.{read}
use Rattle.bit_blast.proofs.BlockLemmas.{Valued}
use Rattle.bit_blast.proofs.OperatorLemmas.{unary_reads, length_unary, binary_reads, length_binary}

abbrev HasRoom : Option Operator → Type 0
HasRoom found = IfSome found (λ o. IsTrue (has_room o.operation (bits_of o.operand) (bits_of o.result)))

abbrev from_bits : Option Operator → ℕ
from_bits found = option_map_or (λ o. bits_of o.operand) found 0

abbrev to_bits : Option Operator → ℕ
to_bits found = option_map_or (λ o. bits_of o.result) found 0

-- ---- one operand

module _ (s : Assignment) (one : s 1 ≡ true) where
  one_by : (operation : Operation) (from to : Width) (xs : Wires) (c : Circuit) → IsTrue (is_of_one operation) → length xs ≡ bits_of from
      → IsTrue (has_room operation (bits_of from) (bits_of to)) → Valued s (one_operand operation (bits_of to) xs c).circuit
      → Valued s c × (number (read s (one_operand operation (bits_of to) xs c).result) ≡ of_one operation (bits_of from) (bits_of to) (number (read s xs)))
  one_by (OfOne operation) from to xs c class long room h = unary_reads s one operation from to xs c long room h
  one_by (OfTwo operation) from to xs c class long room h = cc

  one_found : (found : Option Operator) (xs : Wires) (c : Circuit) → HasRoom found → IsTrue (option_map_or (λ o. is_of_one o.operation) found false)
      → length xs ≡ from_bits found → Valued s (unary_by found xs c).circuit
      → Valued s c × (number (read s (unary_by found xs c).result) ≡ option_map_or (λ o. of_one o.operation (bits_of o.operand) (bits_of o.result) (number (read s xs))) found 0)
  one_found None xs c room class long h = cc
  one_found (Some o) xs c room class long h = one_by o.operation o.operand o.result xs c class long room h

  pub unary_operator_reads : (op : ℕ) (xs : Wires) (c : Circuit) → IsTrue (is_unary op) → length xs ≡ operand_bits op → Valued s (unary_operator op xs c).circuit
      → Valued s c × (number (read s (unary_operator op xs c).result) ≡ unary op (number (read s xs)))
  unary_operator_reads op xs c class long h = one_found (operator_of op) xs c (has_room_at op) class long h

  -- ---- two operands

  two_by : (operation : Operation) (width to : Width) (xs ys : Wires) (c : Circuit) → IsTrue (is_of_two operation) → length xs ≡ bits_of width → length ys ≡ bits_of width
      → Valued s (two_operands operation width (bits_of to) xs ys c).circuit
      → Valued s c × (number (read s (two_operands operation width (bits_of to) xs ys c).result) ≡ of_two_total operation (bits_of width) (number (read s xs)) (number (read s ys)))
  two_by (OfOne operation) width to xs ys c class x_long y_long h = cc
  two_by (OfTwo operation) width to xs ys c class x_long y_long h = binary_reads s one operation width to xs ys c x_long y_long h

  two_found : (found : Option Operator) (xs ys : Wires) (c : Circuit) → IsTrue (option_map_or (λ o. is_of_two o.operation) found false)
      → length xs ≡ from_bits found → length ys ≡ from_bits found → Valued s (binary_by found xs ys c).circuit
      → Valued s c × (number (read s (binary_by found xs ys c).result) ≡ option_map_or (λ o. of_two_total o.operation (bits_of o.operand) (number (read s xs)) (number (read s ys))) found 0)
  two_found None xs ys c class x_long y_long h = cc
  two_found (Some o) xs ys c class x_long y_long h = two_by o.operation o.operand o.result xs ys c class x_long y_long h

  pub binary_operator_reads : (op : ℕ) (xs ys : Wires) (c : Circuit) → IsTrue (is_binary op) → length xs ≡ operand_bits op → length ys ≡ operand_bits op
      → Valued s (binary_operator op xs ys c).circuit
      → Valued s c × (number (read s (binary_operator op xs ys c).result) ≡ total op (number (read s xs)) (number (read s ys)))
  binary_operator_reads op xs ys c class x_long y_long h = two_found (operator_of op) xs ys c class x_long y_long h

-- ---- how many wires

length_one : (operation : Operation) (to : Width) (xs : Wires) (c : Circuit) → IsTrue (is_of_one operation) → length (one_operand operation (bits_of to) xs c).result ≡ bits_of to
length_one (OfOne operation) to xs c class = length_unary operation to xs c
length_one (OfTwo operation) to xs c class = cc

length_one_found : (found : Option Operator) (xs : Wires) (c : Circuit) → IsTrue (option_map_or (λ o. is_of_one o.operation) found false) → length (unary_by found xs c).result ≡ to_bits found
length_one_found None xs c class = cc
length_one_found (Some o) xs c class = length_one o.operation o.result xs c class

pub length_unary_operator : (op : ℕ) (xs : Wires) (c : Circuit) → IsTrue (is_unary op) → length (unary_operator op xs c).result ≡ result_bits op
length_unary_operator op xs c class = length_one_found (operator_of op) xs c class

length_two : (operation : Operation) (width to : Width) (xs ys : Wires) (c : Circuit) → IsTrue (is_of_two operation) → length xs ≡ bits_of width → length ys ≡ bits_of width
    → IsTrue (has_room operation (bits_of width) (bits_of to)) → length (two_operands operation width (bits_of to) xs ys c).result ≡ bits_of to
length_two (OfOne operation) width to xs ys c class x_long y_long room = cc
length_two (OfTwo operation) width to xs ys c class x_long y_long room = length_binary operation width to xs ys c x_long y_long room

length_two_found : (found : Option Operator) (xs ys : Wires) (c : Circuit) → HasRoom found → IsTrue (option_map_or (λ o. is_of_two o.operation) found false)
    → length xs ≡ from_bits found → length ys ≡ from_bits found → length (binary_by found xs ys c).result ≡ to_bits found
length_two_found None xs ys c room class x_long y_long = cc
length_two_found (Some o) xs ys c room class x_long y_long = length_two o.operation o.operand o.result xs ys c class x_long y_long room

pub length_binary_operator : (op : ℕ) (xs ys : Wires) (c : Circuit) → IsTrue (is_binary op) → length xs ≡ operand_bits op → length ys ≡ operand_bits op
    → length (binary_operator op xs ys c).result ≡ result_bits op
length_binary_operator op xs ys c class x_long y_long = length_two_found (operator_of op) xs ys c (has_room_at op) class x_long y_long
