-- Gates, blocks and formulas that are worked out by hand.
use Rattle.std.proofs.Common.{◌≡◌, ◌++◌, true, false, List, [], ◌∷◌, length, refl, Some, None}
use Rattle.int_ops.specs.Operators.{operator_of}
use Rattle.bv_terms.specs.Terms.{Term, Symbol, Unary, Binary, Choose}
use Rattle.bit_blast.specs.declared.gates.Gate.{Gate}
use Rattle.bit_blast.specs.declared.gates.Gate.TheVariants.{And, Xor, Mux, Maj, Same}
use Rattle.bit_blast.specs.declared.blocks.Shift.TheVariants.{Left, Right, RightSigned, RotateLeft, RotateRight}
use Rattle.bit_blast.specs.Gates.{true_wire, false_wire, number_wires, gate_clauses, Circuit}
use Rattle.bit_blast.specs.Blocks.{Built, add, less, none, divide, multiply, moved, shift_by, choose}
use Rattle.bit_blast.specs.Formulas.{terms_in_order, falling_wires, variables_from, formula}

-- ---- gates, over the variables 2 and 3 with the value in 4

ands : gate_clauses 4 (And 4 7) ≡ (9 ∷ 4 ∷ []) ∷ (9 ∷ 7 ∷ []) ∷ (8 ∷ 5 ∷ 6 ∷ []) ∷ []
ands = refl

xors : gate_clauses 4 (Xor 4 6) ≡ (9 ∷ 4 ∷ 6 ∷ []) ∷ (9 ∷ 5 ∷ 7 ∷ []) ∷ (8 ∷ 5 ∷ 6 ∷ []) ∷ (8 ∷ 4 ∷ 7 ∷ []) ∷ []
xors = refl

-- a literal that is repeated is dropped; a literal and its negation both stay
repeats : gate_clauses 4 (And 4 4) ≡ (9 ∷ 4 ∷ []) ∷ (9 ∷ 4 ∷ []) ∷ (8 ∷ 5 ∷ []) ∷ []
repeats = refl

majorities : gate_clauses 4 (Maj 4 5 3) ≡ (5 ∷ 4 ∷ 8 ∷ []) ∷ (5 ∷ 2 ∷ 8 ∷ []) ∷ (4 ∷ 2 ∷ 8 ∷ []) ∷ (4 ∷ 5 ∷ 9 ∷ []) ∷ (4 ∷ 3 ∷ 9 ∷ []) ∷ (5 ∷ 3 ∷ 9 ∷ []) ∷ []
majorities = refl

muxes : gate_clauses 4 (Mux 4 6 6) ≡ (5 ∷ 7 ∷ 8 ∷ []) ∷ (5 ∷ 6 ∷ 9 ∷ []) ∷ (4 ∷ 7 ∷ 8 ∷ []) ∷ (4 ∷ 6 ∷ 9 ∷ []) ∷ []
muxes = refl

same_values : gate_clauses 4 (Same 7) ≡ (9 ∷ 7 ∷ []) ∷ (8 ∷ 6 ∷ []) ∷ []
same_values = refl

-- ---- blocks, over the variables from 2 on, with gates from 10 on

from_10 : Circuit
from_10 = record { first = 10; gates = [] }

-- the gates in the order in which they are put
abbrev gates_of : {A : Type 0} → Built A → List Gate
gates_of built = built.circuit.gates

six : number_wires 4 6 ≡ false_wire ∷ true_wire ∷ true_wire ∷ false_wire ∷ []
six = refl

adds : add (4 ∷ 6 ∷ []) (8 ∷ 10 ∷ []) false_wire from_10 ≡ record {
  circuit = record { first = 10; gates = Maj 6 10 24 ∷ Xor 26 24 ∷ Xor 6 10 ∷ Maj 4 8 3 ∷ Xor 20 3 ∷ Xor 4 8 ∷ [] };
  result = record { sums = 22 ∷ 28 ∷ []; carry = 30 };
}
unfolding from_10
adds = refl

compares : less (4 ∷ 6 ∷ []) (8 ∷ 10 ∷ []) from_10 ≡ record {
  circuit = record { first = 10; gates = Maj 7 10 20 ∷ Maj 5 8 3 ∷ [] };
  result = 22;
}
unfolding from_10
compares = refl

looks_for_none : none (4 ∷ 6 ∷ 9 ∷ []) from_10 ≡ record {
  circuit = record { first = 10; gates = And 20 8 ∷ And 5 7 ∷ [] };
  result = 22;
}
unfolding from_10
looks_for_none = refl

-- with one bit: r' is the bit and false_wire; it is compared with the divisor, and chosen
divides : divide (4 ∷ []) (6 ∷ []) from_10 ≡ record {
  circuit = record { first = 10; gates = Mux 30 28 3 ∷ Mux 30 22 4 ∷ Maj 3 2 24 ∷ Xor 26 24 ∷ Xor 3 2 ∷ Maj 4 7 2 ∷ Xor 20 2 ∷ Xor 4 7 ∷ [] };
  result = record { quotient = 30 ∷ []; remainder = 32 ∷ [] };
}
unfolding from_10
divides = refl

multiplies : multiply (4 ∷ 6 ∷ []) (8 ∷ 10 ∷ []) from_10 ≡ record {
  circuit = record { first = 10; gates = Maj 22 24 3 ∷ Xor 26 3 ∷ Xor 22 24 ∷ And 4 10 ∷ And 6 8 ∷ And 4 8 ∷ [] };
  result = 20 ∷ 28 ∷ [];
}
unfolding from_10
multiplies = refl

moves : (moved Left 1 (4 ∷ 6 ∷ 8 ∷ []) ≡ 3 ∷ 4 ∷ 6 ∷ []) × (moved Right 1 (4 ∷ 6 ∷ 8 ∷ []) ≡ 6 ∷ 8 ∷ 3 ∷ [])
    × (moved RightSigned 2 (4 ∷ 6 ∷ 8 ∷ []) ≡ 8 ∷ 8 ∷ 8 ∷ []) × (moved RotateLeft 1 (4 ∷ 6 ∷ 8 ∷ []) ≡ 8 ∷ 4 ∷ 6 ∷ [])
    × (moved RotateRight 1 (4 ∷ 6 ∷ 8 ∷ []) ≡ 6 ∷ 8 ∷ 4 ∷ [])
moves = (refl, refl, refl, refl, refl)

-- by one place where wire 10 is true, and by two more where wire 12 is
shifts : shift_by Left 1 (10 ∷ 12 ∷ []) (4 ∷ 6 ∷ []) from_10 ≡ record {
  circuit = record { first = 10; gates = Mux 12 3 22 ∷ Mux 12 3 20 ∷ Mux 10 4 6 ∷ Mux 10 3 4 ∷ [] };
  result = 24 ∷ 26 ∷ [];
}
unfolding from_10
shifts = refl

chooses : choose (4 ∷ 6 ∷ []) (8 ∷ []) (10 ∷ []) from_10 ≡ record {
  circuit = record { first = 10; gates = Mux 21 8 10 ∷ And 5 7 ∷ [] };
  result = 22 ∷ [];
}
unfolding from_10
chooses = refl

-- ---- formulas

-- operands from left to right, each term once; the choice comes after its condition and its sides
orders : terms_in_order ((Choose false (Symbol 2 false) (Symbol 1 false) (Binary 0x6A (Symbol 0 false) (Symbol 2 false)), true) ∷ []) (Some (Symbol 3 false))
    ≡ Symbol 2 false ∷ Symbol 1 false ∷ Symbol 0 false ∷ Binary 0x6A (Symbol 0 false) (Symbol 2 false)
    ∷ Choose false (Symbol 2 false) (Symbol 1 false) (Binary 0x6A (Symbol 0 false) (Symbol 2 false)) ∷ Symbol 3 false ∷ []
orders = refl

-- of three bits from variable 5 on, the highest has variable 5
falls : falling_wires 5 3 ≡ 14 ∷ 12 ∷ 10 ∷ []
falls = refl

-- whether symbol 0, of 32 bits, is 0: with answer 1, 64 variables and 95 clauses; with answer 0, 126 clauses
abbrev zero_test : Term
zero_test = Unary 0x45 (Symbol 0 false)

variables : (formula ((zero_test, true) ∷ []) (false ∷ []) None).vars ≡ 64
unfolding operator_of
variables = refl

clauses_of_yes : length (formula ((zero_test, true) ∷ []) (false ∷ []) None).clauses ≡ 95
unfolding operator_of
clauses_of_yes = refl

clauses_of_no : length (formula ((zero_test, false) ∷ []) (false ∷ []) None).clauses ≡ 126
unfolding operator_of
clauses_of_no = refl

order : (formula ((zero_test, true) ∷ []) (false ∷ []) None).order ≡ variables_from 2 32 ++ 1 ∷ variables_from 34 31
unfolding operator_of
order = refl

order_of_no : (formula ((zero_test, false) ∷ []) (false ∷ []) None).order ≡ variables_from 2 32 ++ 1 ∷ variables_from 34 31
unfolding operator_of
order_of_no = refl

-- with symbol 0 to be least, from its highest bit down
order_with_first : (formula ((zero_test, true) ∷ []) (false ∷ []) (Some (Symbol 0 false))).order
    ≡ variables_from 65 32 ++ variables_from 2 32 ++ 1 ∷ variables_from 34 31
unfolding operator_of
order_with_first = refl
