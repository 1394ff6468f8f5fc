-- The formula of conditions: the terms of the conditions one after another, each once and after its operands, by gates; and
-- then the conditions themselves.
use Rattle.std.specs.Prelude.{ℕ, zero, suc, ◌+◌, ◌-◌, ◌*◌, Bool, true, false, if◌then◌else◌, List, [], ◌∷◌, ◌++◌, length, map, flat_map, drop, reverse, Option, Some, None}
use Rattle.std.specs.List.{list_any}
use Rattle.int_ops.specs.Operators.{operand_bits}
use Rattle.wasm_rules.specs.Words.{bits_where}
use Rattle.bv_terms.specs.Terms.{Term, Number, Symbol, Unary, Binary, Choose, Byte, Join, Bytes, NoBytes, Then, is_same}
use Rattle.refute_check.specs.Clauses.{Clause, positive, variable_of}
use Rattle.refute_check.specs.Resolution.{each_once}
use Rattle.refute_check.specs.declared.formulas.Cnf.{Cnf}
use Rattle.bit_blast.specs.declared.gates.Gate.TheVariants.{Same}
use Rattle.bit_blast.specs.Gates.{Wires, true_wire, false_wire, negation, number_wires, Circuit, next_of, clauses_from}
use Rattle.bit_blast.specs.Blocks.{Built, Building, give, ◌>>=◌, each, choose}
use Rattle.bit_blast.specs.Operators.{fitted, unary_operator, binary_operator}

-- a term, and whether it isn't 0
abbrev pub Condition : Type 0
Condition = Term × Bool

-- ---- which terms, and in which order

-- a term comes after others where it isn't there yet
abbrev pub once_after : List Term → Term → List Term → List Term
once_after others t seen = if list_any (is_same t) seen then seen else others ++ t ∷ []

-- The terms so far, with a term and all terms below it that aren't there yet: each after its operands, which go from left to
-- right. A number is no term of its own.
abbrev mutual
  pub with_terms : Term → List Term → List Term
  with_terms (Number n) seen = seen
  with_terms (Symbol k wide) seen = once_after seen (Symbol k wide) seen
  with_terms (Unary op a) seen = once_after (with_terms a seen) (Unary op a) seen
  with_terms (Binary op a b) seen = once_after (with_terms b (with_terms a seen)) (Binary op a b) seen
  with_terms (Choose wide c a b) seen = once_after (with_terms b (with_terms a (with_terms c seen))) (Choose wide c a b) seen
  with_terms (Byte a i) seen = once_after (with_terms a seen) (Byte a i) seen
  with_terms (Join wide bytes) seen = once_after (with_bytes bytes seen) (Join wide bytes) seen

  pub with_bytes : Bytes → List Term → List Term
  with_bytes NoBytes seen = seen
  with_bytes (Then t rest) seen = with_bytes rest (with_terms t seen)

abbrev pub with_conditions : List Condition → List Term → List Term
with_conditions [] seen = seen
with_conditions (condition ∷ conditions) seen = with_conditions conditions (with_terms condition.0 seen)

abbrev pub with_first : Option Term → List Term → List Term
with_first None seen = seen
with_first (Some t) seen = with_terms t seen

-- the terms of the conditions in order, and then those of the term that is to be least
abbrev pub terms_in_order : List Condition → Option Term → List Term
terms_in_order conditions first = with_first first (with_conditions conditions [])

-- ---- symbols

-- the variable of the highest bit of a symbol, where the symbols with these widths have the variables from one on
abbrev pub symbol_first : ℕ → List Bool → ℕ → ℕ
symbol_first from [] k = from
symbol_first from (wide ∷ draws) zero = from
symbol_first from (wide ∷ draws) (suc k) = symbol_first (from + bits_where wide) draws k

-- the variable after those of all symbols
abbrev pub symbols_end : ℕ → List Bool → ℕ
symbols_end from [] = from
symbols_end from (wide ∷ draws) = symbols_end (from + bits_where wide) draws

-- so many wires, the highest of which has the first variable
abbrev pub falling_wires : ℕ → ℕ → Wires
falling_wires first zero = []
falling_wires first (suc bits) = positive (first + bits) ∷ falling_wires first bits

-- variable 1 is true, and the symbols come after it
abbrev pub symbol_wires : List Bool → ℕ → Bool → Wires
symbol_wires draws k wide = falling_wires (symbol_first 2 draws k) (bits_where wide)

-- ---- the wires of terms

-- terms with their wires
abbrev pub Known : Type 0
Known = List (Term × Wires)

abbrev pub wires_in : Known → Term → Wires
wires_in [] t = []
wires_in (row ∷ known) t = if is_same t row.0 then row.1 else wires_in known t

-- the wires of an operand: of a number in the bits that are wanted
abbrev pub operand : Known → ℕ → Term → Wires
operand known bits (Number n) = number_wires bits n
operand known bits t = wires_in known t

abbrev pub byte_wires : Known → Bytes → Wires
byte_wires known NoBytes = []
byte_wires known (Then t rest) = operand known 8 t ++ byte_wires known rest

-- a number that is chosen by or whose byte is taken has 64 bits
abbrev pub term_wires : List Bool → Known → Term → Building Wires
term_wires draws known (Number n) = give []
term_wires draws known (Symbol k wide) = give (symbol_wires draws k wide)
term_wires draws known (Unary op a) = unary_operator op (operand known (operand_bits op) a)
term_wires draws known (Binary op a b) = binary_operator op (operand known (operand_bits op) a) (operand known (operand_bits op) b)
term_wires draws known (Choose wide c a b) = choose (operand known 64 c) (operand known (bits_where wide) a) (operand known (bits_where wide) b)
term_wires draws known (Byte a i) = give (fitted 8 false_wire (drop (8 * i) (operand known 64 a)))
term_wires draws known (Join wide bytes) = give (fitted (bits_where wide) false_wire (byte_wires known bytes))

-- the terms one after another
abbrev pub build_terms : List Bool → List Term → Known → Building Known
build_terms draws [] known = give known
build_terms draws (t ∷ terms) known = do
  wires ← term_wires draws known t
  build_terms draws terms ((t, wires) ∷ known)

-- ---- what is to be least: a gate each for its bits, the highest first

abbrev pub build_first : Known → Option Term → Building Wires
build_first known None = give []
build_first known (Some t) = each Same (reverse (wires_in known t))

-- ---- all of it

pub record FormulaParts : Type 0 where
  pub known : Known
  pub least : Wires

abbrev pub build_parts : List Condition → List Bool → Option Term → Building FormulaParts
build_parts conditions draws first = do
  known ← build_terms draws (terms_in_order conditions first) []
  least ← build_first known first
  give (record { known = known; least = least })

-- no gates yet: they come after variable 1 and the symbols
abbrev pub start : List Bool → Circuit
start draws = record { first = symbols_end 2 draws; gates = [] }

abbrev pub built : List Condition → List Bool → Option Term → Built FormulaParts
built conditions draws first = build_parts conditions draws first (start draws)

-- A term isn't 0 where one of its bits is true, and is 0 where none is.
abbrev pub condition_clauses : Known → Condition → List Clause
condition_clauses known (t, true) = each_once (wires_in known t) ∷ []
condition_clauses known (t, false) = map (λ wire. negation wire ∷ []) (wires_in known t)

-- so many variables from one on
abbrev pub variables_from : ℕ → ℕ → List ℕ
variables_from first zero = []
variables_from first (suc count) = first ∷ variables_from (suc first) count

-- The bits that are to be least are decided first, then those of the symbols, then the other variables upwards.
abbrev pub decisions : Circuit → Wires → List ℕ
decisions circuit least =
    map variable_of least
    ++ variables_from 2 (circuit.first - 2)
    ++ 1 ∷ variables_from circuit.first (length circuit.gates - length least)

abbrev pub formula_of : List Condition → Built FormulaParts → Cnf
formula_of conditions all = record {
  vars = next_of all.circuit - 1;
  clauses = (true_wire ∷ []) ∷ [] ++ clauses_from all.circuit.first all.circuit.gates ++ flat_map (condition_clauses all.result.known) conditions;
  order = decisions all.circuit all.result.least;
}

-- the formula of conditions over symbols of these widths, where a term may be to be least
abbrev pub formula : List Condition → List Bool → Option Term → Cnf
formula conditions draws first = formula_of conditions (built conditions draws first)

-- ---- what is asked of the terms
