-- The gates of a formula are over wires of earlier variables.
use Rattle.std.proofs.Common.{◌≡◌, ℕ, zero, suc, ◌+◌, ◌*◌, ◌≤◌, Bool, true, false, if◌then◌else◌, List, [], ◌∷◌, ◌++◌, drop, reverse, slice_get, ◌∙◌, subst, arith, Option, Some, None}
use Rattle.int_ops.specs.Operators.{operand_bits}
use Rattle.wasm_rules.specs.Words.{bits_where}
use Rattle.bv_terms.specs.Terms.{Term, Number, Symbol, Unary, Binary, Choose, Byte, Join, Bytes, NoBytes, Then, is_same}
use Rattle.bit_blast.specs.declared.gates.Gate.TheVariants.{Same}
use Rattle.bit_blast.specs.Gates.{false_wire, Circuit, next_of}
use Rattle.bit_blast.specs.Blocks.{Built}
use Rattle.bit_blast.specs.Formulas.{Condition, symbol_first, symbols_end, falling_wires, Known, wires_in, operand, byte_wires, term_wires, terms_in_order, build_terms, build_first, FormulaParts, built, start}
use Rattle.bit_blast.specs.Meanings.{IsProper}
use Rattle.bit_blast.proofs.RangeLemmas.{AreWires, IsRanged, wires-later, wires-number, wires-append, wires-drop, wires-reverse, false-wire, Goes, stays, then_goes, each_goes, choose_goes}
use Rattle.bit_blast.proofs.OperatorRanges.{GoesOn, wires-fitted, unary_operator_goes, binary_operator_goes}
use Rattle.bit_blast.proofs.OrderLemmas.{Ordered, InOrder}

-- ---- symbols

pub end_later : (from : ℕ) (draws : List Bool) → from ≤ symbols_end from draws
end_later from [] = omega arith
end_later from (wide ∷ draws) = let rest = end_later (from + bits_where wide) draws in omega arith

pub symbol_within : (from : ℕ) (draws : List Bool) (k : ℕ) (wide : Bool) → slice_get draws k ≡ Some wide
    → (from ≤ symbol_first from draws k) × (symbol_first from draws k + bits_where wide ≤ symbols_end from draws)
symbol_within from [] k wide h = cc
symbol_within from (w ∷ draws) zero wide h =
    let e : w ≡ wide = cc in
    (omega arith, subst (λ (b : Bool). from + bits_where b ≤ symbols_end (from + bits_where w) draws) e (end_later (from + bits_where w) draws))
symbol_within from (w ∷ draws) (suc k) wide h =
    let rest = symbol_within (from + bits_where w) draws k wide h in
    (omega (arith, rest.0), rest.1)

falling : (m first bits : ℕ) → 1 ≤ first → first + bits ≤ m → AreWires m (falling_wires first bits)
falling m first zero some h = tt
falling m first (suc bits) some h = ((omega arith, omega arith), falling m first bits some (omega arith))

-- ---- terms

abbrev pub KnownWires : ℕ → Known → Type 0
KnownWires m [] = Unit {0}
KnownWires m (row ∷ known) = AreWires m row.1 × KnownWires m known

known-later : (m n : ℕ) → m ≤ n → (known : Known) → KnownWires m known → KnownWires n known
known-later m n h [] i = tt
known-later m n h (row ∷ known) i = (wires-later m n h row.1 i.0, known-later m n h known i.1)

pub wires-known : (m : ℕ) (known : Known) (t : Term) → KnownWires m known → AreWires m (wires_in known t)
wires-known m [] t i = tt
wires-known m (row ∷ known) t i = go (is_same t row.0) (wires-known m known t i.1)
  where
    go : (b : Bool) → AreWires m (wires_in known t) → AreWires m (if b then row.1 else wires_in known t)
    go true h = i.0
    go false h = h

wires-operand : (m : ℕ) (known : Known) (bits : ℕ) (t : Term) → 2 ≤ m → KnownWires m known → AreWires m (operand known bits t)
wires-operand m known bits (Number n) h i = wires-number m bits n h
wires-operand m known bits (Symbol k wide) h i = wires-known m known (Symbol k wide) i
wires-operand m known bits (Unary op a) h i = wires-known m known (Unary op a) i
wires-operand m known bits (Binary op a b) h i = wires-known m known (Binary op a b) i
wires-operand m known bits (Choose wide c a b) h i = wires-known m known (Choose wide c a b) i
wires-operand m known bits (Byte a j) h i = wires-known m known (Byte a j) i
wires-operand m known bits (Join wide bytes) h i = wires-known m known (Join wide bytes) i

wires-bytes : (m : ℕ) (known : Known) (bytes : Bytes) → 2 ≤ m → KnownWires m known → AreWires m (byte_wires known bytes)
wires-bytes m known NoBytes h i = tt
wires-bytes m known (Then t rest) h i = wires-append m (operand known 8 t) (byte_wires known rest) (wires-operand m known 8 t h i) (wires-bytes m known rest h i)

pub term_goes : (draws : List Bool) (known : Known) (t : Term) (c : Circuit) → IsProper draws t → 2 ≤ next_of c → symbols_end 2 draws ≤ next_of c → KnownWires (next_of c) known
    → GoesOn (term_wires draws known t) c
term_goes draws known (Number n) c proper some all i = (stays c, tt)
term_goes draws known (Symbol k wide) c proper some all i =
    let place = symbol_within 2 draws k wide proper.drawn in
    let low = place.0 in
    let high = place.1 in
    (stays c, falling (next_of c) (symbol_first 2 draws k) (bits_where wide) (omega arith) (omega arith))
term_goes draws known (Unary op a) c proper some all i =
    unary_operator_goes op (operand known (operand_bits op) a) c some (wires-operand (next_of c) known (operand_bits op) a some i)
term_goes draws known (Binary op a b) c proper some all i =
    binary_operator_goes op (operand known (operand_bits op) a) (operand known (operand_bits op) b) c some
    (wires-operand (next_of c) known (operand_bits op) a some i) (wires-operand (next_of c) known (operand_bits op) b some i)
term_goes draws known (Choose wide d a b) c proper some all i =
    choose_goes (operand known 64 d) (operand known (bits_where wide) a) (operand known (bits_where wide) b) c some
    (wires-operand (next_of c) known 64 d some i) (wires-operand (next_of c) known (bits_where wide) a some i) (wires-operand (next_of c) known (bits_where wide) b some i)
term_goes draws known (Byte a j) c proper some all i = (
  stays c,
  wires-fitted (next_of c) 8 false_wire (drop (8 * j) (operand known 64 a)) (false-wire (next_of c) some)
      (wires-drop (next_of c) (8 * j) (operand known 64 a) (wires-operand (next_of c) known 64 a some i)),
)
term_goes draws known (Join wide bytes) c proper some all i =
    (stays c, wires-fitted (next_of c) (bits_where wide) false_wire (byte_wires known bytes) (false-wire (next_of c) some) (wires-bytes (next_of c) known bytes some i))

build_goes : (draws : List Bool) (terms seen : List Term) (known : Known) (c : Circuit) → Ordered draws seen terms → 2 ≤ next_of c → symbols_end 2 draws ≤ next_of c → KnownWires (next_of c) known
    → Goes c (build_terms draws terms known c).circuit × KnownWires (next_of (build_terms draws terms known c).circuit) (build_terms draws terms known c).result
build_goes draws [] seen known c o some all i = (stays c, i)
build_goes draws (t ∷ terms) seen known c o some all i =
    let here = term_wires draws known t c in
    let a = term_goes draws known t c o.1 some all i in
    let am = a.0.more in
    let rest = build_goes draws terms (seen ++ t ∷ []) ((t, here.result) ∷ known) here.circuit o.2 (omega arith) (omega arith)
    (a.1, known-later (next_of c) (next_of here.circuit) am known i) in
    (then_goes c here.circuit (build_terms draws terms ((t, here.result) ∷ known) here.circuit).circuit a.0 rest.0, rest.1)

first_goes : (known : Known) (first : Option Term) (c : Circuit) → 2 ≤ next_of c → KnownWires (next_of c) known
    → Goes c (build_first known first c).circuit × AreWires (next_of (build_first known first c).circuit) (build_first known first c).result
first_goes known None c some i = (stays c, tt)
first_goes known (Some t) c some i =
    each_goes Same (reverse (wires_in known t)) c some (λ w h. h) (wires-reverse (next_of c) (wires_in known t) (wires-known (next_of c) known t i))

-- ---- all of it

pub record Ranges (draws : List Bool) (all : Built FormulaParts) : Type 0 where
  pub starts : all.circuit.first ≡ symbols_end 2 draws
  pub ranged : IsRanged all.circuit.first all.circuit.gates
  pub known : KnownWires (next_of all.circuit) all.result.known
  pub least : AreWires (next_of all.circuit) all.result.least

pub all_ranged : (conditions : List Condition) (draws : List Bool) (first : Option Term) → InOrder draws conditions first → Ranges draws (built conditions draws first)
all_ranged conditions draws first o =
    let terms = build_terms draws (terms_in_order conditions first) [] (start draws) in
    let some = end_later 2 draws in
    let plain : next_of (start draws) ≡ symbols_end 2 draws = omega arith in
    let a = build_goes draws (terms_in_order conditions first) [] [] (start draws) o.ordered (omega arith) (omega arith) tt in
    let am = a.0.more in
    let b = first_goes terms.result first terms.circuit (omega arith) a.1 in
    record {
      starts = b.0.first ∙ a.0.first;
      ranged = b.0.ranged (a.0.ranged tt);
      known = known-later (next_of terms.circuit) (next_of (build_first terms.result first terms.circuit).circuit) b.0.more terms.result a.1;
      least = b.1;
    }
