-- What an assignment of the variables says: the bits of its wires, the input of its symbols, and that each gate has its
-- value.
use Rattle.std.specs.Prelude.{◌≡◌, ◌≢◌, ℕ, ◌+◌, ◌*◌, Bool, true, false, not, ◌&&◌, ◌||◌, if◌then◌else◌, List, [], ◌∷◌, length, All}
use Rattle.wasm_rules.specs.Words.{bits_where}
use Rattle.bv_terms.specs.Terms.{Term, is_number, width_of, HasWidth, value_of, HasSymbols}
use Rattle.refute_check.specs.Clauses.{Assignment, variable_of, sign_of}
use Rattle.bit_blast.specs.declared.gates.Gate.{Gate}
use Rattle.bit_blast.specs.declared.gates.Gate.TheVariants.{And, Xor, Mux, Maj, Same}
use Rattle.bit_blast.specs.Gates.{Wires}
use Rattle.bit_blast.specs.Formulas.{Condition, falling_wires, built}
use Rattle.std.specs.Prelude.{Option, Some, None, IsTrue}

-- ---- wires

-- whether a wire is true
abbrev pub holds : Assignment → ℕ → Bool
holds assignment wire = if sign_of wire then assignment (variable_of wire) else not (assignment (variable_of wire))

abbrev pub bit : Bool → ℕ
bit true = 1
bit false = 0

-- the number whose bits are the wires, the lowest first
abbrev pub value_of_wires : Assignment → Wires → ℕ
value_of_wires assignment [] = 0
value_of_wires assignment (wire ∷ wires) = bit (holds assignment wire) + 2 * value_of_wires assignment wires

-- ---- gates

abbrev pub differ : Bool → Bool → Bool
differ a b = if a then not b else b

abbrev pub gate_value : Assignment → Gate → Bool
gate_value assignment (And a b) = holds assignment a && holds assignment b
gate_value assignment (Xor a b) = differ (holds assignment a) (holds assignment b)
gate_value assignment (Mux s a b) = if holds assignment s then holds assignment a else holds assignment b
gate_value assignment (Maj a b c) =
    if holds assignment a then holds assignment b || holds assignment c else holds assignment b && holds assignment c
gate_value assignment (Same a) = holds assignment a

-- each gate has its value, where the first of them has this variable, and the latest is in front
abbrev pub HaveValues : Assignment → ℕ → List Gate → Type 0
HaveValues assignment first [] = Unit {0}
HaveValues assignment first (gate ∷ earlier) =
    (assignment (first + length earlier) ≡ gate_value assignment gate) × HaveValues assignment first earlier

-- ---- inputs

-- the numbers whose bits are those of the symbols, where the first of them has its highest bit at this variable
abbrev pub input_from : Assignment → ℕ → List Bool → List ℕ
input_from assignment first [] = []
input_from assignment first (wide ∷ draws) =
    value_of_wires assignment (falling_wires first (bits_where wide)) ∷ input_from assignment (first + bits_where wide) draws

abbrev pub input_of : Assignment → List Bool → List ℕ
input_of assignment draws = input_from assignment 2 draws

-- the condition has its answer at an input
abbrev pub IsAnswered : List ℕ → Condition → Type 0
IsAnswered input (t, true) = value_of input t ≢ 0
IsAnswered input (t, false) = value_of input t ≡ 0

-- ---- what is asked of the terms

-- no number, of its own width, over symbols that were drawn with their widths
pub record IsProper (draws : List Bool) (t : Term) : Type 0 where
  pub no_number : IsTrue (not (is_number t))
  pub typed : HasWidth (width_of t) t
  pub drawn : HasSymbols draws t

-- what is to be least has 32 bits
abbrev pub CanBeLeast : List Bool → Option Term → Type 0
CanBeLeast draws None = Unit {0}
CanBeLeast draws (Some t) = IsProper draws t × (width_of t ≡ 32)

abbrev pub AreProper : List Bool → List Condition → Type 0
AreProper draws conditions = All (λ condition. IsProper draws condition.0) conditions

-- ---- what the clauses of conditions say of an assignment

-- Variable 1 is true, the symbols' bits are an input at which each condition has its answer, and each gate has its value.
pub record Computes (conditions : List Condition) (draws : List Bool) (first : Option Term) (assignment : Assignment) : Type 0 where
  pub one : assignment 1 ≡ true
  pub answered : All (IsAnswered (input_of assignment draws)) conditions
  pub valued : HaveValues assignment (built conditions draws first).circuit.first (built conditions draws first).circuit.gates
