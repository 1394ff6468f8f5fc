-- Wires, gates, and the clauses of a gate. (Tseitin, On the Complexity of Derivation in Propositional Calculus, 1968.)
--
-- A wire is a variable or its negation, as a literal: 2 v for the variable v, and 2 v + 1 for its negation. Variable 1 is
-- true. The wires of an integer are listed from the lowest bit on.
use Rattle.std.specs.Prelude.{ℕ, zero, suc, ◌+◌, ◌-◌, ◌/◌, ◌%◌, ◌==◌, if◌then◌else◌, List, [], ◌∷◌, ◌++◌, length, map}
use Rattle.refute_check.specs.Clauses.{Clause, positive, negative, sign_of}
use Rattle.refute_check.specs.Resolution.{each_once}
use Rattle.bit_blast.specs.declared.gates.Gate.{Gate}
use Rattle.bit_blast.specs.declared.gates.Gate.TheVariants.{And, Xor, Mux, Maj, Same}

-- ---- wires

abbrev pub Wires : Type 0
Wires = List ℕ

-- the wire that is true, and the one that is false
abbrev pub true_wire : ℕ
true_wire = positive 1

abbrev pub false_wire : ℕ
false_wire = negative 1

abbrev pub negation : ℕ → ℕ
negation wire = if sign_of wire then wire + 1 else wire - 1

-- the bits of a number, in so many wires
abbrev pub number_wires : ℕ → ℕ → Wires
number_wires zero n = []
number_wires (suc bits) n = (if n % 2 == 0 then false_wire else true_wire) ∷ number_wires bits (n / 2)

-- ---- the clauses of a gate

-- z is the variable of the gate's value
abbrev pub said_of : ℕ → Gate → List Clause
said_of z (And a b) =
    (negative z ∷ a ∷ []) ∷
    (negative z ∷ b ∷ []) ∷
    (positive z ∷ negation a ∷ negation b ∷ []) ∷ []
said_of z (Xor a b) =
    (negative z ∷ a ∷ b ∷ []) ∷
    (negative z ∷ negation a ∷ negation b ∷ []) ∷
    (positive z ∷ negation a ∷ b ∷ []) ∷
    (positive z ∷ a ∷ negation b ∷ []) ∷ []
said_of z (Mux s a b) =
    (negation s ∷ negation a ∷ positive z ∷ []) ∷
    (negation s ∷ a ∷ negative z ∷ []) ∷
    (s ∷ negation b ∷ positive z ∷ []) ∷
    (s ∷ b ∷ negative z ∷ []) ∷ []
said_of z (Maj a b c) =
    (negation a ∷ negation b ∷ positive z ∷ []) ∷
    (negation a ∷ negation c ∷ positive z ∷ []) ∷
    (negation b ∷ negation c ∷ positive z ∷ []) ∷
    (a ∷ b ∷ negative z ∷ []) ∷
    (a ∷ c ∷ negative z ∷ []) ∷
    (b ∷ c ∷ negative z ∷ []) ∷ []
said_of z (Same a) =
    (negative z ∷ a ∷ []) ∷
    (positive z ∷ negation a ∷ []) ∷ []

-- a literal that is repeated in a clause is dropped
abbrev pub gate_clauses : ℕ → Gate → List Clause
gate_clauses z gate = map each_once (said_of z gate)

-- ---- circuits

-- Gates, the latest first. The first that was put has the given variable, and each later one the next.
pub record Circuit : Type 0 where
  pub first : ℕ
  pub gates : List Gate

-- the variable of the next gate
abbrev pub next_of : Circuit → ℕ
next_of circuit = circuit.first + length circuit.gates

-- the clauses of gates that are numbered from a variable on, those of earlier gates first
abbrev pub clauses_from : ℕ → List Gate → List Clause
clauses_from first [] = []
clauses_from first (gate ∷ earlier) = clauses_from first earlier ++ gate_clauses (first + length earlier) gate
