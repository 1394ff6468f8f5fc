-- Clauses in conjunctive normal form, and the assignments that satisfy them.
--
-- Variables are numbered. A literal is a number too: 2 v stands for the variable v, and 2 v + 1 for its negation, as in
-- the AIGER format.
use Rattle.std.specs.Prelude.{◌≡◌, ℕ, ◌+◌, ◌*◌, ◌/◌, ◌%◌, Bool, ◌==◌, List, [], ◌∷◌, ◌⊎◌}

-- a clause, as its literals in order: it says that one of them is true
abbrev pub Clause : Type 0
Clause = List ℕ

-- the literal of a variable
abbrev pub positive : ℕ → ℕ
positive variable = 2 * variable

-- the literal of its negation
abbrev pub negative : ℕ → ℕ
negative variable = 2 * variable + 1

-- the variable of a literal
abbrev pub variable_of : ℕ → ℕ
variable_of literal = literal / 2

-- the value of its variable that makes a literal true
abbrev pub sign_of : ℕ → Bool
sign_of literal = literal % 2 == 0

-- an assignment gives each variable a value
abbrev pub Assignment : Type 0
Assignment = ℕ → Bool

-- the literal is one of the clause
abbrev pub HasLiteral : ℕ → Clause → Type 0
HasLiteral literal [] = ⊥
HasLiteral literal (first ∷ rest) = (literal ≡ first) ⊎ HasLiteral literal rest

-- an assignment satisfies a clause where it makes a literal of it true
abbrev pub Satisfies : Assignment → Clause → Type 0
Satisfies assignment clause =
    (literal : ℕ) × HasLiteral literal clause × (assignment (variable_of literal) ≡ sign_of literal)

abbrev pub SatisfiesAll : Assignment → List Clause → Type 0
SatisfiesAll assignment [] = Unit {0}
SatisfiesAll assignment (clause ∷ clauses) = Satisfies assignment clause × SatisfiesAll assignment clauses

-- no assignment satisfies all the clauses
abbrev pub IsUnsatisfiable : List Clause → Type 0
IsUnsatisfiable clauses = (assignment : Assignment) → SatisfiesAll assignment clauses → ⊥
