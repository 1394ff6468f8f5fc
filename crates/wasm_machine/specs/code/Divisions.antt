-- Where the questions of an operator stand after its answers.
use Rattle.std.specs.Prelude.{ℕ, zero, suc, Bool, true, false, List, [], ◌∷◌}
use Rattle.wasm_machine.specs.declared.numeric.Check.{Check}
use Rattle.wasm_machine.specs.declared.numeric.Check.TheVariants.{AskZero, AskOverflow, DivZero, Overflow, Fine}

abbrev pub check_overflow : Bool → List ℕ → Check
check_overflow false ns = Fine
check_overflow true [] = AskOverflow
check_overflow true (zero ∷ ns) = Fine
check_overflow true (suc n ∷ ns) = Overflow

abbrev pub check_of : Bool → Bool → List ℕ → Check
check_of false signed ns = Fine
check_of true signed [] = AskZero
check_of true signed (zero ∷ ns) = check_overflow signed ns
check_of true signed (suc n ∷ ns) = DivZero
