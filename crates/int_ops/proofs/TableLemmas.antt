-- The table of the operators.
use Rattle.std.proofs.Common.{◌≡◌, ◌≢◌, ℕ, Bool, List, [], ◌∷◌, Some, None, refl, sym, ap, ◌∙◌, cond, ne_eqb}
use Rattle.int_ops.specs.declared.operators.Operator.{Operator}
use Rattle.int_ops.specs.Operators.{find_operator}

-- the opcode stands in no row
abbrev pub IsAbsent : ℕ → List (ℕ × Operator) → Type 0
IsAbsent op [] = Unit {0}
IsAbsent op (row ∷ rest) = (op ≢ row.0) × IsAbsent op rest

pub find-absent : (op : ℕ) (rows : List (ℕ × Operator)) → IsAbsent op rows → None ≡ find_operator op rows
find-absent op [] h = refl
find-absent op (row ∷ rest) h = find-absent op rest h.1 ∙ ap (λ (b : Bool). cond b (Some row.1) (find_operator op rest)) (sym (ne_eqb op row.0 h.0))
