-- Opcodes that a table of words doesn't have.
use Rattle.std.proofs.Common.{◌≡◌, ◌≢◌, ℕ, Bool, cond, List, [], ◌∷◌, refl, sym, ap, ◌∙◌}
use Rattle.std.proofs.lemmas.Bool.{ne_eqb}
use Rattle.wasm_text.specs.Words.{find_word}

abbrev pub IsAbsent : ℕ → List (ℕ × List ℕ) → Type 0
IsAbsent op [] = Unit {0}
IsAbsent op (row ∷ rest) = (op ≢ row.0) × IsAbsent op rest

pub find-absent : (op : ℕ) (rows : List (ℕ × List ℕ)) → IsAbsent op rows → [] ≡ find_word op rows
find-absent op [] h = refl
find-absent op (row ∷ rest) h = find-absent op rest h.1 ∙ ap (λ (b : Bool). cond b row.1 (find_word op rest)) (sym (ne_eqb op row.0 h.0))
