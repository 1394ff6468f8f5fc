-- Loops that write the clauses of conditions, and the order of variables.
use Rattle.std.proofs.Common.{◌≡◌, ℕ, suc, ◌+◌, ◌-◌, ◌<◌, List, [], ◌∷◌, ◌++◌, ap, sym, ◌∙◌, append_assoc, arith}
use Rattle.bit_blast.specs.Formulas.{variables_from}

pub variables-next : (order longer end : List ℕ) (from i count : ℕ) → i < count → longer ≡ order ++ (from + i) ∷ []
    → order ++ variables_from (from + i) (count - i) ≡ end → longer ++ variables_from (from + (i + 1)) (count - (i + 1)) ≡ end
variables-next order longer end from i count h long e =
    ap (λ vs. vs ++ variables_from (from + (i + 1)) (count - (i + 1))) long
    ∙ append_assoc order ((from + i) ∷ []) (variables_from (from + (i + 1)) (count - (i + 1)))
    ∙ ap (λ n. order ++ (from + i) ∷ variables_from n (count - (i + 1))) (next from i)
    ∙ ap (λ n. order ++ variables_from (from + i) n) (sym (fewer count i h)) ∙ e
  where
    next : (from i : ℕ) → from + (i + 1) ≡ suc (from + i)
    next from i = omega arith

    fewer : (count i : ℕ) → i < count → count - i ≡ suc (count - (i + 1))
    fewer count i h = omega arith
