-- The question whether another number is picked.
use Rattle.std.proofs.Common.{◌≡◌, ℕ, List, sym, ◌∙◌, arith}
use Rattle.std.proofs.lemmas.Bool.Decides.{nat_tests}
use Rattle.int_ops.specs.Operators.{operator_of, total}
use Rattle.int_ops.specs.Integers.{ne}
use Rattle.bv_terms.specs.Terms.{Term, value_of}
use Rattle.sym_state.specs.NextNodes.{IsOther}

same : (x a : ℕ) → ne x a ≡ 0 → x ≡ a
same x a e = grind (arith, nat_tests, e)

differs : (x a : ℕ) → x ≡ a → ne x a ≡ 0
differs x a e = grind (arith, nat_tests, e)

pub ne-other : (t other : Term) (a : ℕ) → ((input : List ℕ) → value_of input other ≡ total 0x47 (value_of input t) a) → IsOther other t a
unfolding operator_of
ne-other t other a is = λ I. (λ e. same (value_of I t) a (sym (is I) ∙ e), λ e. is I ∙ differs (value_of I t) a e)
