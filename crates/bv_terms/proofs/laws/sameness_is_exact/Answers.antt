use Rattle.std.proofs.Common.{subst, ◌≡◌, true}
use Rattle.bv_terms.specs.Terms.{is_same}
use Rattle.bv_terms.proofs.SameLemmas.{is_same-is, is_same-itself}
use Rattle.bv_terms.proofs.laws.sameness_is_exact.Goals as goal

pub returns : goal.returns
returns c = λ t s. (is_same-is t s, λ is. subst (λ other. is_same t other ≡ true) is (is_same-itself t))
