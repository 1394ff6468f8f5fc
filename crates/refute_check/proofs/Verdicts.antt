-- What the checker answers where it doesn't accept.
use Rattle.std.proofs.Common.{◌⊎◌, inl, inr, ◌≡◌, ℕ, List, refl, ap}
use Rattle.refute_check.specs.Clauses.{Clause}
use Rattle.refute_check.specs.Logs.{IsAccepted, IsRefused}
use Rattle.refute_check.specs.declared.logs.Chain.{Chain}
use Rattle.refute_check.specs.declared.checker.AcceptBad.{AcceptBad}
use Rattle.refute_check.specs.declared.checker.AcceptBad.TheVariants.{Bad, NoMemory}
use Rattle.refute_check.proofs.Exclusion.{accepted_not_refused, refused_once}

pub refused_accepts : (cs : List Clause) (log : List Chain) (bad : AcceptBad) → ((number : ℕ) → bad ≡ Bad number → IsRefused cs log number) → IsAccepted cs log → bad ≡ NoMemory
refused_accepts cs log (Bad k) r a = absurd (accepted_not_refused cs log a k (r k refl))
refused_accepts cs log NoMemory r a = refl

pub refused_refuses : (cs : List Clause) (log : List Chain) (bad : AcceptBad) → ((number : ℕ) → bad ≡ Bad number → IsRefused cs log number) → (number : ℕ) → IsRefused cs log number → (bad ≡ Bad number) ⊎ (bad ≡ NoMemory)
refused_refuses cs log (Bad k) r n f = inl (ap (λ k. Bad k) (refused_once cs log k n (r k refl) f))
refused_refuses cs log NoMemory r n f = inr refl
