-- A result is one thing: a value or an error.
use Rattle.std.proofs.Common.{◌≡◌, ℕ, Result, Ok, Err, ap}

pub pair_is : {E A : Type 0} (x y : A) (m n : ℕ) → (let r : Result (A × ℕ) E = Ok (x, m) in r) ≡ Ok (y, n) → (x ≡ y) × (m ≡ n)
pair_is {E} {A} x y m n e =
    let same : (let p : A × ℕ = (x, m) in p) ≡ (y, n) = cc in
    (ap (λ (p : A × ℕ). p.0) same, ap (λ (p : A × ℕ). p.1) same)

pub ok_not_err : {E A : Type 0} (x : A) (bad : E) → (let r : Result A E = Ok x in r) ≡ Err bad → ⊥
ok_not_err x bad e = cc

pub err_not_ok : {E A : Type 0} (x : A) (bad : E) → (let r : Result A E = Err bad in r) ≡ Ok x → ⊥
err_not_ok x bad e = cc

pub err_same : {E A : Type 0} (bad other : E) → (let r : Result A E = Err bad in r) ≡ Err other → bad ≡ other
err_same bad other e = cc
