-- What a turn comes to, by the rule that fits.
use Rattle.std.proofs.Common.{◌≡◌, ◌<◌, ℕ, List, [], ◌∷◌, ◌++◌, inl, inr, refl, sym, ap, ◌∙◌, subst, arith}
use Rattle.refute_check.specs.Orders.{Names}
use Rattle.refute_check.proofs.Membership.{variable-negative}
use Rattle.refute_check.proofs.Trails.{unset-is, forced-is, status-forces}
use Rattle.std.specs.Prelude.{Some, None, Bool, true, false, nat_lt}
use Rattle.refute_check.specs.Clauses.{Clause, variable_of, negative}
use Rattle.refute_check.specs.Machine.{Trail, entry_of, forced, unset}

below : (a b : ℕ) → a < b → nat_lt a b ≡ true
below a b h = go (nat_lt a b) refl
  where
    go : (c : Bool) → nat_lt a b ≡ c → nat_lt a b ≡ true
    go true e = e
    go false e = absurd (rest e)
      where
        rest : nat_lt a b ≡ false → ⊥
        rest e = grind (arith, e, h)

-- the first variable that is unset is one of the order
pub unset_named : (t : Trail) (order : List ℕ) (v : ℕ) → Some v ≡ unset t order → Names order v
unset_named t order v e = let u = unset-is t order v (sym e) in subst (λ o. Names o v) (sym u.2) (in_middle u.0 v u.1)
  where
    in_middle : (xs : List ℕ) (v : ℕ) (ys : List ℕ) → Names (xs ++ v ∷ ys) v
    in_middle [] v ys = inl refl
    in_middle (x ∷ xs) v ys = inr (in_middle xs v ys)

-- the variables that are put on the trail aren't there yet
pub unset_free : (t : Trail) (order : List ℕ) (v : ℕ) → Some v ≡ unset t order → entry_of t (variable_of (negative v)) ≡ None
unset_free t order v e = ap (λ v. entry_of t v) (variable-negative v) ∙ (unset-is t order v (sym e)).4

pub forced_free : (t : Trail) (cs : List Clause) (k l : ℕ) → Some (k, l) ≡ forced t 0 cs → entry_of t (variable_of l) ≡ None
forced_free t cs k l e = let f = forced-is t 0 cs k l (sym e) in (status-forces t f.1 l f.4).free
