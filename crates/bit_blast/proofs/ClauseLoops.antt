-- Clauses that are written a literal at a time, and the clauses of gates.
use Rattle.std.proofs.Common.{◌≡◌, ◌<◌, ◌+◌, ℕ, List, [], ◌∷◌, ◌++◌, length, take, get_or, refl, sym, ap, ◌∙◌}
use Rattle.std.specs.Prelude.{Bool, true, false, if◌then◌else◌}
use Rattle.std.proofs.lemmas.List.{take_more}
use Rattle.refute_check.specs.Resolution.{has, each_once}
use Rattle.refute_check.proofs.Membership.{has-each_once}
use Rattle.refute_check.proofs.EachOnce.{once_new, once_there}

-- a loop over the literals
pub put_new : (clause xs : List ℕ) (i : ℕ) → i < length xs → clause ≡ each_once (take i xs) → has clause (get_or xs i 0) ≡ false
    → clause ++ get_or xs i 0 ∷ [] ≡ each_once (take (i + 1) xs)
put_new clause xs i h e f =
    let x = get_or xs i 0 in
    let g : has (take i xs) x ≡ false = sym (has-each_once (take i xs) x) ∙ ap (λ c. has c x) (sym e) ∙ f in
    ap (λ r. r ++ x ∷ []) e ∙ sym (once_new (take i xs) x g) ∙ ap (λ r. each_once r) (sym (take_more xs i 0 h))

pub put_there : (clause xs : List ℕ) (i : ℕ) → i < length xs → clause ≡ each_once (take i xs) → has clause (get_or xs i 0) ≡ true
    → clause ≡ each_once (take (i + 1) xs)
put_there clause xs i h e f =
    let x = get_or xs i 0 in
    let g : has (take i xs) x ≡ true = sym (has-each_once (take i xs) x) ∙ ap (λ c. has c x) (sym e) ∙ f in
    e ∙ sym (once_there (take i xs) x g) ∙ ap (λ r. each_once r) (sym (take_more xs i 0 h))

pub put_once-next : (old new xs : List ℕ) (i : ℕ) → i < length xs → old ≡ each_once (take i xs)
    → new ≡ (if has old (get_or xs i 0) then old else old ++ get_or xs i 0 ∷ []) → new ≡ each_once (take (i + 1) xs)
put_once-next old new xs i h e n = go (has old (get_or xs i 0)) refl
  where
    go : (b : Bool) → has old (get_or xs i 0) ≡ b → new ≡ each_once (take (i + 1) xs)
    go true f = n ∙ ap (λ b. if b then old else old ++ get_or xs i 0 ∷ []) f ∙ put_there old xs i h e f
    go false f = n ∙ ap (λ b. if b then old else old ++ get_or xs i 0 ∷ []) f ∙ put_new old xs i h e f

-- ---- the clauses of gates
