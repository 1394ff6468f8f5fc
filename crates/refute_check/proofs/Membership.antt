-- Which literals the clauses of a resolution hold.
use Rattle.std.proofs.Common.{◌⊎◌, inl, inr, ◌≡◌, ℕ, [], ◌∷◌, ◌++◌, refl, sym, ap, ◌∙◌, arith}
use Rattle.std.specs.Prelude.{Bool, true, false, not, ◌==◌, ◌&&◌, ◌||◌, if◌then◌else◌}
use Rattle.std.proofs.lemmas.Bool.{eqb-true, eq-eqb, true≢false}
use Rattle.std.proofs.lemmas.List.Folds.{list_any-append}
use Rattle.refute_check.specs.Clauses.{Clause, HasLiteral, positive, negative, variable_of, sign_of}
use Rattle.refute_check.specs.Resolution.{has, without, each_once, joined}

pub same_literal : (l : ℕ) → (l == l) ≡ true
same_literal l = eq-eqb l l refl

pub other_literal : (k l : ℕ) → (k ≡ l → ⊥) → (k == l) ≡ false
other_literal k l n = go (k == l) refl
  where
    go : (b : Bool) → (k == l) ≡ b → (k == l) ≡ false
    go true e = absurd (n (eqb-true k l e))
    go false e = e

pub apart : (k l : ℕ) → (k == l) ≡ false → k ≡ l → ⊥
apart k l e f = true≢false (sym (eq-eqb k l f) ∙ e)

pub swapped : (k l : ℕ) → (k == l) ≡ (l == k)
swapped k l = go (k == l) refl
  where
    go : (b : Bool) → (k == l) ≡ b → (k == l) ≡ (l == k)
    go true e = e ∙ sym (eq-eqb l k (sym (eqb-true k l e)))
    go false e = e ∙ sym (other_literal l k (λ f. apart k l e (sym f)))

pub has-holds : (c : Clause) (l : ℕ) → has c l ≡ true → HasLiteral l c
has-holds [] l e = cc
has-holds (k ∷ c) l e = go (λ f. has-holds c l f) (k == l) refl e
  where
    go : (has c l ≡ true → HasLiteral l c) → (b : Bool) → (k == l) ≡ b → (b || has c l) ≡ true → (l ≡ k) ⊎ HasLiteral l c
    go rec true f e = inl (sym (eqb-true k l f))
    go rec false f e = inr (rec e)

pub holds-has : (c : Clause) (l : ℕ) → HasLiteral l c → has c l ≡ true
holds-has [] l h = absurd h
holds-has (k ∷ c) l (inl e) = ap (λ b. b || has c l) (eq-eqb k l (sym e))
holds-has (k ∷ c) l (inr h) = go (holds-has c l h) (k == l)
  where
    go : has c l ≡ true → (b : Bool) → (b || has c l) ≡ true
    go r true = refl
    go r false = r

pub has-without : (p : ℕ) (c : Clause) (q : ℕ) → has (without p c) q ≡ (has c q && not (q == p))
has-without p [] q = refl
has-without p (k ∷ c) q = go (has-without p c q) (k == p) refl (k == q) refl
  where
    -- at the literal itself the test says what it says of the first
    here : k ≡ q → (b : Bool) → (k == p) ≡ b → (q == p) ≡ b
    here e b f = ap (λ k. k == p) (sym e) ∙ f

    gone : (b : Bool) → (b && false) ≡ false
    gone true = refl
    gone false = refl

    go : has (without p c) q ≡ (has c q && not (q == p)) → (b : Bool) → (k == p) ≡ b → (d : Bool) → (k == q) ≡ d →
        has (if not b then k ∷ without p c else without p c) q ≡ ((d || has c q) && not (q == p))
    go rec true e true f = rec ∙ ap (λ b. has c q && not b) (here (eqb-true k q f) true e) ∙ gone (has c q) ∙ sym (ap (λ b. not b) (here (eqb-true k q f) true e))
    go rec true e false f = rec
    go rec false e true f = ap (λ b. b || has (without p c) q) f ∙ sym (ap (λ b. not b) (here (eqb-true k q f) false e))
    go rec false e false f = ap (λ b. b || has (without p c) q) f ∙ rec

pub has-each_once : (c : Clause) (q : ℕ) → has (each_once c) q ≡ has c q
has-each_once [] q = refl
has-each_once (k ∷ c) q = go (has-each_once c q) (k == q) refl
  where
    right : (b : Bool) → (b && true) ≡ b
    right true = refl
    right false = refl

    go : has (each_once c) q ≡ has c q → (d : Bool) → (k == q) ≡ d → (d || has (without k (each_once c)) q) ≡ (d || has c q)
    go rec true f = refl
    go rec false f = has-without k (each_once c) q ∙ ap (λ b. has (each_once c) q && not b) (swapped q k ∙ f) ∙ right _ ∙ rec

pub has-joined : (p n : ℕ) (c d : Clause) (q : ℕ) → has (joined p n c d) q ≡ ((has c q && not (q == p)) || (has d q && not (q == n)))
has-joined p n c d q =
    has-each_once (without p c ++ without n d) q ∙ list_any-append (λ k. k == q) (without p c) (without n d)
    ∙ ap (λ b. b || has (without n d) q) (has-without p c q) ∙ ap (λ b. (has c q && not (q == p)) || b) (has-without n d q)

pub in_first : (p n : ℕ) (c d : Clause) (q : ℕ) → has c q ≡ true → (q == p) ≡ false → has (joined p n c d) q ≡ true
in_first p n c d q h e = rw (has-joined p n c d q, h, e) refl

pub or_true : (b : Bool) → (b || true) ≡ true
or_true true = refl
or_true false = refl

pub in_second : (p n : ℕ) (c d : Clause) (q : ℕ) → has d q ≡ true → (q == n) ≡ false → has (joined p n c d) q ≡ true
in_second p n c d q h e = has-joined p n c d q ∙ ap (λ b. (has c q && not (q == p)) || (b && not (q == n))) h ∙ ap (λ b. (has c q && not (q == p)) || not b) e ∙ or_true _

-- where the result holds a literal, one of the two holds it, and it isn't the one left out there
pub joined_was : (p n : ℕ) (c d : Clause) (q : ℕ) → has (joined p n c d) q ≡ true → ((has c q ≡ true) × ((q == p) ≡ false)) ⊎ ((has d q ≡ true) × ((q == n) ≡ false))
joined_was p n c d q h = go (has c q) (q == p) (has d q) (q == n) refl refl refl refl (sym (has-joined p n c d q) ∙ h)
  where
    go : (a b x y : Bool) → has c q ≡ a → (q == p) ≡ b → has d q ≡ x → (q == n) ≡ y → ((a && not b) || (x && not y)) ≡ true → ((has c q ≡ true) × ((q == p) ≡ false)) ⊎ ((has d q ≡ true) × ((q == n) ≡ false))
    go true false x y e f g h t = inl (e, f)
    go true true true false e f g h t = inr (g, h)
    go true true true true e f g h t = cc
    go true true false y e f g h t = cc
    go false b true false e f g h t = inr (g, h)
    go false b true true e f g h t = cc
    go false b false y e f g h t = cc

-- ---- literals of a variable

pub variable-positive : (v : ℕ) → variable_of (positive v) ≡ v
variable-positive v = omega arith

pub variable-negative : (v : ℕ) → variable_of (negative v) ≡ v
variable-negative v = omega arith

pub sign-positive : (v : ℕ) → sign_of (positive v) ≡ true
sign-positive v = eq-eqb _ _ (omega arith)

pub sign-negative : (v : ℕ) → sign_of (negative v) ≡ false
sign-negative v = other_literal _ _ (λ e. omega (arith, e))
