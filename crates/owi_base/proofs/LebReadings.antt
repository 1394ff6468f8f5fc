-- What holds of reading signed and of unsigned numbers alike: a number and how many bytes it takes, or a trouble.
use Rattle.std.proofs.Common.{◌≡◌, ℕ, ◌+◌, ◌↔◌, List, [], ◌∷◌, ◌++◌, length, Result, Ok, Err, refl, sym, ap, subst, ◌∙◌, arith}
use Rattle.std.specs.Prelude.{IfOk}
use Rattle.owi_base.specs.declared.leb.LebBad.{LebBad}
use Rattle.owi_base.specs.LebReading.{placed}

abbrev pub Reading : Type 0 → Type 0
Reading A = Result (A × ℕ) LebBad

-- the bytes begin with a spelling of a number, of k bytes
pub record Front {A : Type 0} (Spells : List ℕ → A → Type 0) (bytes : List ℕ) (x : A) (k : ℕ) : Type 0 where
  pub text : List ℕ
  pub rest : List ℕ
  pub parts : bytes ≡ text ++ rest
  pub long : k ≡ length text
  pub spelled : Spells text x

pub front_one : {A : Type 0} (Spells : List ℕ → A → Type 0) (b : ℕ) (bytes : List ℕ) (y : A) (x : A × ℕ) → Spells (b ∷ []) y → (let r : Reading A = Ok (y, 1) in r) ≡ Ok x → Front Spells (b ∷ bytes) x.0 x.1
front_one {A} Spells b bytes y x s e =
    let same : x ≡ (y, 1) = cc in
    let P : A → Type 0 = λ n. Spells (b ∷ []) n in
    record { text = b ∷ []; rest = bytes; parts = refl; long = ap (λ (p : A × ℕ). p.1) same; spelled = subst P (sym (ap (λ (p : A × ℕ). p.0) same)) s }

-- a byte that goes on stands before a spelling
pub front_more : {A : Type 0} (Spells Others : List ℕ → A → Type 0) (b : ℕ) (bytes : List ℕ) (x y : A × ℕ) (z : A) → ((text : List ℕ) → Others text y.0 → Spells (b ∷ text) z) → Front Others bytes y.0 y.1 → x.0 ≡ z → x.1 ≡ 1 + y.1 → Front Spells (b ∷ bytes) x.0 x.1
front_more {A} Spells Others b bytes x y z more others number count =
    let P : A → Type 0 = λ n. Spells (b ∷ others.text) n in
    record {
      text = b ∷ others.text;
      rest = others.rest;
      parts = ap (λ (l : List ℕ). b ∷ l) others.parts;
      long = omega (arith, others.long);
      spelled = subst P (sym number) (more others.text others.spelled);
    }

-- ---- the same of bytes that begin at a place

pub placed_ok : {A : Type 0} (at : ℕ) (r : Reading A) (x : A × ℕ) → (let q : Reading A = Ok x in q) ≡ placed at r → (y : A × ℕ) × (r ≡ Ok y) × (x.0 ≡ y.0) × (x.1 ≡ at + y.1)
placed_ok {A} at (Ok y) x e = let same : x ≡ (y.0, at + y.1) = cc in (y, refl, ap (λ (p : A × ℕ). p.0) same, ap (λ (p : A × ℕ). p.1) same)
placed_ok at (Err bad) x e = absurd cc

pub placed_err : {A : Type 0} (at : ℕ) (r : Reading A) (bad : LebBad) → placed at r ≡ Err bad → r ≡ Err bad
placed_err at (Ok y) bad e = absurd cc
placed_err at (Err other) bad e = cc

pub front_at : {A : Type 0} (Spells : List ℕ → A → Type 0) (at : ℕ) (bytes : List ℕ) (given r : Reading A) → ((x : A × ℕ) → given ≡ Ok x → Front Spells bytes x.0 x.1) → r ≡ placed at given → IfOk r (λ x. ((text rest : List ℕ) × (bytes ≡ text ++ rest) × (x.1 ≡ at + length text) × Spells text x.0))
front_at Spells at bytes given (Err bad) takes e = tt
front_at {A} Spells at bytes given (Ok x) takes e =
    let there = placed_ok at given x e in
    let found = takes there.0 there.1 in
    let P : A → Type 0 = λ n. Spells found.text n in
    (found.text, found.rest, found.parts, omega (arith, there.3, found.long), subst P (sym there.2) found.spelled)

pub told_at : {A : Type 0} (Trouble : LebBad → Type 0) (at : ℕ) (given r : Reading A) → ((bad : LebBad) → (given ≡ Err bad) ↔ Trouble bad) → r ≡ placed at given → (bad : LebBad) → (r ≡ Err bad) ↔ Trouble bad
told_at Trouble at given r troubles e bad = (
  λ h. (troubles bad).0 (placed_err at given bad (sym e ∙ h)),
  λ t. e ∙ ap (placed at) ((troubles bad).1 t),
)
