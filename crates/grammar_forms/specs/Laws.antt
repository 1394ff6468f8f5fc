-- What it means that the three things that a form says belong together, and that a form is a part of another.
use Rattle.std.specs.Prelude.{◌≡◌, ℕ, ◌+◌, ◌-◌, ◌<◌, List, ◌++◌, length, drop, Result, Ok, Err}
use Rattle.grammar_forms.specs.Forms.{Window, Between, Form}

-- fewer than n bytes of the window are left from the place on
abbrev pub IsBelow : {E : Type 0} → ℕ → Window E → ℕ → Type 0
IsBelow n w at = length w.bytes - at < n

-- at places with fewer than n bytes left: what is read is spelled, what is spelled is read, a refusal names the trouble, and a trouble is refused
pub record IsLawful {E A : Type 0} (n : ℕ) (f : Form E A) : Type 0 where
  pub sound : (w : Window E) (at : ℕ) → IsBelow n w at → (x : A) (next : ℕ) → f.read w at ≡ Ok (x, next) → Between w.bytes at next (f.Spells x)
  pub complete : (w : Window E) (at : ℕ) → IsBelow n w at → (x : A) (text rest : List ℕ) → drop at w.bytes ≡ text ++ rest → f.Spells x text → f.read w at ≡ Ok (x, at + length text)
  pub named : (w : Window E) (at : ℕ) → IsBelow n w at → (bad : E) → f.read w at ≡ Err bad → f.Trouble w at bad
  pub found : (w : Window E) (at : ℕ) → IsBelow n w at → (bad : E) → f.Trouble w at bad → f.read w at ≡ Err bad

-- each spelling has a byte
abbrev pub HasBytes : {E A : Type 0} → Form E A → Type 0
HasBytes {E} {A} f = (x : A) (text : List ℕ) → f.Spells x text → 0 < length text

-- each spelling and each trouble of the first form is one of the second
pub record IsIn {E A : Type 0} (f g : Form E A) : Type 0 where
  pub spells : (x : A) (text : List ℕ) → f.Spells x text → g.Spells x text
  pub troubles : (w : Window E) (at : ℕ) (bad : E) → f.Trouble w at bad → g.Trouble w at bad
