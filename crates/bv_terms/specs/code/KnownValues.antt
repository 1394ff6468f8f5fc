-- Values of terms that are known in a round: a term's value is known where its round is this one.
use Rattle.std.specs.Prelude.{◌≡◌, ◌≢◌, ℕ, ◌-◌, ◌<◌, ◌≤◌, List, All, length, map, slice_index, slice_index_or, Result, Ok, Err}
use Rattle.bv_terms.specs.declared.words.Word.{Word}
use Rattle.bv_terms.specs.declared.words.Word.TheVariants.{Num, Term as Numbered}
use Rattle.int_ops.specs.Bytes.{joined}
use Rattle.bv_terms.specs.Terms.{Term, Number, value_of}

-- whether the value of a word is known, and which it is
abbrev pub IsKnown : List ℕ → ℕ → Word → Type 0
IsKnown rounds round (Num n) = Unit {0}
IsKnown rounds round (Numbered t) = slice_index rounds (t - 256) ≡ round

abbrev pub known_value : List ℕ → Word → ℕ
known_value values (Num n) = n
known_value values (Numbered t) = slice_index values (t - 256)

-- the values that are known are those of the terms at the input
pub record AreValues (terms : List Term) (input rounds values : List ℕ) (round : ℕ) : Type 0 where
  pub long : length terms ≤ length rounds
  pub same_long : length values ≡ length rounds
  pub each : (i : ℕ) → i < length terms → slice_index rounds i ≡ round → slice_index values i ≡ value_of input (slice_index_or terms i (Number 0))

-- a number, where the word's value is known, else the term that it is
abbrev pub Looks : List ℕ → List ℕ → ℕ → Word → Result ℕ ℕ → Type 0
Looks rounds values round w (Ok x) = IsKnown rounds round w × (x ≡ known_value values w)
Looks rounds values round w (Err t) = (w ≡ Numbered t) × (slice_index rounds (t - 256) ≢ round)

-- the bytes joined, where all are known, else one that isn't
abbrev pub LooksAll : List ℕ → List ℕ → ℕ → List Word → Result ℕ ℕ → Type 0
LooksAll rounds values round words (Ok x) = All (IsKnown rounds round) words × (x ≡ joined (map (known_value values) words))
LooksAll rounds values round words (Err t) = (i : ℕ) × (i < length words) × (slice_index_or words i (Num 0) ≡ Numbered t) × (slice_index rounds (t - 256) ≢ round)

-- the value of a term, or a term below it whose value isn't known
abbrev pub Evaluates : List ℕ → List ℕ → ℕ → ℕ → Term → Result ℕ ℕ → Type 0
Evaluates input rounds round bound t (Ok x) = x ≡ value_of input t
Evaluates input rounds round bound t (Err s) = (256 ≤ s) × (s < bound) × (slice_index rounds (s - 256) ≢ round)

-- room for as many values and places as rounds, none of which is later than the last
pub record HaveRoom (rounds values stack : List ℕ) (round : ℕ) : Type 0 where
  pub values_long : length values ≡ length rounds
  pub stack_long : length stack ≡ length rounds
  pub past : All (λ r. r ≤ round) rounds
