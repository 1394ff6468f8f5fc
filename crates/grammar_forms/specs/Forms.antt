-- Grammars whose forms follow one another in bytes, as in the chapter Binary Format of the WebAssembly standard.
--
-- A form says three things of a kind of value at once: which texts spell which value; what the first trouble is of bytes
-- that are to go on with a spelling; and what a reader finds that goes from left to right. A grammar is one term over the
-- forms below, and the third follows the first two (proofs/FormLaws).
use Rattle.std.specs.Prelude.{◌≡◌, ◌≢◌, ℕ, zero, suc, ◌+◌, ◌-◌, ◌⊎◌, ℤ, Bool, true, false, List, [], ◌∷◌, ◌++◌, length, take, drop, Result, Ok, Err, nat_le, ◌==◌, if◌then◌else◌}
use Rattle.owi_base.specs.declared.leb.LebBad.{LebBad}
use Rattle.owi_base.specs.declared.leb.LebBad.TheVariants.{Cut, Long, Range}
use Rattle.owi_base.specs.Leb.{SpellsUnsigned, UnsignedTrouble, SpellsSigned, SignedTrouble}
use Rattle.owi_base.specs.LebReading.{read_unsigned, read_signed}

-- the bytes before the nearest end, and what is said where a form needs a byte there
pub record Window (E : Type 0) : Type 0 where
  pub bytes : List ℕ
  pub ended : E

-- between the places stands a text that has the property
abbrev pub Between : List ℕ → ℕ → ℕ → (List ℕ → Type 0) → Type 0
Between bytes at next P = (text rest : List ℕ) × (drop at bytes ≡ text ++ rest) × (next ≡ at + length text) × P text

pub record Form (E A : Type 0) : Type 1 where
  -- the texts that spell a value
  pub Spells : A → List ℕ → Type 0
  -- the first trouble of the bytes of a window from a place on
  pub Trouble : Window E → ℕ → E → Type 0
  -- what stands from a place on: a value and the place after it, or the first trouble
  pub read : Window E → ℕ → Result (A × ℕ) E

-- ---- one form after another

-- no bytes
abbrev pub gives : {E A : Type 0} → A → Form E A
gives x = record {
  Spells = λ y text. (y ≡ x) × (text ≡ []);
  Trouble = λ w at bad. ⊥;
  read = λ w at. Ok (x, at);
}

-- what was read, and then what follows it
abbrev pub read_on : {E A B : Type 0} → Result (A × ℕ) E → (A → ℕ → Result (B × ℕ) E) → Result (B × ℕ) E
read_on (Ok x) next = next x.0 x.1
read_on (Err bad) next = Err bad

-- A form, and then one that may depend on its value. It is in trouble at the first of the two that is.
infixl 10 ◌>>=◌
abbrev pub ◌>>=◌ : {E A B : Type 0} → Form E A → (A → Form E B) → Form E B
◌>>=◌ {E} {A} {B} f g = record {
  Spells = λ y text. (x : A) × (first rest : List ℕ) × (text ≡ first ++ rest) × f.Spells x first × (g x).Spells y rest;
  Trouble = λ w at bad. f.Trouble w at bad ⊎ ((x : A) × (next : ℕ) × Between w.bytes at next (f.Spells x) × (g x).Trouble w next bad);
  read = λ w at. read_on (f.read w at) (λ x next. (g x).read w next);
}

-- this many of one form
abbrev pub many : {E A : Type 0} → Form E A → ℕ → Form E (List A)
many f zero = gives []
many f (suc count) = do
  x ← f
  xs ← many f count
  gives (x ∷ xs)

-- one of two forms, by a test that is known beforehand
infix 5 when◌form◌else◌
abbrev pub when◌form◌else◌ : {E A : Type 0} → Bool → Form E A → Form E A → Form E A
when true form f else g = f
when false form f else g = g

-- ---- bytes and numbers

abbrev pub first_of_rest : {E : Type 0} → E → ℕ → List ℕ → Result (ℕ × ℕ) E
first_of_rest ended at [] = Err ended
first_of_rest ended at (b ∷ rest) = Ok (b, at + 1)

-- any byte
abbrev pub any_byte : {E : Type 0} → Form E ℕ
any_byte = record {
  Spells = λ b text. text ≡ b ∷ [];
  Trouble = λ w at bad. (drop at w.bytes ≡ []) × (bad ≡ w.ended);
  read = λ w at. first_of_rest w.ended at (drop at w.bytes);
}

-- what is said of a number's trouble at a place
abbrev pub said : {E : Type 0} → (ℕ → E) → Window E → ℕ → LebBad → E
said leb w at Cut = w.ended
said leb w at Long = leb at
said leb w at Range = leb at

abbrev pub told : {E A : Type 0} → (ℕ → E) → Window E → ℕ → Result (A × ℕ) LebBad → Result (A × ℕ) E
told leb w at (Ok x) = Ok (x.0, at + x.1)
told leb w at (Err why) = Err (said leb w at why)

-- a number below 2 ^ width in LEB128; leb tells of one that is too long or out of range, at its first byte
abbrev pub unsigned : {E : Type 0} → (ℕ → E) → ℕ → Form E ℕ
unsigned leb width = record {
  Spells = λ n text. SpellsUnsigned width text n;
  Trouble = λ w at bad. (why : LebBad) × UnsignedTrouble width (drop at w.bytes) why × (bad ≡ said leb w at why);
  read = λ w at. told leb w at (read_unsigned width (drop at w.bytes));
}

-- a number of width bits in LEB128
abbrev pub signed : {E : Type 0} → (ℕ → E) → ℕ → Form E ℤ
signed leb width = record {
  Spells = λ z text. SpellsSigned width text z;
  Trouble = λ w at bad. (why : LebBad) × SignedTrouble width (drop at w.bytes) why × (bad ≡ said leb w at why);
  read = λ w at. told leb w at (read_signed width (drop at w.bytes));
}

-- ---- conditions

abbrev pub located : {E B : Type 0} → ℕ → ℕ → Result B (ℕ → E) → Result (B × ℕ) E
located at next (Ok y) = Ok (y, next)
located at next (Err trouble) = Err (trouble at)

-- What a test makes of a form's value. Where the test refuses it, the trouble is at the form's first byte.
abbrev pub checked : {E A B : Type 0} → Form E A → (A → Result B (ℕ → E)) → Form E B
checked {E} {A} {B} f test = record {
  Spells = λ y text. (x : A) × f.Spells x text × (test x ≡ Ok y);
  Trouble = λ w at bad. f.Trouble w at bad ⊎ ((x : A) × (next : ℕ) × (trouble : ℕ → E) × Between w.bytes at next (f.Spells x) × (test x ≡ Err trouble) × (bad ≡ trouble at));
  read = λ w at. read_on (f.read w at) (λ x next. located at next (test x));
}

-- a form's value with how many bytes it takes
abbrev pub measured : {E A : Type 0} → Form E A → Form E (A × ℕ)
measured f = record {
  Spells = λ x text. f.Spells x.0 text × (x.1 ≡ length text);
  Trouble = f.Trouble;
  read = λ w at. read_on (f.read w at) (λ x next. Ok ((x, next - at), next));
}

-- One of two forms, told by a test of the first byte. Neither is spelled by no bytes.
abbrev pub by_first : {E A : Type 0} → (ℕ → Bool) → Form E A → Form E A → Form E A
by_first test f g = record {
  Spells = λ y text. (b : ℕ) × (rest : List ℕ) × (text ≡ b ∷ rest) × (when test b form f else g).Spells y text;
  Trouble = λ w at bad. ((drop at w.bytes ≡ []) × (bad ≡ w.ended)) ⊎ ((b : ℕ) × (rest : List ℕ) × (drop at w.bytes ≡ b ∷ rest) × (when test b form f else g).Trouble w at bad);
  read = λ w at. read_on (first_of_rest w.ended at (drop at w.bytes)) (λ b next. (when test b form f else g).read w at);
}

-- ---- stated ends

-- The window up to a stated end: the bytes before it, where the window has so many; else the nearest end stays.
abbrev pub up_to : {E : Type 0} → (ℕ → E) → Window E → ℕ → Window E
up_to size w end = if nat_le end (length w.bytes) then record { bytes = take end w.bytes; ended = size end } else w

-- What is said of contents that end at a place before their stated end: of a byte that is left there, or as where a byte
-- is needed.
abbrev pub left_over : {E : Type 0} → (ℕ → E) → Window E → ℕ → E
left_over size w next = if nat_le (length w.bytes) next then w.ended else size next

abbrev pub ends_at : {E A : Type 0} → (ℕ → E) → Window E → ℕ → A → ℕ → Result (A × ℕ) E
ends_at size w end x next = if next == end then Ok (x, next) else Err (left_over size w next)

-- contents of a stated length
abbrev pub within : {E A : Type 0} → (ℕ → E) → ℕ → Form E A → Form E A
within {E} {A} size len f = record {
  Spells = λ y text. f.Spells y text × (length text ≡ len);
  Trouble = λ w at bad.
      let inner = up_to size w (at + len) in
      f.Trouble inner at bad
      ⊎ ((y : A) × (next : ℕ) × Between inner.bytes at next (f.Spells y) × (next ≢ at + len) × (bad ≡ left_over size inner next));
  read = λ w at.
      let inner = up_to size w (at + len) in
      read_on (f.read inner at) (λ y next. ends_at size inner (at + len) y next);
}

-- ---- forms inside forms of the same kind

-- no text, and no trouble
abbrev pub no_form : {E A : Type 0} → Form E A
no_form = record {
  Spells = λ x text. ⊥;
  Trouble = λ w at bad. ⊥;
  read = λ w at. Err w.ended;
}

-- A form that is nested in itself, by all its approximations: f n is the form where it is nested less than n deep.
abbrev pub nested : {E A : Type 0} → (ℕ → Form E A) → Form E A
nested f = record {
  Spells = λ y text. (n : ℕ) × (f n).Spells y text;
  Trouble = λ w at bad. (n : ℕ) × (f n).Trouble w at bad;
  read = λ w at. (f (suc (length w.bytes))).read w at;
}
