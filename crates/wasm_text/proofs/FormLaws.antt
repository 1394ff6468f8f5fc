-- A form ends: it goes on with what is left, and what approximates forms that are nested or repeated is never passed.
use Rattle.std.proofs.Common.{◌≡◌, ℕ, zero, suc, ◌+◌, ◌-◌, ◌≤◌, ◌<◌, Bool, true, false, List, [], ◌∷◌, ◌++◌, length, Option, Some, None, Result, Ok, Err, refl, sym, ap, ◌∙◌, append_assoc, length-append, arith}
use Rattle.std.specs.Prelude.{if◌then◌else◌}
use Rattle.wasm_text.specs.declared.tokens.Token.{Token}
use Rattle.wasm_text.specs.declared.tokens.TokenKind.{TokenKind}
use Rattle.wasm_text.specs.declared.tokens.LexBad.{LexBad}
use Rattle.wasm_text.specs.declared.bad.TextBad.{TextBad}
use Rattle.wasm_text.specs.declared.bad.TextBad.TheVariants.{NoMemory, Want}
use Rattle.wasm_text.specs.declared.named.Use.{Use}
use Rattle.wasm_text.specs.TokenForms.{Form, Rest, ◌>>=◌, gives, fails, read_on, ahead, inside, source, first_of, inside_of, is_open, is_close, looked, next_is, next_word, word_inside, opens, place, want, pass, pass_from, token_of, opening, closing, keyword, pass_two, unfit, parts_end, as_long_below, as_long, keeps}

abbrev pub is_memory : TextBad → Bool
is_memory NoMemory = true
is_memory _ = false

-- of these tokens, k at least were taken from the front; a trouble is one of the text
abbrev pub Keeps : {A : Type 0} → ℕ → List Token → Result (A × Rest) TextBad → Type 0
Keeps k tokens (Ok x) = (front : List Token) × (tokens ≡ front ++ x.1.tokens) × (k ≤ length front)
Keeps k tokens (Err bad) = is_memory bad ≡ false

-- where fewer than n tokens are left, at least k of them are taken
pub record Moves {A : Type 0} (n k : ℕ) (f : Form A) : Type 0 where
  pub each : (r : Rest) → length r.tokens < n → Keeps k r.tokens (f r)

-- ---- one form after another

further : {A : Type 0} (res : Result (A × Rest) TextBad) (k j : ℕ) (tokens front rest : List Token) → tokens ≡ front ++ rest → j ≤ length front → Keeps k rest res → Keeps (j + k) tokens res
further (Ok x) k j tokens front rest e le h = (front ++ h.0, e ∙ ap (λ (l : List Token). front ++ l) h.1 ∙ sym (append_assoc front h.0 x.1.tokens), omega (arith, le, h.2, length-append front h.0))
further (Err bad) k j tokens front rest e le h = h

on_result : {A B : Type 0} (res : Result (A × Rest) TextBad) (g : A → Form B) (n j k : ℕ) (tokens : List Token) → length tokens < n → Keeps j tokens res → ((x : A) → Moves (n - j) k (g x)) → Keeps (j + k) tokens (read_on res g)
on_result (Ok x) g n j k tokens below h q =
    further (g x.0 x.1) k j tokens h.0 x.1.tokens h.1 h.2 ((q x.0).each x.1 (omega (arith, h.2, below, ap length h.1, length-append h.0 x.1.tokens)))
on_result (Err bad) g n j k tokens below h q = h

pub then_moves : {A B : Type 0} (n j k : ℕ) (f : Form A) (g : A → Form B) → Moves n j f → ((x : A) → Moves (n - j) k (g x)) → Moves n (j + k) (f >>= g)
then_moves n j k f g p q = record { each = λ r below. on_result (f r) g n j k r.tokens below (p.each r below) q }

less : {A : Type 0} (res : Result (A × Rest) TextBad) (k j : ℕ) (tokens : List Token) → j ≤ k → Keeps k tokens res → Keeps j tokens res
less (Ok x) k j tokens le h = (h.0, h.1, omega (arith, h.2, le))
less (Err bad) k j tokens le h = h

-- fewer tokens are taken as well, and fewer left
pub weaker : {A : Type 0} {n k : ℕ} {f : Form A} (m j : ℕ) → m ≤ n → j ≤ k → Moves n k f → Moves m j f
weaker {A} {n} {k} {f} m j le few p = record { each = λ r below. less (f r) k j r.tokens few (p.each r (omega (arith, le, below))) }

-- what is said of no tokens at all is said of any number
pub goes : {A : Type 0} {n : ℕ} {f : Form A} → Moves n 1 f → Moves n 0 f
goes {A} {n} p = weaker n 0 (omega arith) (omega arith) p

pub after : {A B : Type 0} {n : ℕ} {f : Form A} {g : A → Form B} → Moves n 0 f → ((x : A) → Moves n 0 (g x)) → Moves n 0 (f >>= g)
after {A} {B} {n} {f} {g} p q = then_moves n 0 0 f g p (λ x. weaker (n - 0) 0 (omega arith) (omega arith) (q x))

-- the second takes a token
pub before_taken : {A B : Type 0} {n : ℕ} {f : Form A} {g : A → Form B} → Moves n 0 f → ((x : A) → Moves n 1 (g x)) → Moves n 1 (f >>= g)
before_taken {A} {B} {n} {f} {g} p q = then_moves n 0 1 f g p (λ x. weaker (n - 0) 1 (omega arith) (omega arith) (q x))

-- the first takes a token
pub after_taken : {A B : Type 0} {n : ℕ} {f : Form A} {g : A → Form B} → Moves n 1 f → ((x : A) → Moves n 0 (g x)) → Moves n 1 (f >>= g)
after_taken {A} {B} {n} {f} {g} p q = then_moves n 1 0 f g p (λ x. weaker (n - 1) 0 (omega arith) (omega arith) (q x))

-- the first takes a token, so for the second fewer are left
pub below_taken : {A B : Type 0} {n : ℕ} {f : Form A} {g : A → Form B} → Moves (suc n) 1 f → ((x : A) → Moves n 0 (g x)) → Moves (suc n) 1 (f >>= g)
below_taken {A} {B} {n} {f} {g} p q = then_moves (suc n) 1 0 f g p (λ x. weaker (suc n - 1) 0 (omega arith) (omega arith) (q x))

pub if_moves : {A : Type 0} {n k : ℕ} {f g : Form A} (b : Bool) → Moves n k f → Moves n k g → Moves n k (if b then f else g)
if_moves true p q = p
if_moves false p q = q

-- ---- first forms

pub gives_moves : {A : Type 0} (n : ℕ) (x : A) → Moves n 0 (gives x)
gives_moves n x = record { each = λ r below. ([], refl, omega arith) }

pub fails_moves : {A : Type 0} (n k : ℕ) (bad : TextBad) → is_memory bad ≡ false → Moves n k (fails {A = A} bad)
fails_moves n k bad e = record { each = λ r below. e }

looked_keeps : {A : Type 0} (r : Rest) (res : Result A TextBad) → ((bad : TextBad) → res ≡ Err bad → is_memory bad ≡ false) → Keeps 0 r.tokens (looked r res)
looked_keeps r (Ok x) h = ([], refl, omega arith)
looked_keeps r (Err bad) h = h bad refl

first_told : (tokens : List Token) (bad : Option LexBad) (why : TextBad) → first_of tokens bad ≡ Err why → is_memory why ≡ false
first_told [] None why e = absurd cc
first_told [] (Some bad) (NoMemory) e = absurd cc
first_told [] (Some bad) why e = refl
first_told (t ∷ rest) bad why e = absurd cc

pub ahead_moves : (n : ℕ) → Moves n 0 ahead
ahead_moves n = record { each = λ r below. looked_keeps r (first_of r.tokens r.bad) (first_told r.tokens r.bad) }

inside_if : (b : Bool) (tokens : List Token) (bad : Option LexBad) (why : TextBad) → (if b then first_of tokens bad else Ok None) ≡ Err why → is_memory why ≡ false
inside_if true tokens bad why e = first_told tokens bad why e
inside_if false tokens bad why e = absurd cc

inside_told : (tokens : List Token) (bad : Option LexBad) (why : TextBad) → inside_of tokens bad ≡ Err why → is_memory why ≡ false
inside_told [] None why e = absurd cc
inside_told [] (Some bad) why e = first_told [] (Some bad) why e
inside_told (t ∷ rest) bad why e = inside_if (is_open t.kind) rest bad why e

pub inside_moves : (n : ℕ) → Moves n 0 inside
inside_moves n = record { each = λ r below. looked_keeps r (inside_of r.tokens r.bad) (inside_told r.tokens r.bad) }

pub source_moves : (n : ℕ) → Moves n 0 source
source_moves n = record { each = λ r below. ([], refl, omega arith) }

pub next_is_moves : (n : ℕ) (test : TokenKind → Bool) → Moves n 0 (next_is test)
next_is_moves n test = after (ahead_moves n) (λ t. gives_moves n _)

pub next_word_moves : (n : ℕ) → Moves n 0 next_word
next_word_moves n = after (ahead_moves n) (λ t. after (source_moves n) (λ text. gives_moves n _))

pub word_inside_moves : (n : ℕ) → Moves n 0 word_inside
word_inside_moves n = after (inside_moves n) (λ t. after (source_moves n) (λ text. gives_moves n _))

pub opens_moves : (n : ℕ) (word : List ℕ) → Moves n 0 (opens word)
opens_moves n word = after (word_inside_moves n) (λ w. gives_moves n _)

pub place_moves : (n : ℕ) → Moves n 0 place
place_moves n = after (ahead_moves n) (λ t. after (source_moves n) (λ text. gives_moves n _))

-- a form that never goes on takes as many tokens as may be wanted
pub want_moves : {A : Type 0} (n : ℕ) → Moves n 1 (want {A = A})
want_moves n = before_taken (ahead_moves n) (λ t. before_taken (place_moves n) (λ at. fails_moves n 1 (Want t at) refl))

pass_keeps : (n : ℕ) (r : Rest) (tokens : List Token) → r.tokens ≡ tokens → length r.tokens < n → Keeps 1 r.tokens (pass_from r tokens)
pass_keeps n r [] e below = (want_moves n).each r below
pass_keeps n r (t ∷ rest) e below = (t ∷ [], e, omega arith)

pub pass_moves : (n : ℕ) → Moves n 1 pass
pass_moves n = record { each = λ r below. pass_keeps n r r.tokens refl below }

pub token_of_moves : (n : ℕ) (test : TokenKind → Bool) → Moves n 1 (token_of test)
token_of_moves n test = before_taken (next_is_moves n test) (λ fits. if_moves fits (pass_moves n) (want_moves n))

pub opening_moves : (n : ℕ) → Moves n 1 opening
opening_moves n = token_of_moves n is_open

pub closing_moves : (n : ℕ) → Moves n 1 closing
closing_moves n = token_of_moves n is_close

pub keyword_moves : (n : ℕ) (word : List ℕ) → Moves n 1 (keyword word)
keyword_moves n word = before_taken (next_word_moves n) (λ w. if_moves _ (pass_moves n) (want_moves n))

pub pass_two_moves : (n : ℕ) → Moves n 1 pass_two
pass_two_moves n = after_taken (pass_moves n) (λ t. goes (pass_moves n))

pub unfit_moves : {A : Type 0} (n : ℕ) → Moves n 1 (unfit {A = A})
unfit_moves n = before_taken (next_is_moves n is_open) (λ opened. if_moves opened (after_taken (pass_moves n) (λ t. goes (want_moves n))) (want_moves n))

pub parts_end_moves : (n : ℕ) → Moves n 1 parts_end
parts_end_moves n = before_taken (next_is_moves n is_close) (λ closed. if_moves closed (pass_moves n) (unfit_moves n))

-- ---- repetition

as_long_below_moves : {A : Type 0} (n : ℕ) (test : Form Bool) (f : Form A) → ((m : ℕ) → Moves m 0 test) → ((m : ℕ) → Moves m 1 f) → Moves n 0 (as_long_below n test f)
as_long_below_moves zero test f p q = record { each = λ r below. absurd (omega arith) }
as_long_below_moves (suc n) test f p q =
    after (p (suc n)) (λ more. if_moves more (goes (below_taken (q (suc n)) (λ x. after (as_long_below_moves n test f p q) (λ xs. gives_moves n _)))) (gives_moves (suc n) _))

pub as_long_moves : {A : Type 0} (n : ℕ) (test : Form Bool) (f : Form A) → ((m : ℕ) → Moves m 0 test) → ((m : ℕ) → Moves m 1 f) → Moves n 0 (as_long test f)
as_long_moves n test f p q = record { each = λ r below. (as_long_below_moves (suc (length r.tokens)) test f p q).each r (omega arith) }

pub keeps_moves : (n : ℕ) (u : Use) → Moves n 0 (keeps u)
keeps_moves n u = record { each = λ r below. ([], refl, omega arith) }
