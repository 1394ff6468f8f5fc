-- Grammars over tokens (Text Format, Conventions).
--
-- A form says what tokens spell that go on from somewhere: a value and what is left after it, or the first trouble. A grammar
-- is one term over the forms below, in which form follows form; what a form looks at is the next token and, after an opening
-- parenthesis, the one inside. Where that is in trouble with its characters, the answer is this trouble.
use Rattle.std.specs.Prelude.{ℕ, zero, suc, ◌-◌, Bool, true, false, if◌then◌else◌, List, [], ◌∷◌, ◌++◌, length, take, drop, Option, Some, None, Result, Ok, Err, bytes_eq}
use Rattle.wasm_text.specs.declared.tokens.Token.{Token}
use Rattle.wasm_text.specs.declared.tokens.TokenKind.{TokenKind}
use Rattle.wasm_text.specs.declared.tokens.TokenKind.TheVariants.{Open, Close, Str, Word}
use Rattle.wasm_text.specs.declared.tokens.LexBad.{LexBad}
use Rattle.wasm_text.specs.declared.bad.TextBad.{TextBad}
use Rattle.wasm_text.specs.declared.bad.TextBad.TheVariants.{Lex, Want, NoMemory}
use Rattle.wasm_text.specs.declared.named.Use.{Use}

-- what is left of a source: its tokens from a place on, the trouble with which its characters go on after them, where they do; and
-- the uses of types that were read before
pub record Rest : Type 0 where
  pub source : List ℕ
  pub tokens : List Token
  pub bad : Option LexBad
  pub uses : List Use

abbrev pub Form : Type 0 → Type 0
Form A = Rest → Result (A × Rest) TextBad

-- ---- one form after another

abbrev pub gives : {A : Type 0} → A → Form A
gives x r = Ok (x, r)

abbrev pub fails : {A : Type 0} → TextBad → Form A
fails bad r = Err bad

abbrev pub read_on : {A B : Type 0} → Result (A × Rest) TextBad → (A → Form B) → Result (B × Rest) TextBad
read_on (Ok x) next = next x.0 x.1
read_on (Err bad) next = Err bad

infixl 10 ◌>>=◌
abbrev pub ◌>>=◌ : {A B : Type 0} → Form A → (A → Form B) → Form B
◌>>=◌ f g r = read_on (f r) g

-- ---- tokens

abbrev pub is_open : TokenKind → Bool
is_open Open = true
is_open _ = false

abbrev pub is_close : TokenKind → Bool
is_close Close = true
is_close _ = false

abbrev pub is_string : TokenKind → Bool
is_string Str = true
is_string _ = false

abbrev pub is_word : TokenKind → Bool
is_word Word = true
is_word _ = false

abbrev pub token_text : List ℕ → Token → List ℕ
token_text source t = take (t.end - t.start) (drop t.start source)

-- the first token, none where the source ends, or the trouble of the characters
abbrev pub first_of : List Token → Option LexBad → Result (Option Token) TextBad
first_of [] None = Ok None
first_of [] (Some bad) = Err (Lex bad)
first_of (t ∷ rest) bad = Ok (Some t)

-- the token after an opening parenthesis, where that comes first; else none
abbrev pub inside_of : List Token → Option LexBad → Result (Option Token) TextBad
inside_of [] None = Ok None
inside_of [] (Some bad) = Err (Lex bad)
inside_of (t ∷ rest) bad = if is_open t.kind then first_of rest bad else Ok None

abbrev pub looked : {A : Type 0} → Rest → Result A TextBad → Result (A × Rest) TextBad
looked r (Ok x) = Ok (x, r)
looked r (Err bad) = Err bad

-- what comes next, which stays
abbrev pub ahead : Form (Option Token)
ahead r = looked r (first_of r.tokens r.bad)

abbrev pub inside : Form (Option Token)
inside r = looked r (inside_of r.tokens r.bad)

abbrev pub source : Form (List ℕ)
source r = Ok (r.source, r)

abbrev pub kind_is : (TokenKind → Bool) → Option Token → Bool
kind_is test None = false
kind_is test (Some t) = test t.kind

abbrev pub word_of_token : List ℕ → Option Token → List ℕ
word_of_token text None = []
word_of_token text (Some t) = if is_word t.kind then token_text text t else []

abbrev pub place_of : List ℕ → Option Token → ℕ
place_of text None = length text
place_of text (Some t) = t.start

-- whether the next token is of a kind
abbrev pub next_is : (TokenKind → Bool) → Form Bool
next_is test = do
  t ← ahead
  gives (kind_is test t)

-- the next token's text where it is a word, else none
abbrev pub next_word : Form (List ℕ)
next_word = do
  t ← ahead
  text ← source
  gives (word_of_token text t)

-- the same of the token after an opening parenthesis
abbrev pub word_inside : Form (List ℕ)
word_inside = do
  t ← inside
  text ← source
  gives (word_of_token text t)

-- whether an opening parenthesis and this word come next
abbrev pub opens : List ℕ → Form Bool
opens word = do
  w ← word_inside
  gives (bytes_eq w word)

-- the place of the next token; the source's length where it ends
abbrev pub place : Form ℕ
place = do
  t ← ahead
  text ← source
  gives (place_of text t)

-- no form goes on with the next token
abbrev pub want : {A : Type 0} → Form A
want = do
  t ← ahead
  at ← place
  fails (Want t at)

-- any token
abbrev pub pass_from : Rest → List Token → Result (Token × Rest) TextBad
pass_from r [] = want r
pass_from r (t ∷ rest) = Ok (t, record r { tokens = rest })

abbrev pub pass : Form Token
pass r = pass_from r r.tokens

-- a token of a kind
abbrev pub token_of : (TokenKind → Bool) → Form Token
token_of test = do
  fits ← next_is test
  if fits then pass else want

abbrev pub opening : Form Token
opening = token_of is_open

abbrev pub closing : Form Token
closing = token_of is_close

-- this word
abbrev pub keyword : List ℕ → Form Token
keyword word = do
  w ← next_word
  if bytes_eq w word then pass else want

-- an opening parenthesis and this word, which are known to come next
abbrev pub pass_two : Form Token
pass_two = do
  _ ← pass
  pass

-- No form goes on here, or with the word after a parenthesis where forms go on with others.
abbrev pub unfit : {A : Type 0} → Form A
unfit = do
  opened ← next_is is_open
  if opened then pass >>= (λ _. want) else want

-- a closing parenthesis, where forms go on with an opening one too
abbrev pub parts_end : Form Token
parts_end = do
  closed ← next_is is_close
  if closed then pass else unfit

-- ---- repetition

-- A form again and again, as long as a test holds, by approximations: fewer than n times.
abbrev pub as_long_below : {A : Type 0} → ℕ → Form Bool → Form A → Form (List A)
as_long_below zero test f = fails NoMemory
as_long_below (suc n) test f = do
  more ← test
  if more then (f >>= (λ x. as_long_below n test f >>= (λ xs. gives (x ∷ xs)))) else gives []

-- Each time takes a token, so as often as there are tokens, and once more, is enough.
abbrev pub as_long : {A : Type 0} → Form Bool → Form A → Form (List A)
as_long test f r = as_long_below (suc (length r.tokens)) test f r

-- ---- uses of types

-- a use is kept; its number
abbrev pub keeps : Use → Form ℕ
keeps u r = Ok (length r.uses, record r { uses = r.uses ++ u ∷ [] })
