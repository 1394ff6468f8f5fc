-- Numbers, strings, identifiers and indices in tokens (Text Format: Values; Modules, Indices).
use Rattle.std.specs.Prelude.{ℕ, zero, suc, ◌+◌, ◌*◌, Bool, true, false, ◌==◌, ◌&&◌, ◌||◌, nat_lt, if◌then◌else◌, List, [], ◌∷◌, ◌++◌, length, drop, slice_index, Option, Some, None, encode_utf8}
use Rattle.std.specs.Str.{is_utf8}
use Rattle.wasm_text.specs.declared.tokens.Token.{Token}
use Rattle.wasm_text.specs.declared.bad.TextBad.TheVariants.{Utf8, Range}
use Rattle.wasm_text.specs.declared.named.Id.{Id}
use Rattle.wasm_text.specs.declared.named.Idx.{Idx}
use Rattle.wasm_text.specs.declared.named.Idx.TheVariants.{Numbered, Called}
use Rattle.wasm_text.specs.Characters.{is_hex, hex_value}
use Rattle.wasm_text.specs.Integers.{Literal, NoNumber, OutOfRange, Number, count_of, integer_of}
use Rattle.wasm_text.specs.TokenForms.{Form, ◌>>=◌, gives, fails, next_word, place, source, pass, want, token_of, is_string, token_text}

-- ---- numbers

abbrev pub out_of_range : {A : Type 0} → Form A
out_of_range = do
  at ← place
  fails (Range at)

-- the next word, of which it is known what it is as an integer
abbrev pub literal : Literal → Form ℕ
literal NoNumber = want
literal OutOfRange = out_of_range
literal (Number n) = do
  _ ← pass
  gives n

-- a number that counts things: it has no sign, and is below 2 ^ 32
abbrev pub u32 : Form ℕ
u32 = do
  w ← next_word
  literal (count_of w)

-- an integer of so many bits, modulo 2 ^ bits
abbrev pub integer : ℕ → Form ℕ
integer bits = do
  w ← next_word
  literal (integer_of bits w)

abbrev pub is_number : Literal → Bool
is_number NoNumber = false
is_number _ = true

-- ---- strings

-- the number that hexadecimal digits spell up to a brace, after those that spell n; underscores count nothing
abbrev pub braced_number : ℕ → List ℕ → ℕ
braced_number n [] = n
braced_number n (c ∷ rest) =
    if c == 0x7D then n
    else (if c == 0x5F then braced_number n rest else braced_number (16 * n + hex_value c) rest)

-- how many characters stand up to a brace, it included
abbrev pub braced_length : List ℕ → ℕ
braced_length [] = 0
braced_length (c ∷ rest) = if c == 0x7D then 1 else suc (braced_length rest)

-- the character that a letter after a backslash stands for
abbrev pub short_escape : ℕ → ℕ
short_escape c = if c == 0x74 then 0x09 else (if c == 0x6E then 0x0A else (if c == 0x72 then 0x0D else c))

-- the bytes that an escape stands for, by what follows its backslash
abbrev pub escaped : List ℕ → List ℕ
escaped text =
    let c = slice_index text 0 in
    if c == 0x75 then encode_utf8 (braced_number 0 (drop 2 text))
    else (if is_hex c then (16 * hex_value c + hex_value (slice_index text 1)) ∷ []
    else short_escape c ∷ [])

-- how many characters of it follow its backslash
abbrev pub escape_length : List ℕ → ℕ
escape_length text =
    let c = slice_index text 0 in
    if c == 0x75 then 2 + braced_length (drop 2 text) else (if is_hex c then 2 else 1)

-- The bytes of a string up to its closing quote. Of what follows, so many characters are part of an escape.
abbrev pub unescaped : ℕ → List ℕ → List ℕ
unescaped passed [] = []
unescaped (suc passed) (c ∷ rest) = unescaped passed rest
unescaped zero (c ∷ rest) =
    if c == 0x22 then []
    else (if c == 0x5C then escaped rest ++ unescaped (escape_length rest) rest
    else c ∷ unescaped 0 rest)

abbrev pub string_bytes_of : List ℕ → List ℕ
string_bytes_of text = unescaped 0 (drop 1 text)

-- a string, as its bytes
abbrev pub string : Form (List ℕ)
string = do
  t ← token_of is_string
  text ← source
  gives (string_bytes_of (token_text text t))

-- a string in UTF-8
abbrev pub name : Form (List ℕ)
name = do
  at ← place
  bytes ← string
  if is_utf8 bytes then gives bytes else fails (Utf8 at)

-- ---- identifiers and indices

abbrev pub is_identifier : List ℕ → Bool
is_identifier w = slice_index w 0 == 0x24 && nat_lt 1 (length w)

abbrev pub id_of : Token → Id
id_of t = record { start = t.start; end = t.end }

abbrev pub id : Form Id
id = do
  t ← pass
  gives (id_of t)

abbrev pub some_id : Form (Option Id)
some_id = do
  found ← id
  gives (Some found)

-- an identifier, where one comes next
abbrev pub maybe_id : Form (Option Id)
maybe_id = do
  w ← next_word
  if is_identifier w then some_id else gives None

abbrev pub called : Form Idx
called = do
  found ← id
  gives (Called found)

abbrev pub numbered : Form Idx
numbered = do
  n ← u32
  gives (Numbered n)

abbrev pub idx : Form Idx
idx = do
  w ← next_word
  if is_identifier w then called else numbered

-- whether an index comes next; a number out of its range is one
abbrev pub idx_follows : Form Bool
idx_follows = do
  w ← next_word
  gives (is_identifier w || is_number (count_of w))

-- the index of a table, 0 where it is missing
abbrev pub table_idx : Form Idx
table_idx = do
  more ← idx_follows
  if more then idx else gives (Numbered 0)
