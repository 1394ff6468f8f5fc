-- Terms over symbols: trees whose leaves are numbers and symbols and whose nodes are the operations of words, and their
-- value at an input. (Execution, Numerics; SMT-LIB's theory of bit-vectors, in which division is defined everywhere.)
use Rattle.std.specs.Prelude.{◌≡◌, ℕ, ◌+◌, ◌^◌, ◌<◌, ◌⊎◌, Bool, true, false, ◌==◌, ◌&&◌, not, IsTrue, List, [], ◌∷◌, slice_get, Option, Some, None}
use Rattle.int_ops.specs.Operators.{is_unary, is_binary, operand_bits, result_bits, unary, total}
use Rattle.int_ops.specs.Bytes.{byte_of, joined}
use Rattle.wasm_rules.specs.Words.{CanJoin, bits_where, chosen, taken}

mutual
  pub data Term : Type 0 where
    -- a number
    Number : ℕ → Term
    -- the symbol of a number, from 0 on, of 64 bits where wide, else of 32
    Symbol : ℕ → Bool → Term
    -- the operators by their opcodes, without traps
    Unary : ℕ → Term → Term
    Binary : ℕ → Term → Term → Term
    -- the second term where the first isn't 0, else the third; of 64 bits where wide, else of 32
    Choose : Bool → Term → Term → Term → Term
    -- a byte of a term by its place, the lowest first
    Byte : Term → ℕ → Term
    -- bytes joined, the lowest first, with zeros above them; to 64 bits where wide, else to 32
    Join : Bool → Bytes → Term

  -- a list of terms: the bytes that are joined
  pub data Bytes : Type 0 where
    NoBytes : Bytes
    Then : Term → Bytes → Bytes

-- ---- lists of bytes

abbrev pub bytes_from : List Term → Bytes
bytes_from [] = NoBytes
bytes_from (t ∷ ts) = Then t (bytes_from ts)

abbrev pub count_of : Bytes → ℕ
count_of NoBytes = 0
count_of (Then t rest) = count_of rest + 1

-- ---- numbers

-- which number a term is, where it is one
abbrev pub number_of : Term → Option ℕ
number_of (Number n) = Some n
number_of _ = None

abbrev pub is_number : Term → Bool
is_number (Number n) = true
is_number _ = false

-- ---- the value at an input

abbrev mutual
  -- the number that a term is at an input
  pub value_of : List ℕ → Term → ℕ
  value_of input (Number n) = n
  value_of input (Symbol k wide) = taken input k wide
  value_of input (Unary op a) = unary op (value_of input a)
  value_of input (Binary op a b) = total op (value_of input a) (value_of input b)
  value_of input (Choose wide c a b) = chosen (value_of input c) (value_of input a) (value_of input b)
  value_of input (Byte a i) = byte_of (value_of input a) i
  value_of input (Join wide bytes) = joined (values_of input bytes)

  pub values_of : List ℕ → Bytes → List ℕ
  values_of input NoBytes = []
  values_of input (Then t rest) = value_of input t ∷ values_of input rest

-- ---- widths

-- the width of a term that is no number; a number has no width of its own
abbrev pub width_of : Term → ℕ
width_of (Number n) = 0
width_of (Symbol k wide) = bits_where wide
width_of (Unary op a) = result_bits op
width_of (Binary op a b) = result_bits op
width_of (Choose wide c a b) = bits_where wide
width_of (Byte a i) = 8
width_of (Join wide bytes) = bits_where wide

-- A term has a width: a number each whose power of 2 it is below, any other its own alone, and so have its operands those
-- that its operation asks for.
abbrev mutual
  pub HasWidth : ℕ → Term → Type 0
  HasWidth bits (Number n) = n < 2 ^ bits
  HasWidth bits (Symbol k wide) = bits ≡ bits_where wide
  HasWidth bits (Unary op a) = (bits ≡ result_bits op) × IsTrue (is_unary op) × HasWidth (operand_bits op) a
  HasWidth bits (Binary op a b) = (bits ≡ result_bits op) × IsTrue (is_binary op) × HasWidth (operand_bits op) a × HasWidth (operand_bits op) b
  HasWidth bits (Choose wide c a b) = (bits ≡ bits_where wide) × (HasWidth 8 c ⊎ HasWidth 32 c ⊎ HasWidth 64 c) × HasWidth (bits_where wide) a × HasWidth (bits_where wide) b
  HasWidth bits (Byte a i) = (bits ≡ 8) × (i < 8) × (HasWidth 8 a ⊎ HasWidth 32 a ⊎ HasWidth 64 a)
  HasWidth bits (Join wide bytes) = (bits ≡ bits_where wide) × CanJoin wide (count_of bytes) × HaveByteWidths bytes

  pub HaveByteWidths : Bytes → Type 0
  HaveByteWidths NoBytes = Unit {0}
  HaveByteWidths (Then t rest) = HasWidth 8 t × HaveByteWidths rest

-- A term has a width, and its value at every input is below that power of 2. The second follows from the first.
abbrev pub HasBits : ℕ → Term → Type 0
HasBits bits t = HasWidth bits t × ((input : List ℕ) → value_of input t < 2 ^ bits)

-- ---- symbols

-- The symbols of a term are among these, which are given by whether they are wide, with their widths.
abbrev mutual
  pub HasSymbols : List Bool → Term → Type 0
  HasSymbols draws (Number n) = Unit {0}
  HasSymbols draws (Symbol k wide) = slice_get draws k ≡ Some wide
  HasSymbols draws (Unary op a) = HasSymbols draws a
  HasSymbols draws (Binary op a b) = HasSymbols draws a × HasSymbols draws b
  HasSymbols draws (Choose wide c a b) = HasSymbols draws c × HasSymbols draws a × HasSymbols draws b
  HasSymbols draws (Byte a i) = HasSymbols draws a
  HasSymbols draws (Join wide bytes) = HaveSymbols draws bytes

  pub HaveSymbols : List Bool → Bytes → Type 0
  HaveSymbols draws NoBytes = Unit {0}
  HaveSymbols draws (Then t rest) = HasSymbols draws t × HaveSymbols draws rest

-- ---- equality

abbrev pub same_bool : Bool → Bool → Bool
same_bool true b = b
same_bool false b = not b

-- whether two terms are the same tree
abbrev mutual
  pub is_same : Term → Term → Bool
  is_same (Number n) (Number m) = n == m
  is_same (Symbol k wide) (Symbol l wider) = k == l && same_bool wide wider
  is_same (Unary op a) (Unary oq b) = op == oq && is_same a b
  is_same (Binary op a b) (Binary oq c d) = op == oq && is_same a c && is_same b d
  is_same (Choose wide c a b) (Choose wider d e f) = same_bool wide wider && is_same c d && is_same a e && is_same b f
  is_same (Byte a i) (Byte b j) = is_same a b && i == j
  is_same (Join wide bytes) (Join wider cs) = same_bool wide wider && are_same bytes cs
  is_same _ _ = false

  pub are_same : Bytes → Bytes → Bool
  are_same NoBytes NoBytes = true
  are_same (Then t rest) (Then s others) = is_same t s && are_same rest others
  are_same _ _ = false
