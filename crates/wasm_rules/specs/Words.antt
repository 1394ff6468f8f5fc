-- Kinds of words: what instructions compute with. The reduction is written once, over any kind. One kind is numbers;
-- another is terms, whose value is known only where an input is. (Execution, Runtime Structure: Values)
use Rattle.std.specs.Prelude.{◌≡◌, ℕ, ◌^◌, ◌<◌, ◌⊎◌, Bool, ◌==◌, IsTrue, if◌then◌else◌, List, All, length, slice_index, ◌%◌}
use Rattle.int_ops.specs.Operators.{is_unary, is_binary, operand_bits, result_bits, unary, total}
use Rattle.int_ops.specs.Bytes.{byte_of, joined}

-- The operations of a kind of words.
pub record Kind (W : Type 0) : Type 0 where
  -- a number as a word
  pub number : ℕ → W
  -- the operators by their opcodes, without traps
  pub unary : ℕ → W → W
  pub binary : ℕ → W → W → W
  -- the first of two words where the condition isn't 0, else the second; of 64 bits where wide, else of 32
  pub choose : Bool → W → W → W → W
  -- byte i of a word, the lowest first
  pub byte : W → ℕ → W
  -- bytes joined, the lowest first, with zeros above them; to 64 bits where wide, else to 32
  pub join : Bool → List W → W
  -- the k-th symbol, from 0 on, of 64 bits where wide, else of 32; numbers have no symbols, and 0 in their place
  pub symbol : ℕ → Bool → W

-- the first number where the condition isn't 0, else the second
abbrev pub chosen : ℕ → ℕ → ℕ → ℕ
chosen condition first second = if condition == 0 then second else first

-- the kind of numbers
abbrev pub numbers : Kind ℕ
numbers = record {
  number = λ n. n;
  unary = unary;
  binary = total;
  choose = λ wide condition first second. chosen condition first second;
  byte = byte_of;
  join = λ wide bytes. joined bytes;
  symbol = λ k wide. 0;
}

-- the kind of words that mean nothing
abbrev pub blanks : Kind (Unit {0})
blanks = record {
  number = λ n. tt;
  unary = λ op a. tt;
  binary = λ op a b. tt;
  choose = λ wide condition first second. tt;
  byte = λ a i. tt;
  join = λ wide bytes. tt;
  symbol = λ k wide. tt;
}

-- ---- widths

-- a number has each width whose power of 2 it is below
abbrev pub HasNumber : ℕ → ℕ → Type 0
HasNumber bits n = n < 2 ^ bits

-- the bits of an i64, where wide, or of an i32
abbrev pub bits_where : Bool → ℕ
bits_where wide = if wide then 64 else 32

-- it has one of the widths: that of a byte, of an i32 or of an i64
abbrev pub HasSome : {M : Type 0} → (ℕ → M → Type 0) → M → Type 0
HasSome Has m = Has 8 m ⊎ Has 32 m ⊎ Has 64 m

-- how many bytes are joined: 1, 2 or 4, and 8 only to 64 bits
abbrev pub CanJoin : Bool → ℕ → Type 0
CanJoin wide count = (count ≡ 1) ⊎ (count ≡ 2) ⊎ (count ≡ 4) ⊎ ((count ≡ 8) × IsTrue wide)

-- ---- words that are made one after another

-- the words that are held stay held, and mean the same
abbrev pub Kept : {A W M : Type 0} → (A → W → Type 0) → (A → W → M) → A → A → Type 0
Kept holds means old new = (w : _) → holds old w → holds new w × (means new w ≡ means old w)

-- The operations of the kind give words of the widths that the operators say.
pub record Gives {M : Type 0} (K : Kind M) (Has : ℕ → M → Type 0) : Type 0 where
  pub number : (bits n : ℕ) → n < 2 ^ bits → Has bits (K.number n)
  pub unary : (op : ℕ) (a : M) → IsTrue (is_unary op) → Has (operand_bits op) a → Has (result_bits op) (K.unary op a)
  pub binary : (op : ℕ) (a b : M) → IsTrue (is_binary op) → Has (operand_bits op) a → Has (operand_bits op) b → Has (result_bits op) (K.binary op a b)
  pub choose : (wide : Bool) (c a b : M) → HasSome Has c → Has (bits_where wide) a → Has (bits_where wide) b → Has (bits_where wide) (K.choose wide c a b)
  pub byte : (a : M) (i : ℕ) → i < 8 → HasSome Has a → Has 8 (K.byte a i)
  pub join : (wide : Bool) (bytes : List M) → CanJoin wide (length bytes) → All (Has 8) bytes → Has (bits_where wide) (K.join wide bytes)

-- ---- inputs

-- What the k-th symbol is at an input: the k-th of its numbers, or 0 past their end; modulo 2^32 where it isn't wide.
abbrev pub taken : List ℕ → ℕ → Bool → ℕ
taken input k wide = slice_index input k % 2 ^ bits_where wide
