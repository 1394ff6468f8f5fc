-- Numbers, vectors and names in bytes (Binary Format: Values, Conventions).
use Rattle.std.specs.Prelude.{ℕ, List, ◌==◌, if◌then◌else◌, Result, Ok, Err}
use Rattle.std.specs.Str.{is_utf8}
use Rattle.grammar_forms.specs.Forms.{Form, ◌>>=◌, any_byte, checked, many, unsigned, signed}
use Rattle.wasm_binary.specs.Faults.{Fault, leb, byte, utf8}
use Rattle.std.specs.Prelude.{ℤ}

abbrev pub Grammar : Type 0 → Type 1
Grammar A = Form Fault A

-- a test of a value: what it stands for, or the fault at its first byte
abbrev pub Test : Type 0 → Type 0 → Type 0
Test A B = A → Result B (ℕ → Fault)

abbrev pub u32 : Grammar ℕ
u32 = unsigned leb 32

abbrev pub s32 : Grammar ℤ
s32 = signed leb 32

abbrev pub s33 : Grammar ℤ
s33 = signed leb 33

abbrev pub s64 : Grammar ℤ
s64 = signed leb 64

-- this byte and no other
abbrev pub exactly : ℕ → Test ℕ ℕ
exactly b x = if x == b then Ok x else Err byte

abbrev pub tag : ℕ → Grammar ℕ
tag b = checked any_byte (exactly b)

-- a count and that many entries
abbrev pub vec : {A : Type 0} → Grammar A → Grammar (List A)
vec entry = do
  n ← u32
  many entry n

abbrev pub text_of : Test (List ℕ) (List ℕ)
text_of bytes = if is_utf8 bytes then Ok bytes else Err utf8

-- a vector of bytes in UTF-8
abbrev pub name : Grammar (List ℕ)
name = do
  n ← u32
  checked (many any_byte n) text_of
