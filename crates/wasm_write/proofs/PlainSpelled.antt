-- What is written for an instruction that holds no others is a spelling of it.
use Rattle.std.proofs.Common.{◌≡◌, ℕ, ◌+◌, ◌-◌, ◌^◌, ◌<◌, ◌≤◌, inl, inr, ℤ, pos, negsuc, ◌-ℤ◌, Bool, true, false, List, [], ◌∷◌, ◌++◌, length, Result, Ok, Err, All, refl, sym, ap, subst, ◌∙◌, append-nil, arith}
use Rattle.std.specs.Prelude.{◌==◌, ◌&&◌, ◌||◌, nat_lt, IsTrue, if◌then◌else◌}
use Rattle.std.proofs.lemmas.Bool.{cases_lt, cases_eq, lt-ltb, le-ltb, ne_eqb}
use Rattle.std.proofs.lemmas.Bool.Decides.{nat_tests}
use Rattle.std.proofs.lemmas.Int.{ints}
use Rattle.owi_base.specs.Leb.{unsigned_bytes, signed_bytes, HasBits, distance}
use Rattle.grammar_forms.specs.Forms.{gives, checked, when◌form◌else◌}
use Rattle.owi_base.proofs.DigitLaws.{signed_spells}
use Rattle.wasm_ast.specs.Numbering.{named_by}
use Rattle.wasm_ast.specs.Opcodes.{is_from, is_load, is_store, is_numeric}
use Rattle.wasm_ast.specs.Sections.{names_data}
use Rattle.wasm_ast.specs.Shape.{InstrHasShape}
use Rattle.wasm_ast.specs.declared.instructions.Instr.{Instr}
use Rattle.wasm_ast.specs.declared.instructions.Instr.TheVariants.{Unreachable, Nop, Block, Loop, If, Br, BrIf, BrTable, Return, Call, CallIndirect, RefNull, RefIsNull, RefFunc, Discard, Select, SelectTyped, LocalGet, LocalSet, LocalTee, GlobalGet, GlobalSet, TableGet, TableSet, TableInit, ElemDrop, TableCopy, TableGrow, TableSize, TableFill, Load, Store, MemorySize, MemoryGrow, MemoryInit, DataDrop, MemoryCopy, MemoryFill, Const32, Const64, Num}
use Rattle.wasm_binary.specs.Faults.{Fault, byte, outside}
use Rattle.wasm_binary.specs.Values.{Grammar, u32}
use Rattle.wasm_binary.specs.Instructions.{Opcode, opcode, Around, is_opcode, is_outside, allowed_after_FC, as_opcode, allowed, one_index, two_indices, memory_argument, modulo, index_and_zero, zero_byte, zero_bytes, after_FC, branch_table, null_of, constant_32, constant_64, plain, is_last}
use Rattle.wasm_write.specs.Values.{vec_bytes}
use Rattle.wasm_write.specs.Types.{val_type_bytes}
use Rattle.wasm_write.specs.Instructions as writing
use Rattle.wasm_ast.specs.Ranges.{IsU32, InstrInRange}
use Rattle.wasm_write.proofs.FormSpelled.{by_recursion, u32_spelled, vec_spelled, kinds_spelled, ref_type_spelled}
use Rattle.owi_base.proofs.Choices.{taken, passed, is_false}

-- ---- tests that choose a form

pub when_false : {A : Type 0} (b : Bool) (f g : Grammar A) (x : A) (text : List ℕ) → b ≡ false → g.Spells x text → (when b form f else g).Spells x text
when_false true f g x text e s = absurd cc
when_false false f g x text e s = s

pub when_true : {A : Type 0} (b : Bool) (f g : Grammar A) (x : A) (text : List ℕ) → b ≡ true → f.Spells x text → (when b form f else g).Spells x text
when_true true f g x text e s = s
when_true false f g x text e s = absurd cc

-- a test that tells two numbers apart
apart : (p : ℕ → Bool) (b k : ℕ) → p b ≡ true → p k ≡ false → (b == k) ≡ false
apart p b k h other =
    elim (cases_eq b k) [
      | inl same ↦ let both : p b ≡ p k = ap p same in absurd cc
      | inr ne ↦ ne_eqb b k ne
    ]

one_of_four : (before here c d e f : Bool) → here ≡ true → (before || here || c || d || e || f) ≡ true
one_of_four true here c d e f h = refl
one_of_four false true c d e f h = refl
one_of_four false false c d e f h = absurd cc

one_of_three : (before here c d e : Bool) → here ≡ true → (before || here || c || d || e) ≡ true
one_of_three true here c d e h = refl
one_of_three false true c d e h = refl
one_of_three false false c d e h = absurd cc

one_of_two : (before here c : Bool) → here ≡ true → (before || here || c) ≡ true
one_of_two true here c h = refl
one_of_two false true c h = refl
one_of_two false false c h = absurd cc

-- ---- the classes of opcodes

load_low : (b : ℕ) → is_load b ≡ true → b < 0x36
load_low b h = grind (arith, nat_tests)

store_low : (b : ℕ) → is_store b ≡ true → (0x36 ≤ b) × (b < 0x45)
store_low b h = (grind (arith, nat_tests), grind (arith, nat_tests))

numeric_high : (b : ℕ) → is_numeric b ≡ true → 0x45 ≤ b
numeric_high b h = grind (arith, nat_tests)

store_is_no_load : (b : ℕ) → is_store b ≡ true → is_load b ≡ false
store_is_no_load b h = is_false (is_load b) (λ l. omega (arith, load_low b l, (store_low b h).0))

numeric_is_no_load : (b : ℕ) → is_numeric b ≡ true → is_load b ≡ false
numeric_is_no_load b h = is_false (is_load b) (λ l. omega (arith, load_low b l, numeric_high b h))

numeric_is_no_store : (b : ℕ) → is_numeric b ≡ true → is_store b ≡ false
numeric_is_no_store b h = is_false (is_store b) (λ s. omega (arith, (store_low b s).1, numeric_high b h))

-- ---- opcodes

abbrev pub of_byte : ℕ → Opcode
of_byte b = record { first = b; second = 0 }

pub byte_spelled : (around : Around) (b : ℕ) → (b == 0xFC) ≡ false → is_opcode around b ≡ true → (checked opcode (allowed around)).Spells (of_byte b) (b ∷ [])
byte_spelled around b not_FC is =
    let Answer : Type 0 = Result Opcode (ℕ → Fault) in
    let ok : Answer = Ok (of_byte b) in
    let other : Answer = if is_outside b then Err outside else Err byte in (
      of_byte b,
      (b, b ∷ [], [], refl, refl, (0, [], [], refl, when_false (b == 0xFC) u32 (gives 0) 0 [] not_FC (refl, refl), (refl, refl))),
      passed (b == 0xFC) (as_opcode 0xFC (allowed_after_FC around 0)) (if is_opcode around b then ok else other) not_FC ∙ taken (is_opcode around b) ok other is,
    )

after_FC_spelled : (around : Around) (n : ℕ) → n < 128 → allowed_after_FC around n ≡ Ok n → (checked opcode (allowed around)).Spells (record { first = 0xFC; second = n }) (0xFC ∷ n ∷ [])
after_FC_spelled around n lt is = (
  record { first = 0xFC; second = n },
  (0xFC, 0xFC ∷ [], n ∷ [], refl, refl, (n, n ∷ [], [], refl, (lt, omega arith, refl), (refl, refl))),
  ap (as_opcode 0xFC) is,
)

-- ---- what follows them

-- the bytes are an opcode and what follows it, and they spell an instruction that holds no others
pub record IsPlainSpelled (around : Around) (x : Instr) (bytes : List ℕ) : Type 0 where
  pub op : Opcode
  pub first : List ℕ
  pub rest : List ℕ
  pub parts : bytes ≡ first ++ rest
  pub begins : (checked opcode (allowed around)).Spells op first
  pub operands : (plain op).Spells x rest
  pub some : 0 < length first
  pub goes_on : is_last op ≡ false
  pub no_block : (op.first == 0x02) ≡ false
  pub no_loop : (op.first == 0x03) ≡ false
  pub no_if : (op.first == 0x04) ≡ false

with_byte : (around : Around) (b : ℕ) (x : Instr) (rest : List ℕ) → (b == 0xFC) ≡ false → is_last (of_byte b) ≡ false → (b == 0x02) ≡ false → (b == 0x03) ≡ false → (b == 0x04) ≡ false → is_opcode around b ≡ true → (plain (of_byte b)).Spells x rest → IsPlainSpelled around x (b ∷ rest)
with_byte around b x rest not_FC goes_on no_block no_loop no_if is s = record {
  op = of_byte b;
  first = b ∷ [];
  rest = rest;
  parts = refl;
  begins = byte_spelled around b not_FC is;
  operands = s;
  some = omega arith;
  goes_on = goes_on;
  no_block = no_block;
  no_loop = no_loop;
  no_if = no_if;
}

with_FC : (around : Around) (n : ℕ) (x : Instr) (rest : List ℕ) → n < 128 → allowed_after_FC around n ≡ Ok n → (after_FC n).Spells x rest → IsPlainSpelled around x (0xFC ∷ n ∷ rest)
unfolding plain
with_FC around n x rest lt is s = record {
  op = record { first = 0xFC; second = n };
  first = 0xFC ∷ n ∷ [];
  rest = rest;
  parts = refl;
  begins = after_FC_spelled around n lt is;
  operands = s;
  some = omega arith;
  goes_on = refl;
  no_block = refl;
  no_loop = refl;
  no_if = refl;
}

one_index_spelled : (instr : ℕ → Instr) (x : ℕ) → IsU32 x → (one_index instr).Spells (instr x) (unsigned_bytes x)
one_index_spelled instr x lt = (x, unsigned_bytes x, [], sym (append-nil (unsigned_bytes x)), u32_spelled x lt, (refl, refl))

two_indices_spelled : (instr : ℕ → ℕ → Instr) (x y : ℕ) → IsU32 x → IsU32 y → (two_indices instr).Spells (instr x y) (unsigned_bytes x ++ unsigned_bytes y)
two_indices_spelled instr x y p q = (x, unsigned_bytes x, unsigned_bytes y, refl, u32_spelled x p, one_index_spelled (instr x) y q)

memory_argument_spelled : (instr : ℕ → ℕ → Instr) (align offset : ℕ) → align < 32 → IsU32 offset → (memory_argument instr).Spells (instr align offset) (unsigned_bytes align ++ unsigned_bytes offset)
memory_argument_spelled instr align offset small lt = (
  align,
  unsigned_bytes align,
  unsigned_bytes offset,
  refl,
  (align, u32_spelled align (omega arith), taken (nat_lt align 32) (let r : Result ℕ (ℕ → Fault) = Ok align in r) (Err byte) (lt-ltb align 32 small)),
  one_index_spelled (instr align) offset lt,
)

index_and_zero_spelled : (instr : ℕ → Instr) (x : ℕ) → IsU32 x → (index_and_zero instr).Spells (instr x) (unsigned_bytes x ++ 0x00 ∷ [])
index_and_zero_spelled instr x lt = (x, unsigned_bytes x, 0 ∷ [], refl, u32_spelled x lt, (0, 0 ∷ [], [], refl, (0, refl, refl), (refl, refl)))

zero_byte_spelled : (instr : Instr) → (zero_byte instr).Spells instr (0x00 ∷ [])
zero_byte_spelled instr = (0, 0 ∷ [], [], refl, (0, refl, refl), (refl, refl))

zero_bytes_spelled : (instr : Instr) → (zero_bytes instr).Spells instr (0x00 ∷ 0x00 ∷ [])
zero_bytes_spelled instr = (0, 0 ∷ [], 0 ∷ [], refl, (0, refl, refl), zero_byte_spelled instr)

branch_table_spelled : (labels : List ℕ) (last : ℕ) → length labels < 2 ^ 32 → All IsU32 labels → IsU32 last → branch_table.Spells (BrTable labels last) (vec_bytes unsigned_bytes labels ++ unsigned_bytes last)
branch_table_spelled labels last short each lt =
    let entry : (x : ℕ) → IsU32 x → u32.Spells x (unsigned_bytes x) = u32_spelled in (
      labels,
      vec_bytes unsigned_bytes labels,
      unsigned_bytes last,
      refl,
      vec_spelled u32 unsigned_bytes labels short (by_recursion (λ x. u32.Spells x (unsigned_bytes x)) labels (λ k d within. u32_spelled _ (each k d within))),
      one_index_spelled (BrTable labels) last lt,
    )

-- ---- constants

negative_is : (n k whole : ℕ) → n + k + 1 ≡ whole → (pos n -ℤ pos whole) ≡ negsuc k
negative_is n k whole e = omega (arith, ints)

-- a number as a signed one: it has so many bits, and it is the number again modulo 2 ^ bits
pub record IsSigned (bits n : ℕ) (z : ℤ) : Type 0 where
  pub has_bits : HasBits bits z
  pub near : distance z < 2 ^ (bits - 1)
  pub again : modulo bits z ≡ n

signed_of : (bits half n : ℕ) → 2 ^ (bits - 1) ≡ half → 2 ^ bits ≡ half + half → n < half + half → IsSigned bits n (writing.signed bits n)
signed_of bits half n is whole lt =
    elim (cases_lt n half) [
      | inl low ↦
          let same : writing.signed bits n ≡ pos n = taken (nat_lt n (2 ^ (bits - 1))) (pos n) (pos n -ℤ pos (2 ^ bits)) (lt-ltb n (2 ^ (bits - 1)) (omega (arith, is))) in
          let P : ℤ → Type 0 = λ z. IsSigned bits n z in
          subst P (sym same) (record { has_bits = (omega (arith, ints, is), omega (arith, ints, is)); near = omega (arith, is); again = refl })
      | inr high ↦
          let k = half + half - n - 1 in
          let same : writing.signed bits n ≡ negsuc k =
          passed (nat_lt n (2 ^ (bits - 1))) (pos n) (pos n -ℤ pos (2 ^ bits)) (le-ltb n (2 ^ (bits - 1)) (omega (arith, is))) ∙ negative_is n k (2 ^ bits) (omega (arith, whole)) in
          let P : ℤ → Type 0 = λ z. IsSigned bits n z in
          subst P (sym same) (record { has_bits = (omega (arith, ints, is), omega (arith, ints, is)); near = omega (arith, is); again = omega (arith, whole) })
    ]

constant_32_spelled : (n : ℕ) → IsU32 n → constant_32.Spells (Const32 n) (signed_bytes (writing.signed 32 n))
constant_32_spelled n lt =
    let z = writing.signed 32 n in
    let is = signed_of 32 (2 ^ 31) n refl refl (omega arith) in
    (z, signed_bytes z, [], sym (append-nil (signed_bytes z)), signed_spells z 32 (omega (arith, is.near)) is.has_bits, (ap (λ k. Const32 k) (sym is.again), refl))

constant_64_spelled : (n : ℕ) → n < 2 ^ 64 → constant_64.Spells (Const64 n) (signed_bytes (writing.signed 64 n))
constant_64_spelled n lt =
    let z = writing.signed 64 n in
    let is = signed_of 64 (2 ^ 63) n refl refl (omega arith) in
    (z, signed_bytes z, [], sym (append-nil (signed_bytes z)), signed_spells z 64 (omega (arith, is.near)) is.has_bits, (ap (λ k. Const64 k) (sym is.again), refl))

-- ---- loads, stores and operators, by their class

-- what is left once the opcodes of the first instructions are told apart
abbrev beyond : ℕ → Grammar Instr
beyond b =
    when is_load b form memory_argument (Load b) else
    when is_store b form memory_argument (Store b) else
    when b == 0x3F form zero_byte MemorySize else
    when b == 0x40 form zero_byte MemoryGrow else
    when b == 0x41 form constant_32 else
    when b == 0x42 form constant_64 else
    when b == 0xD0 form null_of else
    when b == 0xD1 form gives RefIsNull else
    when b == 0xD2 form one_index RefFunc else
    when b == 0xFC form after_FC 0 else
    gives (Num b)

-- none of them is in a class of opcodes
abbrev HasNone : (ℕ → Bool) → Type 0
HasNone p =
    (p 0x00 ≡ false) × (p 0x01 ≡ false) × (p 0x0C ≡ false) × (p 0x0D ≡ false) × (p 0x0E ≡ false) × (p 0x0F ≡ false)
    × (p 0x10 ≡ false) × (p 0x11 ≡ false) × (p 0x1A ≡ false) × (p 0x1B ≡ false) × (p 0x1C ≡ false) × (p 0x20 ≡ false)
    × (p 0x21 ≡ false) × (p 0x22 ≡ false) × (p 0x23 ≡ false) × (p 0x24 ≡ false) × (p 0x25 ≡ false) × (p 0x26 ≡ false)

class_spelled : (p : ℕ → Bool) → HasNone p → (b : ℕ) (x : Instr) (rest : List ℕ) → p b ≡ true → (beyond b).Spells x rest → (plain (of_byte b)).Spells x rest
unfolding plain
class_spelled p none b x rest h s =
    let skip : (k : ℕ) → p k ≡ false → (b == k) ≡ false = λ k other. apart p b k h other in
    when_false (b == 0x00) _ _ x rest (skip 0x00 none.0) (
    when_false (b == 0x01) _ _ x rest (skip 0x01 none.1) (
    when_false (b == 0x0C) _ _ x rest (skip 0x0C none.2) (
    when_false (b == 0x0D) _ _ x rest (skip 0x0D none.3) (
    when_false (b == 0x0E) _ _ x rest (skip 0x0E none.4) (
    when_false (b == 0x0F) _ _ x rest (skip 0x0F none.5) (
    when_false (b == 0x10) _ _ x rest (skip 0x10 none.6) (
    when_false (b == 0x11) _ _ x rest (skip 0x11 none.7) (
    when_false (b == 0x1A) _ _ x rest (skip 0x1A none.8) (
    when_false (b == 0x1B) _ _ x rest (skip 0x1B none.9) (
    when_false (b == 0x1C) _ _ x rest (skip 0x1C none.10) (
    when_false (b == 0x20) _ _ x rest (skip 0x20 none.11) (
    when_false (b == 0x21) _ _ x rest (skip 0x21 none.12) (
    when_false (b == 0x22) _ _ x rest (skip 0x22 none.13) (
    when_false (b == 0x23) _ _ x rest (skip 0x23 none.14) (
    when_false (b == 0x24) _ _ x rest (skip 0x24 none.15) (
    when_false (b == 0x25) _ _ x rest (skip 0x25 none.16) (
    when_false (b == 0x26) _ _ x rest (skip 0x26 none.17) (
    s))))))))))))))))))

load_spelled : (b : ℕ) (x : Instr) (rest : List ℕ) → is_load b ≡ true → (memory_argument (Load b)).Spells x rest → (plain (of_byte b)).Spells x rest
load_spelled b x rest h s = class_spelled is_load (refl, refl, refl, refl, refl, refl, refl, refl, refl, refl, refl, refl, refl, refl, refl, refl, refl, refl) b x rest h (when_true (is_load b) _ _ x rest h s)

store_spelled : (b : ℕ) (x : Instr) (rest : List ℕ) → is_store b ≡ true → (memory_argument (Store b)).Spells x rest → (plain (of_byte b)).Spells x rest
store_spelled b x rest h s =
    class_spelled is_store (refl, refl, refl, refl, refl, refl, refl, refl, refl, refl, refl, refl, refl, refl, refl, refl, refl, refl) b x rest h (
    when_false (is_load b) _ _ x rest (store_is_no_load b h) (
    when_true (is_store b) _ _ x rest h s))

numeric_spelled : (b : ℕ) (x : Instr) (rest : List ℕ) → is_numeric b ≡ true → (gives {E = Fault} (Num b)).Spells x rest → (plain (of_byte b)).Spells x rest
numeric_spelled b x rest h s =
    let skip : (k : ℕ) → is_numeric k ≡ false → (b == k) ≡ false = λ k other. apart is_numeric b k h other in
    class_spelled is_numeric (refl, refl, refl, refl, refl, refl, refl, refl, refl, refl, refl, refl, refl, refl, refl, refl, refl, refl) b x rest h (
    when_false (is_load b) _ _ x rest (numeric_is_no_load b h) (
    when_false (is_store b) _ _ x rest (numeric_is_no_store b h) (
    when_false (b == 0x3F) _ _ x rest (skip 0x3F refl) (
    when_false (b == 0x40) _ _ x rest (skip 0x40 refl) (
    when_false (b == 0x41) _ _ x rest (skip 0x41 refl) (
    when_false (b == 0x42) _ _ x rest (skip 0x42 refl) (
    when_false (b == 0xD0) _ _ x rest (skip 0xD0 refl) (
    when_false (b == 0xD1) _ _ x rest (skip 0xD1 refl) (
    when_false (b == 0xD2) _ _ x rest (skip 0xD2 refl) (
    when_false (b == 0xFC) _ _ x rest (skip 0xFC refl) (
    s)))))))))))

-- ---- all instructions that hold no others

of_class : (around : Around) (p : ℕ → Bool) (b : ℕ) (x : Instr) (rest : List ℕ) → p b ≡ true → p 0xFC ≡ false → p 0x0B ≡ false → p 0x05 ≡ false → p 0x02 ≡ false → p 0x03 ≡ false → p 0x04 ≡ false → is_opcode around b ≡ true → (plain (of_byte b)).Spells x rest → IsPlainSpelled around x (b ∷ rest)
of_class around p b x rest h c e f i j k is s =
    let last : is_last (of_byte b) ≡ false = rw (apart p b 0x0B h e, apart p b 0x05 h f) refl in
    with_byte around b x rest (apart p b 0xFC h c) last (apart p b 0x02 h i) (apart p b 0x03 h j) (apart p b 0x04 h k) is s

load_plain : (around : Around) (b align offset : ℕ) → IsTrue (is_load b) → align < 32 → IsU32 offset → IsPlainSpelled around (Load b align offset) (writing.indexed_twice b align offset)
load_plain around b align offset h small lt =
    let is : is_load b ≡ true = h in
    let among : is_opcode around b ≡ true =
    one_of_four (is_from 0x00 0x04 b || (b == 0x05 && around.else_may_follow) || is_from 0x0B 0x11 b || is_from 0x1A 0x1C b || is_from 0x20 0x26 b) (is_load b) (is_store b) (is_from 0x3F 0x42 b) (is_numeric b) (is_from 0xD0 0xD2 b) is in
    of_class around is_load b (Load b align offset) (unsigned_bytes align ++ unsigned_bytes offset) is refl refl refl refl refl refl among
    (load_spelled b (Load b align offset) (unsigned_bytes align ++ unsigned_bytes offset) is (memory_argument_spelled (Load b) align offset small lt))

store_plain : (around : Around) (b align offset : ℕ) → IsTrue (is_store b) → align < 32 → IsU32 offset → IsPlainSpelled around (Store b align offset) (writing.indexed_twice b align offset)
store_plain around b align offset h small lt =
    let is : is_store b ≡ true = h in
    let among : is_opcode around b ≡ true =
    one_of_three (is_from 0x00 0x04 b || (b == 0x05 && around.else_may_follow) || is_from 0x0B 0x11 b || is_from 0x1A 0x1C b || is_from 0x20 0x26 b || is_load b) (is_store b) (is_from 0x3F 0x42 b) (is_numeric b) (is_from 0xD0 0xD2 b) is in
    of_class around is_store b (Store b align offset) (unsigned_bytes align ++ unsigned_bytes offset) is refl refl refl refl refl refl among
    (store_spelled b (Store b align offset) (unsigned_bytes align ++ unsigned_bytes offset) is (memory_argument_spelled (Store b) align offset small lt))

numeric_plain : (around : Around) (b : ℕ) → IsTrue (is_numeric b) → IsPlainSpelled around (Num b) (b ∷ [])
numeric_plain around b h =
    let is : is_numeric b ≡ true = h in
    let among : is_opcode around b ≡ true =
    one_of_two (is_from 0x00 0x04 b || (b == 0x05 && around.else_may_follow) || is_from 0x0B 0x11 b || is_from 0x1A 0x1C b || is_from 0x20 0x26 b || is_load b || is_store b || is_from 0x3F 0x42 b) (is_numeric b) (is_from 0xD0 0xD2 b) is in
    of_class around is_numeric b (Num b) [] is refl refl refl refl refl refl among (numeric_spelled b (Num b) [] is (refl, refl))

-- where an instruction names a data segment, there is a data count section
abbrev pub DataIsCounted : Around → Instr → Type 0
DataIsCounted around x = names_data x ≡ true → around.has_data_count ≡ true

pub plain_spelled : (around : Around) (text : ℕ → List ℕ) (x : Instr) → InstrHasShape x → InstrInRange x → DataIsCounted around x → named_by x ≡ [] → IsPlainSpelled around x (writing.instr_bytes text x)
unfolding plain after_FC
plain_spelled around text Unreachable shape range counted none = with_byte around 0x00 Unreachable _ refl refl refl refl refl refl (refl, refl)
plain_spelled around text Nop shape range counted none = with_byte around 0x01 Nop _ refl refl refl refl refl refl (refl, refl)
plain_spelled around text (Block ty body) shape range counted none = absurd cc
plain_spelled around text (Loop ty body) shape range counted none = absurd cc
plain_spelled around text (If ty first other) shape range counted none = absurd cc
plain_spelled around text (Br x) shape range counted none = with_byte around 0x0C (Br x) _ refl refl refl refl refl refl (one_index_spelled Br x range)
plain_spelled around text (BrIf x) shape range counted none = with_byte around 0x0D (BrIf x) _ refl refl refl refl refl refl (one_index_spelled BrIf x range)
plain_spelled around text (BrTable labels last) shape range counted none = with_byte around 0x0E (BrTable labels last) _ refl refl refl refl refl refl (branch_table_spelled labels last shape range.0 range.1)
plain_spelled around text Return shape range counted none = with_byte around 0x0F Return _ refl refl refl refl refl refl (refl, refl)
plain_spelled around text (Call x) shape range counted none = with_byte around 0x10 (Call x) _ refl refl refl refl refl refl (one_index_spelled Call x range)
plain_spelled around text (CallIndirect ty table) shape range counted none = with_byte around 0x11 (CallIndirect ty table) _ refl refl refl refl refl refl (two_indices_spelled CallIndirect ty table range.0 range.1)
plain_spelled around text (RefNull kind) shape range counted none = with_byte around 0xD0 (RefNull kind) _ refl refl refl refl refl refl (kind, val_type_bytes kind, [], refl, ref_type_spelled kind shape, (refl, refl))
plain_spelled around text RefIsNull shape range counted none = with_byte around 0xD1 RefIsNull _ refl refl refl refl refl refl (refl, refl)
plain_spelled around text (RefFunc x) shape range counted none = with_byte around 0xD2 (RefFunc x) _ refl refl refl refl refl refl (one_index_spelled RefFunc x range)
plain_spelled around text Discard shape range counted none = with_byte around 0x1A Discard _ refl refl refl refl refl refl (refl, refl)
plain_spelled around text Select shape range counted none = with_byte around 0x1B Select _ refl refl refl refl refl refl (refl, refl)
plain_spelled around text (SelectTyped kinds) shape range counted none = with_byte around 0x1C (SelectTyped kinds) _ refl refl refl refl refl refl (kinds, vec_bytes val_type_bytes kinds, [], sym (append-nil (vec_bytes val_type_bytes kinds)), kinds_spelled kinds shape, (refl, refl))
plain_spelled around text (LocalGet x) shape range counted none = with_byte around 0x20 (LocalGet x) _ refl refl refl refl refl refl (one_index_spelled LocalGet x range)
plain_spelled around text (LocalSet x) shape range counted none = with_byte around 0x21 (LocalSet x) _ refl refl refl refl refl refl (one_index_spelled LocalSet x range)
plain_spelled around text (LocalTee x) shape range counted none = with_byte around 0x22 (LocalTee x) _ refl refl refl refl refl refl (one_index_spelled LocalTee x range)
plain_spelled around text (GlobalGet x) shape range counted none = with_byte around 0x23 (GlobalGet x) _ refl refl refl refl refl refl (one_index_spelled GlobalGet x range)
plain_spelled around text (GlobalSet x) shape range counted none = with_byte around 0x24 (GlobalSet x) _ refl refl refl refl refl refl (one_index_spelled GlobalSet x range)
plain_spelled around text (TableGet x) shape range counted none = with_byte around 0x25 (TableGet x) _ refl refl refl refl refl refl (one_index_spelled TableGet x range)
plain_spelled around text (TableSet x) shape range counted none = with_byte around 0x26 (TableSet x) _ refl refl refl refl refl refl (one_index_spelled TableSet x range)
plain_spelled around text (TableInit elem table) shape range counted none = with_FC around 12 (TableInit elem table) _ (omega arith) refl (two_indices_spelled TableInit elem table range.0 range.1)
plain_spelled around text (ElemDrop elem) shape range counted none = with_FC around 13 (ElemDrop elem) _ (omega arith) refl (one_index_spelled ElemDrop elem range)
plain_spelled around text (TableCopy to from) shape range counted none = with_FC around 14 (TableCopy to from) _ (omega arith) refl (two_indices_spelled TableCopy to from range.0 range.1)
plain_spelled around text (TableGrow table) shape range counted none = with_FC around 15 (TableGrow table) _ (omega arith) refl (one_index_spelled TableGrow table range)
plain_spelled around text (TableSize table) shape range counted none = with_FC around 16 (TableSize table) _ (omega arith) refl (one_index_spelled TableSize table range)
plain_spelled around text (TableFill table) shape range counted none = with_FC around 17 (TableFill table) _ (omega arith) refl (one_index_spelled TableFill table range)
plain_spelled around text (Load op align offset) shape range counted none = load_plain around op align offset shape.0 shape.1 range
plain_spelled around text (Store op align offset) shape range counted none = store_plain around op align offset shape.0 shape.1 range
plain_spelled around text MemorySize shape range counted none = with_byte around 0x3F MemorySize _ refl refl refl refl refl refl (zero_byte_spelled MemorySize)
plain_spelled around text MemoryGrow shape range counted none = with_byte around 0x40 MemoryGrow _ refl refl refl refl refl refl (zero_byte_spelled MemoryGrow)
plain_spelled around text (MemoryInit segment) shape range counted none = with_FC around 8 (MemoryInit segment) _ (omega arith) (rw (counted refl) refl) (index_and_zero_spelled MemoryInit segment range)
plain_spelled around text (DataDrop segment) shape range counted none = with_FC around 9 (DataDrop segment) _ (omega arith) (rw (counted refl) refl) (one_index_spelled DataDrop segment range)
plain_spelled around text MemoryCopy shape range counted none = with_FC around 10 MemoryCopy _ (omega arith) refl (zero_bytes_spelled MemoryCopy)
plain_spelled around text MemoryFill shape range counted none = with_FC around 11 MemoryFill _ (omega arith) refl (zero_byte_spelled MemoryFill)
plain_spelled around text (Const32 n) shape range counted none = with_byte around 0x41 (Const32 n) _ refl refl refl refl refl refl (constant_32_spelled n range)
plain_spelled around text (Const64 n) shape range counted none = with_byte around 0x42 (Const64 n) _ refl refl refl refl refl refl (constant_64_spelled n range)
plain_spelled around text (Num op) shape range counted none = numeric_plain around op shape
