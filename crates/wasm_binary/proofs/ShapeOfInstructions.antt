-- The instructions that hold no others have their shape and name no sequences.
use Rattle.std.proofs.Common.{◌≡◌, ◌≢◌, ℕ, ◌+◌, ◌<◌, ◌≤◌, ◌⊎◌, inl, inr, Bool, true, false, [], Result, Ok, Err, refl, arith}
use Rattle.std.specs.Prelude.{nat_lt, ◌==◌, ◌&&◌, ◌||◌}
use Rattle.std.proofs.lemmas.Bool.{eqb-false}
use Rattle.std.proofs.lemmas.Bool.Decides.{nat_tests}
use Rattle.wasm_ast.specs.Numbering.{named_by}
use Rattle.wasm_ast.specs.Opcodes.{is_from, is_load, is_store, is_numeric}
use Rattle.wasm_ast.specs.Shape.{IsReference, InstrHasShape}
use Rattle.wasm_ast.specs.declared.instructions.Instr.{Instr}
use Rattle.wasm_ast.specs.declared.instructions.Instr.TheVariants.{Br, BrIf, Call, CallIndirect, RefFunc, LocalGet, LocalSet, LocalTee, GlobalGet, GlobalSet, TableGet, TableSet, TableInit, ElemDrop, TableCopy, TableGrow, TableSize, TableFill, Load, Store, MemorySize, MemoryGrow, MemoryInit, DataDrop, MemoryCopy, MemoryFill}
use Rattle.wasm_binary.specs.Faults.{Fault, byte}
use Rattle.wasm_binary.specs.Values.{u32, s32, s64, tag}
use Rattle.wasm_binary.specs.Types.{below, val_type}
use Rattle.wasm_binary.specs.Instructions.{Opcode, Around, is_opcode, one_index, two_indices, memory_argument, index_and_zero, zero_byte, zero_bytes, after_FC, branch_table, select_typed, null_of, constant_32, constant_64, plain}
use Rattle.wasm_binary.proofs.ShapeOfLists.{SpellsOnly, gives_only, then_only, any_only, checked_only, when_only, vec_only, ref_type_only, Any, AllShort}
use Rattle.owi_base.proofs.Choices.{chosen, both_left}

-- it names no sequence and has its shape
abbrev pub IsPlain : Instr → Type 0
IsPlain instr = (named_by instr ≡ []) × InstrHasShape instr

one_index_only : (instr : ℕ → Instr) → ((x : ℕ) → IsPlain (instr x)) → SpellsOnly (one_index instr) IsPlain
one_index_only instr p = then_only Any IsPlain (any_only u32) (λ x any. gives_only IsPlain _ (p x))

two_indices_only : (instr : ℕ → ℕ → Instr) → ((x y : ℕ) → IsPlain (instr x y)) → SpellsOnly (two_indices instr) IsPlain
two_indices_only instr p = then_only Any IsPlain (any_only u32) (λ x any. then_only Any IsPlain (any_only u32) (λ y also. gives_only IsPlain _ (p x y)))

index_and_zero_only : (instr : ℕ → Instr) → ((x : ℕ) → IsPlain (instr x)) → SpellsOnly (index_and_zero instr) IsPlain
index_and_zero_only instr p = then_only Any IsPlain (any_only u32) (λ x any. then_only Any IsPlain (any_only (tag 0)) (λ y also. gives_only IsPlain _ (p x)))

zero_byte_only : (instr : Instr) → IsPlain instr → SpellsOnly (zero_byte instr) IsPlain
zero_byte_only instr p = then_only Any IsPlain (any_only (tag 0)) (λ y also. gives_only IsPlain _ p)

zero_bytes_only : (instr : Instr) → IsPlain instr → SpellsOnly (zero_bytes instr) IsPlain
zero_bytes_only instr p = then_only Any IsPlain (any_only (tag 0)) (λ x any. then_only Any IsPlain (any_only (tag 0)) (λ y also. gives_only IsPlain _ p))

exponent_ok : (n y : ℕ) → below 32 n ≡ Ok y → y < 32
exponent_ok n y e =
    elim (chosen (nat_lt n 32) (let r : Result ℕ (ℕ → Fault) = Ok n in r) (Err byte) (let r : Result ℕ (ℕ → Fault) = Ok y in r) e) [
      | inl is ↦ let test = is.0 in let lt : n < 32 = grind (arith, nat_tests) in let both = is.1 in let same : n ≡ y = cc in omega arith
      | inr other ↦ let both = other.1 in absurd cc
    ]

memory_argument_only : (instr : ℕ → ℕ → Instr) → ((x y : ℕ) → x < 32 → IsPlain (instr x y)) → SpellsOnly (memory_argument instr) IsPlain
memory_argument_only instr p =
    then_only (λ align. align < 32) IsPlain (checked_only u32 (below 32) Any (λ align. align < 32) (any_only u32) (λ n y any e. exponent_ok n y e)) (λ align small.
    then_only Any IsPlain (any_only u32) (λ offset any. gives_only IsPlain _ (p align offset small)))

branch_table_only : SpellsOnly branch_table IsPlain
branch_table_only =
    then_only (AllShort Any) IsPlain (vec_only Any u32 (any_only u32)) (λ labels are.
    then_only Any IsPlain (any_only u32) (λ last any. gives_only IsPlain _ (refl, are.1)))

select_typed_only : SpellsOnly select_typed IsPlain
select_typed_only = then_only (AllShort Any) IsPlain (vec_only Any val_type (any_only val_type)) (λ kinds are. gives_only IsPlain _ (refl, are.1))

null_of_only : SpellsOnly null_of IsPlain
null_of_only = then_only IsReference IsPlain ref_type_only (λ kind is. gives_only IsPlain _ (refl, is))

constant_32_only : SpellsOnly constant_32 IsPlain
constant_32_only = then_only Any IsPlain (any_only s32) (λ z any. gives_only IsPlain _ (refl, tt))

constant_64_only : SpellsOnly constant_64 IsPlain
constant_64_only = then_only Any IsPlain (any_only s64) (λ z any. gives_only IsPlain _ (refl, tt))

after_FC_only : (n : ℕ) → SpellsOnly (after_FC n) IsPlain
unfolding after_FC
after_FC_only n =
    when_only IsPlain (n == 8) _ _ (λ t. index_and_zero_only MemoryInit (λ x. (refl, tt))) (λ n8.
    when_only IsPlain (n == 9) _ _ (λ t. one_index_only DataDrop (λ x. (refl, tt))) (λ n9.
    when_only IsPlain (n == 10) _ _ (λ t. zero_bytes_only MemoryCopy (refl, tt)) (λ n10.
    when_only IsPlain (n == 11) _ _ (λ t. zero_byte_only MemoryFill (refl, tt)) (λ n11.
    when_only IsPlain (n == 12) _ _ (λ t. two_indices_only TableInit (λ x y. (refl, tt))) (λ n12.
    when_only IsPlain (n == 13) _ _ (λ t. one_index_only ElemDrop (λ x. (refl, tt))) (λ n13.
    when_only IsPlain (n == 14) _ _ (λ t. two_indices_only TableCopy (λ x y. (refl, tt))) (λ n14.
    when_only IsPlain (n == 15) _ _ (λ t. one_index_only TableGrow (λ x. (refl, tt))) (λ n15.
    when_only IsPlain (n == 16) _ _ (λ t. one_index_only TableSize (λ x. (refl, tt))) (λ n16.
    one_index_only TableFill (λ x. (refl, tt)))))))))))

-- ---- what is left after all other opcodes is numeric

or_is : (a b : Bool) → (a || b) ≡ true → (a ≡ true) ⊎ (b ≡ true)
or_is true b e = inl refl
or_is false b e = inr e

pub or_not : (a b : Bool) → (a || b) ≡ false → (a ≡ false) × (b ≡ false)
or_not true b e = absurd cc
or_not false b e = (refl, e)

from_is : (low high b : ℕ) → is_from low high b ≡ true → (low ≤ b) × (b ≤ high)
from_is low high b e = (grind (arith, nat_tests), grind (arith, nat_tests))

true_is_not_false : (b : Bool) → b ≡ true → b ≡ false → ⊥
true_is_not_false b e f = cc

-- the byte is none of the others
pub record IsNone (b : ℕ) : Type 0 where
  pub low : 0x05 ≤ b
  pub last : (b == 0x05) ≡ false
  pub end : (b == 0x0B) ≡ false
  pub jumps : 0x0C ≤ b → 0x12 ≤ b
  pub params : 0x1A ≤ b → 0x1D ≤ b
  pub variables : 0x20 ≤ b → 0x27 ≤ b
  pub load : is_load b ≡ false
  pub store : is_store b ≡ false
  pub memory : 0x3F ≤ b → 0x43 ≤ b
  pub refs : 0xD0 ≤ b → 0xD3 ≤ b

-- it isn't the number, so it is above it
up : (b k next : ℕ) → next ≡ k + 1 → (b == k) ≡ false → k ≤ b → next ≤ b
up b k next is none le = let ne : b ≢ k = eqb-false b k none in omega arith

numeric_left : (around : Around) (b : ℕ) → is_opcode around b ≡ true → IsNone b → is_numeric b ≡ true
numeric_left around b e none =
    elim (or_is _ (is_from 0xD0 0xD2 b) e) [
      | inr refs ↦ let r = from_is 0xD0 0xD2 b refs in absurd (omega (arith, none.refs r.0, r.1))
      | inl e1 ↦ elim (or_is _ (is_numeric b) e1) [
        | inr is ↦ is
        | inl e2 ↦ elim (or_is _ (is_from 0x3F 0x42 b) e2) [
          | inr memory ↦ let r = from_is 0x3F 0x42 b memory in absurd (omega (arith, none.memory r.0, r.1))
          | inl e3 ↦ elim (or_is _ (is_store b) e3) [
            | inr store ↦ absurd (true_is_not_false (is_store b) store none.store)
            | inl e4 ↦ elim (or_is _ (is_load b) e4) [
              | inr load ↦ absurd (true_is_not_false (is_load b) load none.load)
              | inl e5 ↦ elim (or_is _ (is_from 0x20 0x26 b) e5) [
                | inr variables ↦ let r = from_is 0x20 0x26 b variables in absurd (omega (arith, none.variables r.0, r.1))
                | inl e6 ↦ elim (or_is _ (is_from 0x1A 0x1C b) e6) [
                  | inr params ↦ let r = from_is 0x1A 0x1C b params in absurd (omega (arith, none.params r.0, r.1))
                  | inl e7 ↦ elim (or_is _ (is_from 0x0B 0x11 b) e7) [
                    | inr jumps ↦
                        let r = from_is 0x0B 0x11 b jumps in
                        let ne : b ≢ 0x0B = eqb-false b 0x0B none.end in
                        let le : 0x0C ≤ b = omega arith in absurd (omega (arith, none.jumps le, r.1))
                    | inl e8 ↦ elim (or_is (is_from 0x00 0x04 b) (b == 0x05 && around.else_may_follow) e8) [
                      | inl low ↦ let r = from_is 0x00 0x04 b low in absurd (omega (arith, none.low, r.1))
                      | inr last ↦ absurd (true_is_not_false (b == 0x05) (both_left (b == 0x05) around.else_may_follow last) none.last)
                    ]
                  ]
                ]
              ]
            ]
          ]
        ]
      ]
    ]

-- an opcode that is allowed, of no control instruction, and no end or else
pub record IsPlainOpcode (around : Around) (op : Opcode) : Type 0 where
  pub known : (is_opcode around op.first ≡ true) ⊎ (op.first ≡ 0xFC)
  pub block : (op.first == 0x02) ≡ false
  pub loop : (op.first == 0x03) ≡ false
  pub choice : (op.first == 0x04) ≡ false
  pub last : (op.first == 0x05) ≡ false
  pub end : (op.first == 0x0B) ≡ false

is_known : (around : Around) (b : ℕ) → (is_opcode around b ≡ true) ⊎ (b ≡ 0xFC) → (b == 0xFC) ≡ false → is_opcode around b ≡ true
is_known around b (inl is) none = is
is_known around b (inr is) none = absurd (eqb-false b 0xFC none is)

pub plain_only : (around : Around) (op : Opcode) → IsPlainOpcode around op → SpellsOnly (plain op) IsPlain
unfolding plain
plain_only around op is =
    let b = op.first in
    when_only IsPlain (b == 0x00) _ _ (λ t. gives_only IsPlain _ (refl, tt)) (λ n00.
    when_only IsPlain (b == 0x01) _ _ (λ t. gives_only IsPlain _ (refl, tt)) (λ n01.
    when_only IsPlain (b == 0x0C) _ _ (λ t. one_index_only Br (λ x. (refl, tt))) (λ n0C.
    when_only IsPlain (b == 0x0D) _ _ (λ t. one_index_only BrIf (λ x. (refl, tt))) (λ n0D.
    when_only IsPlain (b == 0x0E) _ _ (λ t. branch_table_only) (λ n0E.
    when_only IsPlain (b == 0x0F) _ _ (λ t. gives_only IsPlain _ (refl, tt)) (λ n0F.
    when_only IsPlain (b == 0x10) _ _ (λ t. one_index_only Call (λ x. (refl, tt))) (λ n10.
    when_only IsPlain (b == 0x11) _ _ (λ t. two_indices_only CallIndirect (λ x y. (refl, tt))) (λ n11.
    when_only IsPlain (b == 0x1A) _ _ (λ t. gives_only IsPlain _ (refl, tt)) (λ n1A.
    when_only IsPlain (b == 0x1B) _ _ (λ t. gives_only IsPlain _ (refl, tt)) (λ n1B.
    when_only IsPlain (b == 0x1C) _ _ (λ t. select_typed_only) (λ n1C.
    when_only IsPlain (b == 0x20) _ _ (λ t. one_index_only LocalGet (λ x. (refl, tt))) (λ n20.
    when_only IsPlain (b == 0x21) _ _ (λ t. one_index_only LocalSet (λ x. (refl, tt))) (λ n21.
    when_only IsPlain (b == 0x22) _ _ (λ t. one_index_only LocalTee (λ x. (refl, tt))) (λ n22.
    when_only IsPlain (b == 0x23) _ _ (λ t. one_index_only GlobalGet (λ x. (refl, tt))) (λ n23.
    when_only IsPlain (b == 0x24) _ _ (λ t. one_index_only GlobalSet (λ x. (refl, tt))) (λ n24.
    when_only IsPlain (b == 0x25) _ _ (λ t. one_index_only TableGet (λ x. (refl, tt))) (λ n25.
    when_only IsPlain (b == 0x26) _ _ (λ t. one_index_only TableSet (λ x. (refl, tt))) (λ n26.
    when_only IsPlain (is_load b) _ _ (λ t. memory_argument_only (Load b) (λ x y small. (refl, (t, small)))) (λ load.
    when_only IsPlain (is_store b) _ _ (λ t. memory_argument_only (Store b) (λ x y small. (refl, (t, small)))) (λ store.
    when_only IsPlain (b == 0x3F) _ _ (λ t. zero_byte_only MemorySize (refl, tt)) (λ n3F.
    when_only IsPlain (b == 0x40) _ _ (λ t. zero_byte_only MemoryGrow (refl, tt)) (λ n40.
    when_only IsPlain (b == 0x41) _ _ (λ t. constant_32_only) (λ n41.
    when_only IsPlain (b == 0x42) _ _ (λ t. constant_64_only) (λ n42.
    when_only IsPlain (b == 0xD0) _ _ (λ t. null_of_only) (λ nD0.
    when_only IsPlain (b == 0xD1) _ _ (λ t. gives_only IsPlain _ (refl, tt)) (λ nD1.
    when_only IsPlain (b == 0xD2) _ _ (λ t. one_index_only RefFunc (λ x. (refl, tt))) (λ nD2.
    when_only IsPlain (b == 0xFC) _ _ (λ t. after_FC_only op.second) (λ nFC.
    gives_only IsPlain _ (
      refl,
      numeric_left around b (is_known around b is.known nFC) (record {
        low = up b 0x04 0x05 refl is.choice (up b 0x03 0x04 refl is.loop (up b 0x02 0x03 refl is.block (up b 0x01 0x02 refl n01 (up b 0x00 0x01 refl n00 (omega arith)))));
        last = is.last;
        end = is.end;
        jumps = λ le. up b 0x11 0x12 refl n11 (up b 0x10 0x11 refl n10 (up b 0x0F 0x10 refl n0F (up b 0x0E 0x0F refl n0E (up b 0x0D 0x0E refl n0D (up b 0x0C 0x0D refl n0C le)))));
        params = λ le. up b 0x1C 0x1D refl n1C (up b 0x1B 0x1C refl n1B (up b 0x1A 0x1B refl n1A le));
        variables = λ le. up b 0x26 0x27 refl n26 (up b 0x25 0x26 refl n25 (up b 0x24 0x25 refl n24 (up b 0x23 0x24 refl n23 (up b 0x22 0x23 refl n22 (up b 0x21 0x22 refl n21 (up b 0x20 0x21 refl n20 le))))));
        load = load;
        store = store;
        memory = λ le. up b 0x42 0x43 refl n42 (up b 0x41 0x42 refl n41 (up b 0x40 0x41 refl n40 (up b 0x3F 0x40 refl n3F le)));
        refs = λ le. up b 0xD2 0xD3 refl nD2 (up b 0xD1 0xD2 refl nD1 (up b 0xD0 0xD1 refl nD0 le));
      }),
    )))))))))))))))))))))))))))))
