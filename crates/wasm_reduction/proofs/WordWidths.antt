-- The widths of what operators give, and of the words that accesses test.
use Rattle.std.proofs.Common.{◌≡◌, ℕ, ◌^◌, ◌<◌, refl, sym, subst}
use Rattle.std.specs.Prelude.{IsTrue}
use Rattle.int_ops.specs.Operators.{operator_of, is_unary, is_binary, operand_bits, result_bits}
use Rattle.wasm_rules.specs.Words.{Kind, Gives}
use Rattle.wasm_reduction.specs.Ranges.{ends_past, range_ends_past}

-- ---- operators of known widths

pub record IsBinary (op operand result : ℕ) : Type 0 where
  pub binary : IsTrue (is_binary op)
  pub operand_is : operand_bits op ≡ operand
  pub result_is : result_bits op ≡ result

pub record IsUnary (op operand result : ℕ) : Type 0 where
  pub unary : IsTrue (is_unary op)
  pub operand_is : operand_bits op ≡ operand
  pub result_is : result_bits op ≡ result

pub ge_u : IsBinary 0x4F 32 32
unfolding operator_of
ge_u = record { binary = refl; operand_is = refl; result_is = refl }

pub ne : IsBinary 0x47 32 32
unfolding operator_of
ne = record { binary = refl; operand_is = refl; result_is = refl }

pub gt_u : IsBinary 0x56 64 32
unfolding operator_of
gt_u = record { binary = refl; operand_is = refl; result_is = refl }

pub add : IsBinary 0x7C 64 64
unfolding operator_of
add = record { binary = refl; operand_is = refl; result_is = refl }

pub or : IsBinary 0x72 32 32
unfolding operator_of
or = record { binary = refl; operand_is = refl; result_is = refl }

pub and : IsBinary 0x71 32 32
unfolding operator_of
and = record { binary = refl; operand_is = refl; result_is = refl }

pub eq32 : IsBinary 0x46 32 32
unfolding operator_of
eq32 = record { binary = refl; operand_is = refl; result_is = refl }

pub eq64 : IsBinary 0x51 64 32
unfolding operator_of
eq64 = record { binary = refl; operand_is = refl; result_is = refl }

pub eqz32 : IsUnary 0x45 32 32
unfolding operator_of
eqz32 = record { unary = refl; operand_is = refl; result_is = refl }

pub eqz64 : IsUnary 0x50 64 32
unfolding operator_of
eqz64 = record { unary = refl; operand_is = refl; result_is = refl }

pub extend_u : IsUnary 0xAD 32 64
unfolding operator_of
extend_u = record { unary = refl; operand_is = refl; result_is = refl }

-- ---- what they give

module _ {W : Type 0} (Has : ℕ → W → Type 0) (K : Kind W) (g : Gives K Has) where
  pub binary-has : (op operand result : ℕ) → IsBinary op operand result → (a b : W) → Has operand a → Has operand b → Has result (K.binary op a b)
  binary-has op operand result is a b p q =
      subst (λ n. Has n (K.binary op a b)) is.result_is
      (g.binary op a b is.binary (subst (λ n. Has n a) (sym is.operand_is) p) (subst (λ n. Has n b) (sym is.operand_is) q))

  pub unary-has : (op operand result : ℕ) → IsUnary op operand result → (a : W) → Has operand a → Has result (K.unary op a)
  unary-has op operand result is a p =
      subst (λ n. Has n (K.unary op a)) is.result_is (g.unary op a is.unary (subst (λ n. Has n a) (sym is.operand_is) p))

  pub ends-past-has : (place extent : W) (size : ℕ) → Has 32 place → Has 64 extent → size < 2 ^ 64 → Has 32 (ends_past K place extent size)
  ends-past-has place extent size p q s =
      binary-has 0x56 64 32 gt_u _ _ (binary-has 0x7C 64 64 add _ _ (unary-has 0xAD 32 64 extend_u place p) q) (g.number 64 size s)

  pub range-has : (place count : W) (size : ℕ) → Has 32 place → Has 32 count → size < 2 ^ 64 → Has 32 (range_ends_past K place count size)
  range-has place count size p q s = ends-past-has place (K.unary 0xAD count) size p (unary-has 0xAD 32 64 extend_u count q) s
