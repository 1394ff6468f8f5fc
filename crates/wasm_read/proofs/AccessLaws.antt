-- Of the instructions that hold no others, those without an opcode of their own.
use Rattle.std.proofs.Common.{◌≡◌, ◌≢◌, ℕ, ◌≤◌, true, false, refl, sym, ◌∙◌, arith}
use Rattle.std.proofs.lemmas.Bool.Decides.{nat_tests}
use Rattle.wasm_ast.specs.Opcodes.{is_from}
use Rattle.std.specs.Prelude.{◌==◌}
use Rattle.std.proofs.lemmas.Bool.{ne_eqb}
use Rattle.grammar_forms.specs.Forms.{Window}
use Rattle.wasm_binary.specs.Faults.{Fault}
use Rattle.wasm_binary.specs.Instructions.{plain}
use Rattle.wasm_read.specs.Accesses.{access}

-- a byte that is in none of the ranges that are told apart
pub record IsElsewhere (b : ℕ) : Type 0 where
  pub not_unreachable : b ≢ 0x00
  pub not_nop : b ≢ 0x01
  pub no_branch : is_from 0x0C 0x11 b ≡ false
  pub not_parametric : is_from 0x1A 0x1C b ≡ false
  pub no_variable : is_from 0x20 0x26 b ≡ false
  pub no_constant : is_from 0x3F 0x42 b ≡ false
  pub no_reference : is_from 0xD0 0xD2 b ≡ false
  pub not_more : b ≢ 0xFC

inside : (b low high : ℕ) → low ≤ b → b ≤ high → is_from low high b ≡ true
inside b low high le ge = grind (arith, nat_tests)

true_not_false : true ≡ false → ⊥
true_not_false e = cc

apart : (b low high k : ℕ) → is_from low high b ≡ false → low ≤ k → k ≤ high → (b == k) ≡ false
apart b low high k out le ge = ne_eqb b k (λ e. true_not_false (sym (inside b low high (omega (arith, e)) (omega (arith, e))) ∙ out))

pub plain_access : (b second : ℕ) (w : Window Fault) (at : ℕ) → IsElsewhere b → (plain (record { first = b; second = second })).read w at ≡ (access b).read w at
unfolding plain
plain_access b second w at h =
    let e00 = ne_eqb b 0x00 h.not_unreachable in
    let e01 = ne_eqb b 0x01 h.not_nop in
    let e0C = apart b 0x0C 0x11 0x0C h.no_branch (omega arith) (omega arith) in
    let e0D = apart b 0x0C 0x11 0x0D h.no_branch (omega arith) (omega arith) in
    let e0E = apart b 0x0C 0x11 0x0E h.no_branch (omega arith) (omega arith) in
    let e0F = apart b 0x0C 0x11 0x0F h.no_branch (omega arith) (omega arith) in
    let e10 = apart b 0x0C 0x11 0x10 h.no_branch (omega arith) (omega arith) in
    let e11 = apart b 0x0C 0x11 0x11 h.no_branch (omega arith) (omega arith) in
    let e1A = apart b 0x1A 0x1C 0x1A h.not_parametric (omega arith) (omega arith) in
    let e1B = apart b 0x1A 0x1C 0x1B h.not_parametric (omega arith) (omega arith) in
    let e1C = apart b 0x1A 0x1C 0x1C h.not_parametric (omega arith) (omega arith) in
    let e20 = apart b 0x20 0x26 0x20 h.no_variable (omega arith) (omega arith) in
    let e21 = apart b 0x20 0x26 0x21 h.no_variable (omega arith) (omega arith) in
    let e22 = apart b 0x20 0x26 0x22 h.no_variable (omega arith) (omega arith) in
    let e23 = apart b 0x20 0x26 0x23 h.no_variable (omega arith) (omega arith) in
    let e24 = apart b 0x20 0x26 0x24 h.no_variable (omega arith) (omega arith) in
    let e25 = apart b 0x20 0x26 0x25 h.no_variable (omega arith) (omega arith) in
    let e26 = apart b 0x20 0x26 0x26 h.no_variable (omega arith) (omega arith) in
    let e3F = apart b 0x3F 0x42 0x3F h.no_constant (omega arith) (omega arith) in
    let e40 = apart b 0x3F 0x42 0x40 h.no_constant (omega arith) (omega arith) in
    let e41 = apart b 0x3F 0x42 0x41 h.no_constant (omega arith) (omega arith) in
    let e42 = apart b 0x3F 0x42 0x42 h.no_constant (omega arith) (omega arith) in
    let eD0 = apart b 0xD0 0xD2 0xD0 h.no_reference (omega arith) (omega arith) in
    let eD1 = apart b 0xD0 0xD2 0xD1 h.no_reference (omega arith) (omega arith) in
    let eD2 = apart b 0xD0 0xD2 0xD2 h.no_reference (omega arith) (omega arith) in
    let eFC = ne_eqb b 0xFC h.not_more in
    simp (e00, e01, e0C, e0D, e0E, e0F, e10, e11, e1A, e1B, e1C, e20, e21, e22, e23, e24, e25, e26, e3F, e40, e41, e42, eD0, eD1, eD2, eFC) refl
