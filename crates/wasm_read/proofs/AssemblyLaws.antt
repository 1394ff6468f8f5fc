-- From all sections to the module.
use Rattle.std.proofs.Common.{◌≡◌, ℕ, zero, suc, ◌+◌, ◌-◌, ◌≤◌, false, List, [], ◌∷◌, map, refl, sym, ap, ◌∙◌, arith, inl, inr}
use Rattle.std.specs.Prelude.{◌==◌, min}
use Rattle.std.specs.List.{zip}
use Rattle.std.proofs.lemmas.Bool.{ne_eqb, cases_lt}
use Rattle.wasm_ast.specs.Sections.{is_written}
use Rattle.wasm_ast.specs.declared.modules.Func.{Func}
use Rattle.wasm_ast.specs.declared.modules.Module.{Module}
use Rattle.wasm_binary.specs.Locals.{Code}
use Rattle.wasm_binary.specs.Modules.{funcs_of, last_written}
use Rattle.owi_base.proofs.Choices.{passed}

abbrev pub func_of : ℕ × Code → Func
func_of p = record { ty = p.0; locals = p.1.locals; body = p.1.body }

-- types and codes in pairs
pub funcs_are : (types : List ℕ) (codes : List Code) → map func_of (zip types codes) ≡ funcs_of types codes
funcs_are [] codes = refl
funcs_are (ty ∷ types) [] = refl
funcs_are (ty ∷ types) (c ∷ codes) = ap (λ fs. func_of (ty, c) ∷ fs) (funcs_are types codes)

-- the slots end with 12
not_written : (m : Module) (slot : ℕ) → 13 ≤ slot → is_written m slot ≡ false
not_written m slot le =
    let e1 : (slot == 1) ≡ false = ne_eqb slot 1 (omega arith) in
    let e2 : (slot == 2) ≡ false = ne_eqb slot 2 (omega arith) in
    let e3 : (slot == 3) ≡ false = ne_eqb slot 3 (omega arith) in
    let e4 : (slot == 4) ≡ false = ne_eqb slot 4 (omega arith) in
    let e5 : (slot == 5) ≡ false = ne_eqb slot 5 (omega arith) in
    let e6 : (slot == 6) ≡ false = ne_eqb slot 6 (omega arith) in
    let e7 : (slot == 7) ≡ false = ne_eqb slot 7 (omega arith) in
    let e8 : (slot == 8) ≡ false = ne_eqb slot 8 (omega arith) in
    let e9 : (slot == 9) ≡ false = ne_eqb slot 9 (omega arith) in
    let e10 : (slot == 10) ≡ false = ne_eqb slot 10 (omega arith) in
    let e11 : (slot == 11) ≡ false = ne_eqb slot 11 (omega arith) in
    let e12 : (slot == 12) ≡ false = ne_eqb slot 12 (omega arith) in
    rw (e1, e2, e3, e4, e5, e6, e7, e8, e9, e10, e11, e12) refl

past_all : (m : Module) (more : ℕ) → last_written m (more + 12) ≡ last_written m 12
past_all m zero = let same : 0 + 12 ≡ 12 = omega arith in ap (last_written m) same
past_all m (suc more) =
    let next : suc more + 12 ≡ suc (more + 12) = omega arith in
    ap (last_written m) next
    ∙ passed (is_written m (suc (more + 12))) (suc (more + 12)) (last_written m (more + 12)) (not_written m (suc (more + 12)) (omega arith))
    ∙ past_all m more

-- the last slot that is written, of any
pub last_of_any : (m : Module) (slot capped : ℕ) → capped ≡ min slot 12 → last_written m capped ≡ last_written m slot
last_of_any m slot capped is =
    elim (cases_lt 12 slot) [
      | inl past ↦
          let top : capped ≡ 12 = omega arith in
          let whole : (slot - 12) + 12 ≡ slot = omega arith in
          ap (last_written m) top ∙ sym (past_all m (slot - 12)) ∙ ap (last_written m) whole
      | inr le ↦ ap (last_written m) (let same : capped ≡ slot = omega arith in same)
    ]

pub written_before : (m : Module) (slot before : ℕ) → 1 ≤ slot → is_written m slot ≡ false → before ≡ last_written m (slot - 1) → before ≡ last_written m slot
written_before m zero before le w is = absurd (omega arith)
written_before m (suc k) before le w is =
    let same : suc k - 1 ≡ k = omega arith in
    is ∙ ap (last_written m) same ∙ sym (passed (is_written m (suc k)) (suc k) (last_written m k) w)
