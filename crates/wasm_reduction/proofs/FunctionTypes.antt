-- Types of functions that the test takes as the same are the same.
use Rattle.std.proofs.Common.{◌≡◌, true, List, [], ◌∷◌, refl, ap, ◌∙◌}
use Rattle.std.proofs.lemmas.Bool.{and_parts}
use Rattle.wasm_ast.specs.declared.types.ValType.{ValType}
use Rattle.wasm_ast.specs.declared.types.FuncType.{FuncType}
use Rattle.wasm_check.specs.Operands.{same_type}
use Rattle.wasm_check.proofs.Stacks.{same_type-true, same_type-self}
use Rattle.wasm_reduction.specs.Functions.{same_types, same_function_type}

pub same-types : (ss ts : List ValType) → same_types ss ts ≡ true → ss ≡ ts
same-types [] [] e = refl
same-types [] (t ∷ ts) e = cc
same-types (s ∷ ss) [] e = cc
same-types (s ∷ ss) (t ∷ ts) e =
    let f = and_parts (same_type s t) (same_types ss ts) e in
    ap (λ x. x ∷ ss) (same_type-true s t f.0) ∙ ap (λ l. t ∷ l) (same-types ss ts f.1)

pub same-types-refl : (ts : List ValType) → same_types ts ts ≡ true
same-types-refl [] = refl
same-types-refl (t ∷ ts) = rw (same_type-self t, same-types-refl ts) refl

pub same-function : (s t : FuncType) → same_function_type s t ≡ true → s ≡ t
same-function s t e =
    let f = and_parts (same_types s.params t.params) (same_types s.results t.results) e in
    ap (λ p. record s { params = p }) (same-types s.params t.params f.0) ∙ ap (λ r. record t { results = r }) (same-types s.results t.results f.1)

pub same-function-refl : (t : FuncType) → same_function_type t t ≡ true
same-function-refl t = rw (same-types-refl t.params, same-types-refl t.results) refl
