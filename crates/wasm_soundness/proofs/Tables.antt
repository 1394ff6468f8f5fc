-- The tables of operators, loads and stores, and their types.
use Rattle.std.proofs.Common.{◌≡◌, ℕ, ◌<◌, Bool, true, false, ◌==◌, IsTrue, List, [], ◌∷◌, Option, Some, None, refl, sym, ap, ◌∙◌, subst, inl, inr, if◌then◌else◌, arith}
use Rattle.std.specs.Prelude.{◌||◌, ◌⊎◌, is_some}
use Rattle.std.specs.List.{AllByRecursion}
use Rattle.std.specs.Option.{option_map_or}
use Rattle.std.proofs.lemmas.Bool.{eqb-true}
use Rattle.std.proofs.lemmas.Bool.Decides.{nat_tests}
use Rattle.wasm_ast.specs.Opcodes as classes
use Rattle.wasm_ast.specs.declared.types.ValType.{ValType}
use Rattle.wasm_ast.specs.declared.types.ValType.TheVariants.{I32 as I32Type, I64 as I64Type}
use Rattle.wasm_ast.specs.declared.types.FuncType.{FuncType}
use Rattle.int_ops.specs.declared.operators.Operation.{Operation}
use Rattle.int_ops.specs.declared.operators.Operation.TheVariants.{OfOne, OfTwo}
use Rattle.int_ops.specs.declared.operators.Operator.{Operator}
use Rattle.int_ops.specs.Operators.{operators, find_operator, operator_of, is_unary, is_binary, is_of_one, is_of_two}
use Rattle.wasm_rules.specs.declared.accesses.Access.{Access}
use Rattle.wasm_rules.specs.Accesses.{loads, stores, find_access, load_of, store_of}
use Rattle.wasm_rules.proofs.ClassLemmas.{unary_classes, binary_classes, load_classes, store_classes}
use Rattle.wasm_check.specs.Operators.{arrow, operator_type, accessed_type}
use Rattle.wasm_reduction.specs.Numeric.{is_wide}

-- the type of a number, of 64 bits where wide
abbrev pub number_type : Bool → ValType
number_type false = I32Type
number_type true = I64Type

-- ---- rows

found-row : {A : Type 0} (find : ℕ → List (ℕ × A) → Option A) (P : ℕ → A → Type 0) → ((op : ℕ) → find op [] ≡ None) →
    ((op : ℕ) (row : ℕ × A) (rest : List (ℕ × A)) → find op (row ∷ rest) ≡ (if op == row.0 then Some row.1 else find op rest)) →
    (rows : List (ℕ × A)) → AllByRecursion (λ row. P row.0 row.1) rows → (op : ℕ) (x : A) → find op rows ≡ Some x → P op x
found-row find P none some [] h op x e = absurd (let f : None ≡ Some x = sym (none op) ∙ e in cc)
found-row find P none some (row ∷ rest) h op x e = go (found-row find P none some rest h.1 op x) (op == row.0) refl (sym (some op row rest) ∙ e)
  where
    go : (find op rest ≡ Some x → P op x) → (b : Bool) → (op == row.0) ≡ b → (if b then Some row.1 else find op rest) ≡ Some x → P op x
    go later true t f = let same : row.1 ≡ x = cc in subst (λ op. P op x) (sym (eqb-true op row.0 t)) (subst (P row.0) same h.0)
    go later false t f = later f

operator-row : (P : ℕ → Operator → Type 0) → AllByRecursion (λ row. P row.0 row.1) operators → (op : ℕ) (o : Operator) → operator_of op ≡ Some o → P op o
unfolding operator_of
operator-row P h op o e = found-row find_operator P (λ op. refl) (λ op row rest. refl) operators h op o e

load-row : (P : ℕ → Access → Type 0) → AllByRecursion (λ row. P row.0 row.1) loads → (op : ℕ) (a : Access) → load_of op ≡ Some a → P op a
unfolding load_of
load-row P h op a e = found-row find_access P (λ op. refl) (λ op row rest. refl) loads h op a e

store-row : (P : ℕ → Access → Type 0) → AllByRecursion (λ row. P row.0 row.1) stores → (op : ℕ) (a : Access) → store_of op ≡ Some a → P op a
unfolding store_of
store-row P h op a e = found-row find_access P (λ op. refl) (λ op row rest. refl) stores h op a e

-- ---- operators

abbrev pub operator_arrow : Operator → Operation → FuncType
operator_arrow o (OfOne operation) = arrow (number_type (is_wide o.operand) ∷ []) (number_type (is_wide o.result) ∷ [])
operator_arrow o (OfTwo operation) = arrow (number_type (is_wide o.operand) ∷ number_type (is_wide o.operand) ∷ []) (number_type (is_wide o.result) ∷ [])

abbrev HasArrow : ℕ → Operator → Type 0
HasArrow op o = operator_type op ≡ Some (operator_arrow o o.operation)

arrows : AllByRecursion (λ row. HasArrow row.0 row.1) operators
arrows = (refl, (refl, (refl, (refl, (refl, (refl, (refl, (refl, (refl, (refl, (refl, (refl, (refl, (refl, (refl, (refl, (refl, (refl, (refl, (refl, (refl, (refl, (refl, (refl, (refl, (refl, (refl, (refl, (refl, (refl, (refl, (refl, (refl, (refl, (refl, (refl, (refl, (refl, (refl, (refl, (refl, (refl, (refl, (refl, (refl, (refl, (refl, (refl, (refl, (refl, (refl, (refl, (refl, (refl, (refl, (refl, (refl, (refl, (refl, (refl, (refl, (refl, (refl, (refl, (refl, (refl, tt))))))))))))))))))))))))))))))))))))))))))))))))))))))))))))))))))

pub operator-type : (op : ℕ) (o : Operator) → operator_of op ≡ Some o → operator_type op ≡ Some (operator_arrow o o.operation)
operator-type op o e = operator-row HasArrow arrows op o e

there : {A : Type 0} (o : Option A) → is_some o ≡ true → (x : A) × (o ≡ Some x)
there None e = absurd cc
there (Some x) e = (x, refl)

either : (a b : Bool) → IsTrue (a || b) → (IsTrue a) ⊎ (IsTrue b)
either true b h = inl refl
either false b h = inr h

numeric-small : (op : ℕ) → IsTrue (classes.is_numeric op) → op < 256
numeric-small op h = grind (arith, nat_tests, h)

operator-there : (op : ℕ) → (o : Option Operator) → operator_of op ≡ o → IsTrue (classes.is_numeric op) → (x : Operator) × (o ≡ Some x)
operator-there op (Some x) e h = (x, refl)
operator-there op None e h =
    let small = numeric-small op h in
    elim (either (classes.is_unary op) (classes.is_binary op) h) [
      | inl u ↦ absurd (let t : is_unary op ≡ true = sym (unary_classes op small) ∙ u in let f : is_unary op ≡ false = ap (λ o. option_map_or (λ o. is_of_one o.operation) o false) e in let both : true ≡ false = sym t ∙ f in cc)
      | inr u ↦ absurd (let t : is_binary op ≡ true = sym (binary_classes op small) ∙ u in let f : is_binary op ≡ false = ap (λ o. option_map_or (λ o. is_of_two o.operation) o false) e in let both : true ≡ false = sym t ∙ f in cc)
    ]

pub operator-is : (op : ℕ) → IsTrue (classes.is_numeric op) → (x : Operator) × (operator_of op ≡ Some x)
operator-is op h = operator-there op (operator_of op) refl h

-- ---- loads and stores

abbrev HasAccessed : ℕ → Access → Type 0
HasAccessed op a = accessed_type op ≡ number_type a.wide

load-small : (op : ℕ) → IsTrue (classes.is_load op) → op < 256
load-small op h = grind (arith, nat_tests, h)

store-small : (op : ℕ) → IsTrue (classes.is_store op) → op < 256
store-small op h = grind (arith, nat_tests, h)

pub load-is : (op : ℕ) → IsTrue (classes.is_load op) → (a : Access) × (load_of op ≡ Some a)
load-is op h = there (load_of op) (sym (load_classes op (load-small op h)) ∙ h)

pub store-is : (op : ℕ) → IsTrue (classes.is_store op) → (a : Access) × (store_of op ≡ Some a)
store-is op h = there (store_of op) (sym (store_classes op (store-small op h)) ∙ h)

pub load-type : (op : ℕ) (a : Access) → load_of op ≡ Some a → accessed_type op ≡ number_type a.wide
load-type op a e = load-row HasAccessed (refl, (refl, (refl, (refl, (refl, (refl, (refl, (refl, (refl, (refl, (refl, (refl, tt)))))))))))) op a e

pub store-type : (op : ℕ) (a : Access) → store_of op ≡ Some a → accessed_type op ≡ number_type a.wide
store-type op a e = store-row HasAccessed (refl, (refl, (refl, (refl, (refl, (refl, (refl, tt))))))) op a e
