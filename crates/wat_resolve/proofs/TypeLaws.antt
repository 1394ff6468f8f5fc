-- Function types are equal where their words are.
use Rattle.std.proofs.Common.{◌≡◌, ◌∙◌, ℕ, suc, Bool, true, false, List, [], ◌∷◌, ◌++◌, length, map, Option, Some, refl, sym, ap, ap₂}
use Rattle.std.specs.Prelude.{if◌then◌else◌, option_map, bytes_eq, ◌&&◌}
use Rattle.wasm_ast.specs.declared.types.ValType.{ValType}
use Rattle.wasm_ast.specs.declared.types.ValType.TheVariants.{I32, I64, FuncRef, ExternRef}
use Rattle.wasm_ast.specs.declared.types.FuncType.{FuncType}
use Rattle.wasm_text.specs.declared.named.Local.{Local}
use Rattle.wasm_text.specs.Uses.{same_kind, same_kinds, same_type, type_position}
use Rattle.wat_resolve.specs.code.Firsts.{first_at, kind_code, type_word, type_words}

-- equal types begin equal words where what follows is equal
kind_first : (a b : ValType) (xs ys : List ℕ) → bytes_eq (kind_code a ∷ xs) (kind_code b ∷ ys) ≡ same_kind b a && bytes_eq xs ys
kind_first I32 I32 xs ys = refl
kind_first I32 I64 xs ys = refl
kind_first I32 FuncRef xs ys = refl
kind_first I32 ExternRef xs ys = refl
kind_first I64 I32 xs ys = refl
kind_first I64 I64 xs ys = refl
kind_first I64 FuncRef xs ys = refl
kind_first I64 ExternRef xs ys = refl
kind_first FuncRef I32 xs ys = refl
kind_first FuncRef I64 xs ys = refl
kind_first FuncRef FuncRef xs ys = refl
kind_first FuncRef ExternRef xs ys = refl
kind_first ExternRef I32 xs ys = refl
kind_first ExternRef I64 xs ys = refl
kind_first ExternRef FuncRef xs ys = refl
kind_first ExternRef ExternRef xs ys = refl

and_assoc : (a b c : Bool) → a && (b && c) ≡ (a && b) && c
and_assoc true b c = refl
and_assoc false b c = refl

kind_end : (a : ValType) (xs ys : List ℕ) → bytes_eq (kind_code a ∷ xs) (4 ∷ ys) ≡ false
kind_end I32 xs ys = refl
kind_end I64 xs ys = refl
kind_end FuncRef xs ys = refl
kind_end ExternRef xs ys = refl

end_kind : (a : ValType) (xs ys : List ℕ) → bytes_eq (4 ∷ ys) (kind_code a ∷ xs) ≡ false
end_kind I32 xs ys = refl
end_kind I64 xs ys = refl
end_kind FuncRef xs ys = refl
end_kind ExternRef xs ys = refl

results_equal : (rs ss : List ValType) → bytes_eq (map kind_code rs) (map kind_code ss) ≡ same_kinds ss rs
results_equal [] [] = refl
results_equal [] (s ∷ ss) = refl
results_equal (r ∷ rs) [] = refl
results_equal (r ∷ rs) (s ∷ ss) = kind_first r s (map kind_code rs) (map kind_code ss) ∙ ap (λ b. same_kind s r && b) (results_equal rs ss)

lists_equal : (ps qs rs ss : List ValType) → bytes_eq (map kind_code ps ++ 4 ∷ map kind_code rs) (map kind_code qs ++ 4 ∷ map kind_code ss) ≡ same_kinds qs ps && same_kinds ss rs
lists_equal [] [] rs ss = results_equal rs ss
lists_equal [] (q ∷ qs) rs ss = end_kind q (map kind_code qs ++ 4 ∷ map kind_code ss) (map kind_code rs)
lists_equal (p ∷ ps) [] rs ss = kind_end p (map kind_code ps ++ 4 ∷ map kind_code rs) (map kind_code ss)
lists_equal (p ∷ ps) (q ∷ qs) rs ss =
    kind_first p q (map kind_code ps ++ 4 ∷ map kind_code rs) (map kind_code qs ++ 4 ∷ map kind_code ss)
    ∙ ap (λ b. same_kind q p && b) (lists_equal ps qs rs ss) ∙ and_assoc (same_kind q p) (same_kinds qs ps) (same_kinds ss rs)

pub words_equal : (a b : FuncType) → bytes_eq (type_word b) (type_word a) ≡ same_type a b
words_equal a b = lists_equal b.params a.params b.results a.results

pub type_is_first : (ty : FuncType) (types : List FuncType) → type_position ty types ≡ first_at (type_words types) (type_word ty)
type_is_first ty [] = refl
type_is_first ty (other ∷ rest) =
    ap₂ (λ (b : Bool) (p : Option ℕ). if b then Some 0 else option_map suc p) (sym (words_equal ty other)) (type_is_first ty rest)

pub length_words : (types : List FuncType) → length (type_words types) ≡ length types
length_words [] = refl
length_words (x ∷ rest) = ap suc (length_words rest)

-- ---- lists of different lengths

suc_apart : (a b : List ValType) (x y : ValType) → (length (x ∷ a) ≡ length (y ∷ b) → ⊥) → length a ≡ length b → ⊥
suc_apart a b x y apart e = apart (ap suc e)

and_false : (b : Bool) → b && false ≡ false
and_false true = refl
and_false false = refl

pub lengths_apart : (a b : List ValType) → (length a ≡ length b → ⊥) → same_kinds a b ≡ false
lengths_apart [] [] apart = absurd (apart refl)
lengths_apart [] (y ∷ b) apart = refl
lengths_apart (x ∷ a) [] apart = refl
lengths_apart (x ∷ a) (y ∷ b) apart = ap (λ c. same_kind x y && c) (lengths_apart a b (suc_apart a b x y apart)) ∙ and_false (same_kind x y)

length_kinds : (locals : List Local) → length (map (λ (p : Local). p.kind) locals) ≡ length locals
length_kinds [] = refl
length_kinds (x ∷ rest) = ap suc (length_kinds rest)

pub params_apart : (locals : List Local) (kinds : List ValType) → (length locals ≡ length kinds → ⊥) → same_kinds (map (λ p. p.kind) locals) kinds ≡ false
params_apart locals kinds apart = lengths_apart (map (λ (p : Local). p.kind) locals) kinds (λ e. apart (sym (length_kinds locals) ∙ e))
