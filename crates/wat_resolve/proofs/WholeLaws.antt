-- What is found of a whole module.
use Rattle.std.proofs.Common.{◌≡◌, ◌∙◌, ℕ, List, map, Option, Some, None, sym, ap, subst}
use Rattle.std.specs.Prelude.{[], flat_map, Ok, Err}
use Rattle.wasm_ast.specs.declared.modules.Module.{Module}
use Rattle.wasm_text.specs.declared.bad.TextBad.{TextBad}
use Rattle.wasm_text.specs.declared.named.Named.{Named}
use Rattle.wasm_text.specs.declared.named.Use.{Use}
use Rattle.wasm_ast.specs.declared.modules.Group.{Group}
use Rattle.wasm_ast.specs.declared.modules.Func.{Func}
use Rattle.wasm_ast.specs.declared.instructions.Expr.{Expr}
use Rattle.wasm_text.specs.declared.named.Id.{Id}
use Rattle.wasm_text.specs.declared.named.Local.{Local}
use Rattle.wasm_text.specs.declared.named.WrittenFunc.{WrittenFunc}
use Rattle.wasm_text.specs.declared.named.Idx.{Idx}
use Rattle.wasm_text.specs.declared.named.Written.{Written}
use Rattle.wasm_text.specs.declared.named.Written.TheVariants.{BrTable}
use Rattle.wasm_text.specs.Resolved.{Scope, scope_of, module_in, func_of, inside, use_type, groups_of, expr_of}
use Rattle.wasm_text.specs.NameTroubles.{unknown, instr_troubles, troubles, unless, resolved}
use Rattle.wat_resolve.specs.code.Noting.{noted}
use Rattle.wat_resolve.specs.code.Spaces.{with_locals}
use Rattle.wat_resolve.proofs.NotingLaws.{noted_append, noted_least}

module _ (text bytes : List ℕ) (named : Named) (uses : List Use) where
  pub resolved_ok : (m : Module) (found : Option TextBad) → bytes ≡ text → m ≡ module_in (scope_of bytes named uses) named → found ≡ noted (troubles (scope_of bytes named uses) named) None → found ≡ None
      → resolved text named uses ≡ Ok m
  resolved_ok m found same is noticed none =
      ap (λ t. resolved t named uses) (sym same)
      ∙ ap (λ l. unless (module_in (scope_of bytes named uses) named) l) (sym (noted_least (troubles (scope_of bytes named uses) named)) ∙ sym noticed ∙ none) ∙ ap (λ x. Ok x) (sym is)

  pub resolved_err : (bad : TextBad) (found : Option TextBad) → bytes ≡ text → found ≡ noted (troubles (scope_of bytes named uses) named) None → found ≡ Some bad
      → resolved text named uses ≡ Err bad
  resolved_err bad found same noticed is =
      ap (λ t. resolved t named uses) (sym same)
      ∙ ap (λ l. unless (module_in (scope_of bytes named uses) named) l) (sym (noted_least (troubles (scope_of bytes named uses) named)) ∙ sym noticed ∙ is)

same_func : (t u : ℕ) (ls ms : List Group) (b c : Expr) → t ≡ u → ls ≡ ms → b ≡ c → (let f : Func = record { ty = t; locals = ls; body = b } in f) ≡ record { ty = u; locals = ms; body = c }
same_func t u ls ms b c e f g = cc

pub func_made : (scope : Scope) (ids : List (Option Id)) (s : Scope) (f : WrittenFunc) (own : Scope) (ty : ℕ) (locals : List Group) (body : Expr) → with_locals scope ids ≡ s
    → own ≡ inside scope f → ty ≡ use_type scope f.ty → locals ≡ groups_of (map (λ (l : Local). l.kind) f.locals) → body ≡ expr_of own f.body
    → (let g : Func = record { ty = ty; locals = locals; body = body } in g) ≡ func_of s f
func_made scope ids s f own ty locals body view o a b e =
    subst (λ (t : Scope). (let g : Func = record { ty = ty; locals = locals; body = body } in g) ≡ func_of t f) view
    (same_func ty (use_type scope f.ty) locals (groups_of (map (λ (l : Local). l.kind) f.locals)) body (expr_of (inside scope f) f.body) a b (e ∙ ap (λ (t : Scope). expr_of t f.body) o))

pub labels_noted : (s : Scope) (labels xs : List Idx) (last : Idx) (i : Written) (old mid new : Option TextBad) → i ≡ BrTable labels last → xs ≡ labels
    → mid ≡ noted (flat_map (λ x. unknown s.types.text [] x) xs) old → new ≡ noted (unknown s.types.text [] last) mid → new ≡ noted (instr_troubles s i) old
labels_noted s labels xs last i old mid new is same first then =
    then ∙ ap (λ f. noted (unknown s.types.text [] last) f) (first ∙ ap (λ (ys : List Idx). noted (flat_map (λ x. unknown s.types.text [] x) ys) old) same)
    ∙ sym (noted_append (flat_map (λ x. unknown s.types.text [] x) labels) (unknown s.types.text [] last) old)
    ∙ ap (λ (j : Written). noted (instr_troubles s j) old) (sym is)
