-- What is kept of the context of a body is the context.
use Rattle.std.proofs.Common.{◌≡◌, ℕ, List, ◌++◌, length, get_or, ap, ◌∙◌, subst}
use Rattle.std.specs.Prelude.{Bool, false, ◌&&◌, nat_lt, Option, Some, None, MatchOption, slice_get}
use Rattle.std.proofs.Math.Path.{fun_ext}
use Rattle.wasm_ast.specs.declared.types.ValType.{ValType}
use Rattle.wasm_ast.specs.declared.types.FuncType.{FuncType}
use Rattle.wasm_ast.specs.declared.modules.Func.{Func}
use Rattle.wasm_ast.specs.declared.modules.Module.{Module}
use Rattle.wasm_check.specs.declared.spaces.Spaces.{Spaces}
use Rattle.wasm_check.specs.Contexts.{Context, funcs_of, tables_of, memories_of, globals_of, is_declared, locals_of, context_of}
use Rattle.wasm_check.specs.Faults.{BodyFailsAt}
use Rattle.wasm_check.specs.code.Kept.{context, kept_of}
use Rattle.wasm_check.specs.Modules.{BodyIsValid}
use Rattle.wasm_check.specs.code.Progress.{BodyPasses, BodyStopsAt}
use Rattle.wasm_check.specs.Spaces.{AreSpacesOf}
use Rattle.wasm_check.specs.code.Sections.{AreDeclared}

pub context-of : (m : Module) (spaces : Spaces) (flags : List Bool) (f : Func) (type : FuncType) (locals : List ValType) → AreSpacesOf m spaces → AreDeclared m (length (funcs_of m)) flags → locals ≡ locals_of f.locals →
    context (kept_of m spaces flags type locals) ≡ context_of m f type
context-of m spaces flags f type locals are declared same =
    let test : (λ (x : ℕ). get_or flags x false) ≡ (λ (x : ℕ). nat_lt x (length (funcs_of m)) && is_declared m x) = fun_ext declared in
    let start : Context = context (kept_of m spaces flags type locals) in
    ap (λ fs. record start { funcs = fs }) are.funcs
    ∙ ap (λ ts. record start { funcs = funcs_of m; tables = ts }) are.tables
    ∙ ap (λ ms. record start { funcs = funcs_of m; tables = tables_of m; memories = ms }) are.memories
    ∙ ap (λ gs. record start { funcs = funcs_of m; tables = tables_of m; memories = memories_of m; globals = gs }) are.globals
    ∙ ap (λ (d : ℕ → Bool). record start { funcs = funcs_of m; tables = tables_of m; memories = memories_of m; globals = globals_of m; declared = d }) test
    ∙ ap (λ ls. record (context_of m f type) { locals = type.params ++ ls }) same

-- what is found of a body in its context is found of the function
pub found-of : (m : Module) (f : Func) (type : FuncType) (C : Context) (r : Option ℕ) → slice_get m.types f.ty ≡ Some type → C ≡ context_of m f type → MatchOption r (BodyPasses C f.body) (BodyStopsAt C f.body) →
    MatchOption r (BodyIsValid m f) (BodyFailsAt m f)
found-of m f type C None has e h =
    let p : BodyPasses (context_of m f type) f.body = subst (λ C. BodyPasses C f.body) e h in
    record { type = type; has_type = has; tree = p.0; is_tree = p.1; typed = p.2 }
found-of m f type C (Some at) has e h =
    let p : BodyStopsAt (context_of m f type) f.body at = subst (λ C. BodyStopsAt C f.body at) e h in
    record { type = type; has_type = has; tree = p.0; is_tree = p.1; first = p.2 }
