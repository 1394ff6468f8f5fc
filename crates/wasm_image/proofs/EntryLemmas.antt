-- Of exports: the function that one names. Of arguments: their types.
use Rattle.std.proofs.Common.{◌≡◌, ℕ, ◌+◌, ◌<◌, List, [], ◌∷◌, ◌++◌, length, get_or, take, map, refl, sym, ap, ◌∙◌, arith}
use Rattle.std.specs.Prelude.{Some, slice_get}
use Rattle.std.proofs.lemmas.List.{take-map, take_more, map_more}
use Rattle.std.proofs.lemmas.Option.{slice_get_read}
use Rattle.wasm_ast.specs.declared.types.ValType.{ValType}
use Rattle.wasm_ast.specs.declared.runs.Value.{Value}
use Rattle.wasm_ast.specs.declared.modules.Space.TheVariants.{Func as FuncSpace}
use Rattle.wasm_ast.specs.declared.modules.Export.{Export}
use Rattle.wasm_ast.specs.declared.modules.Module.{Module}
use Rattle.wasm_check.specs.declared.sections.Section.TheVariants.{Exports}
use Rattle.wasm_check.specs.Modules.{IsValid}
use Rattle.wasm_image.specs.Entries.{type_of, IsExported}
use Rattle.wasm_image.specs.Functions.{function_count}
use Rattle.wasm_image.specs.Kept.{ExportsFunction}

of_function : List ℕ → ℕ → Export
of_function name f = record { name = name; space = FuncSpace; index = f }

-- ---- the loop over the exports

-- none of the first i exports exports a function by the name
abbrev pub NoneBelow : Module → List ℕ → ℕ → Type 0
NoneBelow m name i = (j : ℕ) (e : Export) → j < i → slice_get m.exports j ≡ Some e → ExportsFunction name e → ⊥

-- in a valid module an export names what is there
pub exported-there : (m : Module) (name : List ℕ) (f : ℕ) → IsValid m → IsExported m name f → f < function_count m
unfolding of_function
exported-there m name f valid e =
    (valid Exports e.0 (of_function name f) (slice_get_read m.exports (length m.exports) e.0 (of_function name f) refl e.1 (sym e.2))).there

-- ---- the loop over the arguments

pub types-more : (values : List Value) (types : List ValType) (i : ℕ) (d : Value) (e : ValType) → i < length values → length values ≡ length types → type_of (get_or values i d) ≡ get_or types i e → take i (map type_of values) ≡ take i types →
    take (i + 1) (map type_of values) ≡ take (i + 1) types
types-more values types i d e lt long same before =
    let lt' : i < length types = omega (arith, lt, long) in
    take-map type_of (i + 1) values
    ∙ map_more type_of values i d lt
    ∙ ap (λ (ts : List ValType). ts ++ type_of (get_or values i d) ∷ []) (sym (take-map type_of i values) ∙ before)
    ∙ ap (λ (t : ValType). take i types ++ t ∷ []) same
    ∙ sym (take_more types i e lt')
