-- Identifiers of one space, with the text in which they stand.
use Rattle.std.specs.Prelude.{ℕ, ◌+◌, if◌then◌else◌, List, [], ◌∷◌, ◌++◌, flat_map, Option, Some, None}
use Rattle.wasm_ast.specs.declared.types.ValType.{ValType}
use Rattle.wasm_ast.specs.declared.modules.Group.{Group}
use Rattle.wasm_text.specs.declared.bad.TextBad.{TextBad}
use Rattle.wasm_text.specs.declared.named.Id.{Id}
use Rattle.wasm_text.specs.Resolved.{Scope}
use Rattle.wasm_text.specs.declared.named.Named.{Named}
use Rattle.wasm_text.specs.NameTroubles.{again, import_troubles, func_troubles, expr_troubles, export_troubles, start_troubles, elem_troubles, mode_troubles}
use Rattle.wasm_text.specs.Uses.{same_kind}

pub record Ids : Type 0 where
  pub text : List ℕ
  pub ids : List (Option Id)

-- the trouble of one more, where it has an identifier that stands before
abbrev pub again_of : List ℕ → List (Option Id) → Option Id → List TextBad
again_of text before None = []
again_of text before (Some id) = again text before id

-- the same scope with these locals
abbrev pub with_locals : Scope → List (Option Id) → Scope
with_locals s ids = record s { locals = ids }

-- the groups after these and a last one, with one more local
abbrev pub with_last : List Group → Group → ValType → List Group
with_last done g kind = if same_kind g.kind kind then done ++ record { count = g.count + 1; kind = g.kind } ∷ [] else done ++ g ∷ record { count = 1; kind = kind } ∷ []

-- what the fields are at fault with, uses and definitions aside
abbrev pub field_troubles : Scope → Named → List TextBad
field_troubles s m =
    flat_map (λ i. import_troubles s i.kind) m.imports ++ flat_map (func_troubles s) m.funcs ++ flat_map (λ g. expr_troubles s g.init) m.globals
    ++ flat_map (export_troubles s) m.exports ++ start_troubles s m.starts ++ flat_map (elem_troubles s) m.elems
    ++ flat_map (λ d. mode_troubles s s.names.memories d.mode) m.segments
