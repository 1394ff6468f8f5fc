-- What names and uses of types are at fault with in a written module (Text Format, Modules). The fault that is told is the one
-- of least place.
use Rattle.std.specs.Prelude.{ℕ, nat_le, if◌then◌else◌, List, [], ◌∷◌, ◌++◌, map, drop, flat_map, slice_get, Option, Some, None, is_some, Result, Ok, Err}
use Rattle.wasm_ast.specs.declared.types.FuncType.{FuncType}
use Rattle.wasm_ast.specs.declared.modules.Module.{Module}
use Rattle.wasm_text.specs.declared.bad.TextBad.{TextBad}
use Rattle.wasm_text.specs.declared.bad.TextBad.TheVariants.{Unknown, Twice, Use as UseBad}
use Rattle.wasm_text.specs.declared.named.Id.{Id}
use Rattle.wasm_text.specs.declared.named.Idx.{Idx}
use Rattle.wasm_text.specs.declared.named.Idx.TheVariants.{Numbered, Called}
use Rattle.wasm_text.specs.declared.named.Use.{Use}
use Rattle.wasm_text.specs.declared.named.Written.{Written}
use Rattle.wasm_text.specs.declared.named.Written.TheVariants as written
use Rattle.wasm_text.specs.declared.named.WrittenExpr.{WrittenExpr}
use Rattle.wasm_text.specs.declared.named.WrittenKind.{WrittenKind}
use Rattle.wasm_text.specs.declared.named.WrittenKind.TheVariants as asks
use Rattle.wasm_text.specs.declared.named.WrittenFunc.{WrittenFunc}
use Rattle.wasm_text.specs.declared.named.WrittenExport.{WrittenExport}
use Rattle.wasm_text.specs.declared.named.WrittenStart.{WrittenStart}
use Rattle.wasm_text.specs.declared.named.WrittenMode.{WrittenMode}
use Rattle.wasm_text.specs.declared.named.WrittenMode.TheVariants as when
use Rattle.wasm_text.specs.declared.named.WrittenElem.{WrittenElem}
use Rattle.wasm_text.specs.declared.named.Names.{Names}
use Rattle.wasm_text.specs.declared.named.Named.{Named}
use Rattle.wasm_text.specs.Names.{position_of, position}
use Rattle.wasm_text.specs.Uses.{Types, written_type, is_bare, same_type}
use Rattle.wasm_text.specs.Resolved.{Scope, scope_of, ids_for, ids_in, use_params, inside, module_in}

-- ---- an identifier that isn't defined

abbrev pub unknown_where : Id → Option ℕ → List TextBad
unknown_where id (Some n) = []
unknown_where id None = Unknown id.start ∷ []

abbrev pub unknown : List ℕ → List (Option Id) → Idx → List TextBad
unknown text ids (Numbered n) = []
unknown text ids (Called id) = unknown_where id (position_of text ids id)

-- ---- an identifier that is defined again among these

abbrev pub again : List ℕ → List (Option Id) → Id → List TextBad
again text before id = if is_some (position_of text before id) then Twice id.start ∷ [] else []

abbrev pub twice_after : List ℕ → List (Option Id) → List (Option Id) → List TextBad
twice_after text before [] = []
twice_after text before (None ∷ rest) = twice_after text before rest
twice_after text before (Some id ∷ rest) = again text before id ++ twice_after text (before ++ Some id ∷ []) rest

abbrev pub twice : List ℕ → List (Option Id) → List TextBad
twice text ids = twice_after text [] ids

abbrev pub twice_in_names : List ℕ → Names → List TextBad
twice_in_names text n =
    twice text n.types ++ twice text n.funcs ++ twice text n.tables ++ twice text n.memories ++ twice text n.globals ++ twice text n.elems
    ++ twice text n.segments

-- ---- a use of a type

-- what a use writes, where it writes anything, differs from the type, or that isn't there
abbrev pub differs : Use → Option FuncType → List TextBad
differs u None = UseBad u.at ∷ []
differs u (Some ty) = if same_type (written_type u) ty then [] else UseBad u.at ∷ []

abbrev pub differs_at : Types → Use → Option ℕ → List TextBad
differs_at t u None = []
differs_at t u (Some n) = if is_bare u then [] else differs u (slice_get t.all n)

abbrev pub use_troubles_of : Types → Use → Option Idx → List TextBad
use_troubles_of t u None = []
use_troubles_of t u (Some x) = unknown t.text t.ids x ++ differs_at t u (position t.text t.ids x)

abbrev pub use_troubles : Types → Use → List TextBad
use_troubles t u = use_troubles_of t u u.ty

-- ---- instructions

abbrev pub instr_troubles : Scope → Written → List TextBad
instr_troubles s (written.One i x) = unknown s.types.text (ids_for s i) x
instr_troubles s (written.BrTable labels last) = flat_map (unknown s.types.text []) labels ++ unknown s.types.text [] last
instr_troubles s (written.CallIndirect table ty) = unknown s.types.text s.names.tables table
instr_troubles s (written.TableInit table elem) = unknown s.types.text s.names.tables table ++ unknown s.types.text s.names.elems elem
instr_troubles s (written.TableCopy to from) = unknown s.types.text s.names.tables to ++ unknown s.types.text s.names.tables from
instr_troubles s i = []

abbrev pub expr_troubles : Scope → WrittenExpr → List TextBad
expr_troubles s e = flat_map (λ instrs. flat_map (instr_troubles s) instrs) e.seqs

-- ---- fields

-- params of an import that have one name
abbrev pub import_troubles : Scope → WrittenKind → List TextBad
import_troubles s (asks.Func ty) = twice s.types.text (use_params s ty)
import_troubles s kind = []

abbrev pub func_troubles : Scope → WrittenFunc → List TextBad
func_troubles s f = twice s.types.text (inside s f).locals ++ expr_troubles (inside s f) f.body

abbrev pub export_troubles : Scope → WrittenExport → List TextBad
export_troubles s e = unknown s.types.text (ids_in s.names e.space) e.index

-- the functions of all starts, and each start after the first
abbrev pub start_troubles : Scope → List WrittenStart → List TextBad
start_troubles s starts = flat_map (λ x. unknown s.types.text s.names.funcs x.func) starts ++ map (λ x. Twice x.at) (drop 1 starts)

abbrev pub mode_troubles : Scope → List (Option Id) → WrittenMode → List TextBad
mode_troubles s ids (when.Active x offset) = unknown s.types.text ids x ++ expr_troubles s offset
mode_troubles s ids mode = []

abbrev pub elem_troubles : Scope → WrittenElem → List TextBad
elem_troubles s e = flat_map (expr_troubles s) e.items ++ mode_troubles s s.names.tables e.mode

-- ---- all, and the first

abbrev pub troubles : Scope → Named → List TextBad
troubles s m =
    flat_map (use_troubles s.types) s.uses ++ twice_in_names s.types.text s.names ++ flat_map (λ i. import_troubles s i.kind) m.imports
    ++ flat_map (func_troubles s) m.funcs ++ flat_map (λ g. expr_troubles s g.init) m.globals ++ flat_map (export_troubles s) m.exports
    ++ start_troubles s m.starts ++ flat_map (elem_troubles s) m.elems ++ flat_map (λ d. mode_troubles s s.names.memories d.mode) m.segments

abbrev pub at_of : TextBad → ℕ
at_of (Unknown at) = at
at_of (Twice at) = at
at_of (UseBad at) = at
at_of bad = 0

abbrev pub earlier : TextBad → Option TextBad → Option TextBad
earlier bad None = Some bad
earlier bad (Some other) = if nat_le (at_of bad) (at_of other) then Some bad else Some other

-- the one of least place
abbrev pub least : List TextBad → Option TextBad
least [] = None
least (bad ∷ rest) = earlier bad (least rest)

abbrev pub unless : Module → Option TextBad → Result Module TextBad
unless m None = Ok m
unless m (Some bad) = Err bad

-- what a written module stands for, by the uses of types in the order of the text
abbrev pub resolved : List ℕ → Named → List Use → Result Module TextBad
resolved text m uses = unless (module_in (scope_of text m uses) m) (least (troubles (scope_of text m uses) m))
