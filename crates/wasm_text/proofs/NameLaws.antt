-- What names and uses are at fault with is never want of memory.
use Rattle.std.proofs.Common.{◌≡◌, ℕ, Bool, true, false, List, [], ◌∷◌, ◌++◌, Option, Some, None, refl}
use Rattle.std.specs.Prelude.{flat_map, map, drop, slice_get, nat_le, is_some, if◌then◌else◌}
use Rattle.wasm_ast.specs.declared.types.FuncType.{FuncType}
use Rattle.wasm_text.specs.declared.bad.TextBad.{TextBad}
use Rattle.wasm_text.specs.declared.bad.TextBad.TheVariants.{Twice, Use as UseBad}
use Rattle.wasm_text.specs.declared.named.Id.{Id}
use Rattle.wasm_text.specs.declared.named.Idx.{Idx}
use Rattle.wasm_text.specs.declared.named.Idx.TheVariants.{Numbered, Called}
use Rattle.wasm_text.specs.declared.named.Use.{Use}
use Rattle.wasm_text.specs.declared.named.Written.{Written}
use Rattle.wasm_text.specs.declared.named.Written.TheVariants as written
use Rattle.wasm_text.specs.declared.named.WrittenExpr.{WrittenExpr}
use Rattle.wasm_text.specs.declared.named.WrittenKind.{WrittenKind}
use Rattle.wasm_text.specs.declared.named.WrittenKind.TheVariants as asks
use Rattle.wasm_text.specs.declared.named.WrittenFunc.{WrittenFunc}
use Rattle.wasm_text.specs.declared.named.WrittenStart.{WrittenStart}
use Rattle.wasm_text.specs.declared.named.WrittenMode.{WrittenMode}
use Rattle.wasm_text.specs.declared.named.WrittenMode.TheVariants as when
use Rattle.wasm_text.specs.declared.named.WrittenElem.{WrittenElem}
use Rattle.wasm_text.specs.declared.named.Names.{Names}
use Rattle.wasm_text.specs.declared.named.Named.{Named}
use Rattle.wasm_text.specs.Names.{position_of, position}
use Rattle.wasm_text.specs.Uses.{Types, written_type, is_bare, same_type}
use Rattle.wasm_text.specs.Resolved.{Scope, ids_for, ids_in, use_params, inside}
use Rattle.wasm_text.specs.NameTroubles.{unknown_where, unknown, again, twice_after, twice, twice_in_names, differs, differs_at, use_troubles_of, use_troubles, instr_troubles, expr_troubles, import_troubles, func_troubles, export_troubles, start_troubles, mode_troubles, elem_troubles, troubles, at_of, earlier, least}
use Rattle.wasm_text.proofs.FormLaws.{is_memory}

abbrev pub AreTold : List TextBad → Type 0
AreTold [] = Unit {0}
AreTold (bad ∷ rest) = (is_memory bad ≡ false) × AreTold rest

abbrev pub IsTold : Option TextBad → Type 0
IsTold None = Unit {0}
IsTold (Some bad) = is_memory bad ≡ false

-- ---- lists

both : (xs ys : List TextBad) → AreTold xs → AreTold ys → AreTold (xs ++ ys)
both [] ys p q = q
both (x ∷ xs) ys p q = (p.0, both xs ys p.1 q)

each : {A : Type 0} (f : A → List TextBad) (xs : List A) → ((x : A) → AreTold (f x)) → AreTold (flat_map f xs)
each f [] p = tt
each f (x ∷ xs) p = both (f x) (flat_map f xs) (p x) (each f xs p)

when_told : (b : Bool) (xs ys : List TextBad) → AreTold xs → AreTold ys → AreTold (if b then xs else ys)
when_told true xs ys p q = p
when_told false xs ys p q = q

earlier_told : (b : Bool) (bad other : TextBad) → is_memory bad ≡ false → is_memory other ≡ false → IsTold (if b then Some bad else Some other)
earlier_told true bad other p q = p
earlier_told false bad other p q = q

of_two : (bad : TextBad) (other : Option TextBad) → is_memory bad ≡ false → IsTold other → IsTold (earlier bad other)
of_two bad None p q = p
of_two bad (Some other) p q = earlier_told (nat_le (at_of bad) (at_of other)) bad other p q

pub least_told : (xs : List TextBad) → AreTold xs → IsTold (least xs)
least_told [] p = tt
least_told (bad ∷ rest) p = of_two bad (least rest) p.0 (least_told rest p.1)

-- ---- names

where_told : (id : Id) (n : Option ℕ) → AreTold (unknown_where id n)
where_told id (Some n) = tt
where_told id None = (refl, tt)

unknown_told : (text : List ℕ) (ids : List (Option Id)) (x : Idx) → AreTold (unknown text ids x)
unknown_told text ids (Numbered n) = tt
unknown_told text ids (Called id) = where_told id (position_of text ids id)

twice_after_told : (text : List ℕ) (before ids : List (Option Id)) → AreTold (twice_after text before ids)
twice_after_told text before [] = tt
twice_after_told text before (None ∷ rest) = twice_after_told text before rest
twice_after_told text before (Some id ∷ rest) =
    both (again text before id) (twice_after text (before ++ Some id ∷ []) rest)
    (when_told (is_some (position_of text before id)) (Twice id.start ∷ []) [] (refl, tt) tt) (twice_after_told text (before ++ Some id ∷ []) rest)

twice_told : (text : List ℕ) (ids : List (Option Id)) → AreTold (twice text ids)
twice_told text ids = twice_after_told text [] ids

names_told : (text : List ℕ) (n : Names) → AreTold (twice_in_names text n)
names_told text n =
    both _ _ (both _ _ (both _ _ (both _ _ (both _ _ (both _ _ (twice_told text n.types) (twice_told text n.funcs)) (twice_told text n.tables)) (twice_told text n.memories)) (twice_told text n.globals)) (twice_told text n.elems)) (twice_told text n.segments)

-- ---- uses

differs_told : (u : Use) (ty : Option FuncType) → AreTold (differs u ty)
differs_told u None = (refl, tt)
differs_told u (Some ty) = when_told (same_type (written_type u) ty) [] (UseBad u.at ∷ []) tt (refl, tt)

differs_at_told : (t : Types) (u : Use) (n : Option ℕ) → AreTold (differs_at t u n)
differs_at_told t u None = tt
differs_at_told t u (Some n) = when_told (is_bare u) [] (differs u (slice_get t.all n)) tt (differs_told u (slice_get t.all n))

use_of_told : (t : Types) (u : Use) (x : Option Idx) → AreTold (use_troubles_of t u x)
use_of_told t u None = tt
use_of_told t u (Some x) = both (unknown t.text t.ids x) (differs_at t u (position t.text t.ids x)) (unknown_told t.text t.ids x) (differs_at_told t u (position t.text t.ids x))

use_told : (t : Types) (u : Use) → AreTold (use_troubles t u)
use_told t u = use_of_told t u u.ty

-- ---- instructions and fields

instr_told : (s : Scope) (i : Written) → AreTold (instr_troubles s i)
instr_told s (written.Plain i) = tt
instr_told s (written.One i x) = unknown_told s.types.text (ids_for s i) x
instr_told s (written.BrTable labels last) = both _ _ (each (unknown s.types.text []) labels (λ x. unknown_told s.types.text [] x)) (unknown_told s.types.text [] last)
instr_told s (written.CallIndirect table ty) = unknown_told s.types.text s.names.tables table
instr_told s (written.TableInit table elem) = both _ _ (unknown_told s.types.text s.names.tables table) (unknown_told s.types.text s.names.elems elem)
instr_told s (written.TableCopy to from) = both _ _ (unknown_told s.types.text s.names.tables to) (unknown_told s.types.text s.names.tables from)
instr_told s (written.Block ty body) = tt
instr_told s (written.Loop ty body) = tt
instr_told s (written.If ty first other) = tt

expr_told : (s : Scope) (e : WrittenExpr) → AreTold (expr_troubles s e)
expr_told s e = each (λ instrs. flat_map (instr_troubles s) instrs) e.seqs (λ instrs. each (instr_troubles s) instrs (λ i. instr_told s i))

import_told : (s : Scope) (kind : WrittenKind) → AreTold (import_troubles s kind)
import_told s (asks.Func ty) = twice_told s.types.text (use_params s ty)
import_told s (asks.Table ty) = tt
import_told s (asks.Memory ty) = tt
import_told s (asks.Global ty) = tt

func_told : (s : Scope) (f : WrittenFunc) → AreTold (func_troubles s f)
func_told s f = both _ _ (twice_told s.types.text (inside s f).locals) (expr_told (inside s f) f.body)

later_told : (starts : List WrittenStart) → AreTold (map (λ x. Twice x.at) starts)
later_told [] = tt
later_told (x ∷ rest) = (refl, later_told rest)

start_told : (s : Scope) (starts : List WrittenStart) → AreTold (start_troubles s starts)
start_told s starts =
    both _ _ (each (λ x. unknown s.types.text s.names.funcs x.func) starts (λ x. unknown_told s.types.text s.names.funcs x.func)) (later_told (drop 1 starts))

mode_told : (s : Scope) (ids : List (Option Id)) (mode : WrittenMode) → AreTold (mode_troubles s ids mode)
mode_told s ids when.Passive = tt
mode_told s ids when.Declared = tt
mode_told s ids (when.Active x offset) = both _ _ (unknown_told s.types.text ids x) (expr_told s offset)

elem_told : (s : Scope) (e : WrittenElem) → AreTold (elem_troubles s e)
elem_told s e = both _ _ (each (expr_troubles s) e.items (λ x. expr_told s x)) (mode_told s s.names.tables e.mode)

pub troubles_told : (s : Scope) (m : Named) → AreTold (troubles s m)
troubles_told s m =
    both _ _ (both _ _ (both _ _ (both _ _ (both _ _ (both _ _ (both _ _ (both _ _
    (each (use_troubles s.types) s.uses (λ u. use_told s.types u)) (names_told s.types.text s.names))
    (each (λ i. import_troubles s i.kind) m.imports (λ i. import_told s i.kind)))
    (each (func_troubles s) m.funcs (λ f. func_told s f)))
    (each (λ g. expr_troubles s g.init) m.globals (λ g. expr_told s g.init)))
    (each (export_troubles s) m.exports (λ e. unknown_told s.types.text (ids_in s.names e.space) e.index)))
    (start_told s m.starts))
    (each (elem_troubles s) m.elems (λ e. elem_told s e)))
    (each (λ d. mode_troubles s s.names.memories d.mode) m.segments (λ d. mode_told s s.names.memories d.mode))
