-- Laws of host functions, of refusals and of exports.
use Rattle.std.proofs.Common.{◌≡◌, ℕ, ◌<◌, ◌≤◌, List, length, get_or, refl, sym, ap, ◌∙◌, subst, arith, inl, inr}
use Rattle.std.specs.Prelude.{◌==◌, if◌then◌else◌, All, Some, slice_get, is_some}
use Rattle.std.proofs.lemmas.Bool.{cases_order}
use Rattle.std.proofs.lemmas.List.Elements.{All-filter}
use Rattle.std.proofs.lemmas.Option.{same_Some, slice_get_cases, slice_get_read, slice_get_within, get_or_from_slice_get}
use Rattle.wasm_ast.specs.declared.types.Limits.{Limits}
use Rattle.wasm_ast.specs.declared.modules.Import.{Import}
use Rattle.wasm_ast.specs.declared.modules.Export.{Export}
use Rattle.wasm_ast.specs.declared.modules.Space.TheVariants.{Func as FuncSpace}
use Rattle.wasm_ast.specs.declared.modules.Module.{Module}
use Rattle.wasm_check.specs.Contexts.{func_import}
use Rattle.wasm_check.specs.declared.sections.Section.TheVariants.{Exports}
use Rattle.wasm_check.specs.Modules.{IsValid}
use Rattle.wasm_image.specs.declared.hosts.Host.{Host}
use Rattle.wasm_image.specs.declared.hosts.Host.TheVariants.{SymbolI32, SymbolI64, Assume, Assert}
use Rattle.wasm_image.specs.declared.sizes.Large.{Large}
use Rattle.wasm_image.specs.declared.sizes.Large.TheVariants.{Memory, Tables, Table}
use Rattle.wasm_image.specs.Entries.{IsExported}
use Rattle.wasm_image.specs.Functions.{imported_functions}
use Rattle.wasm_image.specs.Hosts.{host_name, IsLinked, AreLinked, IsFirstUnlinked, IsHostFunction}
use Rattle.wasm_image.specs.Ready.{IsReady}
use Rattle.wasm_image.specs.Sizes.{most_pages, most_elements, memory_limits, table_limits, AreAtMost, IsFirstAbove, IsTooLarge}

-- ---- host functions

-- the host function of a name, by two of its characters
host_at : List ℕ → Host
host_at name = if get_or name 1 0 == 51 then SymbolI32 else if get_or name 1 0 == 54 then SymbolI64 else if get_or name 3 0 == 117 then Assume else Assert

host_at-name : (h : Host) → host_at (host_name h) ≡ h
unfolding host_at
host_at-name SymbolI32 = refl
host_at-name SymbolI64 = refl
host_at-name Assume = refl
host_at-name Assert = refl

-- each host function has a name of its own
same-host : (g h : Host) → host_name g ≡ host_name h → g ≡ h
same-host g h e = sym (host_at-name g) ∙ ap host_at e ∙ host_at-name h

pub one_host : (m : Module) (f : ℕ) (g h : Host) → IsHostFunction m f g → IsHostFunction m f h → g ≡ h
one_host m f g h a b =
    let same : a.entry ≡ b.entry = same_Some a.entry b.entry (sym a.there ∙ b.there) in
    same-host g h (sym a.host.name ∙ ap (λ (i : Import). i.name) same ∙ b.host.name)

pub each_host : (m : Module) (f : ℕ) → AreLinked m → f < length (imported_functions m) → (h : Host) × IsHostFunction m f h
each_host m f linked lt = elim (slice_get_cases (imported_functions m) f).1 [
  | inl here ↦
      let all : All (IsLinked m) (imported_functions m) = All-filter (λ i. is_some (func_import i.kind)) (IsLinked m) m.imports linked in
      let it : IsLinked m here.0 = subst (IsLinked m) here.3 (all f here.0 here.1) in
      (it.0, record { entry = here.0; there = here.2; host = it.1 })
  | inr past ↦ absurd (omega (arith, lt, past.0))
]

-- ---- refusals

pub unlinked_unready : (m : Module) (k : ℕ) → IsFirstUnlinked m k → IsReady m → ⊥
unlinked_unready m k first ready =
    first.unlinked (subst (IsLinked m) (get_or_from_slice_get m.imports k first.entry first.entry first.there)
    (ready.linked k first.entry (slice_get_within m.imports k first.entry first.there)))

above-unfit : (bound : ℕ) (limits : List Limits) (min : ℕ) → IsFirstAbove bound limits min → AreAtMost bound limits → ⊥
above-unfit bound limits min first fit =
    let there : first.there.min ≤ bound =
    subst (λ (l : Limits). l.min ≤ bound) (get_or_from_slice_get limits first.place first.there first.there first.is_there)
    (fit first.place first.there (slice_get_within limits first.place first.there first.is_there)) in
    omega (arith, there, first.is_min, first.above)

pub large_unready : (m : Module) (size : Large) → IsTooLarge m size → IsReady m → ⊥
large_unready m (Memory min) large ready = above-unfit most_pages (memory_limits m) min large ready.fits.memories
large_unready m (Tables count) large ready = omega (arith, large.1, large.2, ready.fits.count)
large_unready m (Table min) large ready = above-unfit most_elements (table_limits m) min large.2 ready.fits.tables

-- ---- exports

export : List ℕ → ℕ → Export
export name f = record { name = name; space = FuncSpace; index = f }

at : (m : Module) (name : List ℕ) (f : ℕ) (e : IsExported m name f) → slice_get m.exports e.0 ≡ Some (export name f)
unfolding export
at m name f e = slice_get_read m.exports (length m.exports) e.0 (export name f) refl e.1 (sym e.2)

-- no export has the name of an earlier one
earlier : (m : Module) (name : List ℕ) (f g : ℕ) → IsValid m → (a : IsExported m name f) (b : IsExported m name g) → a.0 < b.0 → ⊥
unfolding export
earlier m name f g valid a b lt = (valid Exports b.0 (export name g) (at m name g b)).new_name a.0 (export name f) lt (at m name f a) refl

pub one_export : (m : Module) (name : List ℕ) (f g : ℕ) → IsValid m → IsExported m name f → IsExported m name g → f ≡ g
unfolding export
one_export m name f g valid a b = elim (cases_order a.0 b.0) [
  | inl same ↦ ap (λ (e : Export). e.index) (same_Some (export name f) (export name g) (sym (at m name f a) ∙ ap (slice_get m.exports) same ∙ at m name g b))
  | inr differ ↦ elim differ [
    | inl less ↦ absurd (earlier m name f g valid a b less)
    | inr more ↦ absurd (earlier m name g f valid b a more)
  ]
]
