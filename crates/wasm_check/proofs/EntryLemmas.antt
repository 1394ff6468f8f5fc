-- An entry is valid where its rule holds of it.
use Rattle.std.proofs.Common.{◌≡◌, ℕ, ◌+◌, ◌<◌, List, sym, subst, arith, inl, inr}
use Rattle.std.specs.Prelude.{Bool, true, Some, IsTrue, ◌↔◌, slice_get}
use Rattle.std.proofs.lemmas.Bool.{cases_eq}
use Rattle.std.proofs.lemmas.Option.{slice_get_within}
use Rattle.wasm_ast.specs.declared.modules.Module.{Module}
use Rattle.wasm_check.specs.declared.sections.Section.{Section}
use Rattle.wasm_check.specs.declared.sections.Section.TheVariants.{Imports, Functions, Tables, Memories, Globals, Exports, Start, Elements, Code, Data}
use Rattle.wasm_check.specs.Modules.{OfEntry, EntryIsValid, SectionIsValid}
use Rattle.wasm_check.specs.code.Sections.{section_size}

pub same-entry : {A : Type 0} (x y : A) → Some x ≡ Some y → x ≡ y
same-entry x y e = cc

-- the test tells the rule of the entry k, which is x
pub of_entry : {A : Type 0} (entries : List A) (k : ℕ) (x : A) (P : A → Type 0) (b : Bool) → slice_get entries k ≡ Some x → IsTrue b ↔ P x → IsTrue b ↔ OfEntry entries k P
of_entry {A} entries k x P b e h = (
  λ t y d. let both : Some x ≡ Some y = cc in subst P (same-entry x y both) (h.0 t),
  λ all. h.1 (all x e),
)

-- the entries below k, and the entry k
pub one_more : (m : Module) (s : Section) (k : ℕ) (b : Bool) → b ≡ true → IsTrue b ↔ EntryIsValid m s k → ((j : ℕ) → j < k → EntryIsValid m s j) → (j : ℕ) → j < k + 1 → EntryIsValid m s j
one_more m s k b passes h before j lt = elim (cases_eq j k) [
  | inl same ↦ subst (EntryIsValid m s) (sym same) (h.0 passes)
  | inr ne ↦ before j (omega arith)
]

-- past its end a section has no entries
pub all_valid : (m : Module) (s : Section) → ((j : ℕ) → j < section_size m s → EntryIsValid m s j) → SectionIsValid m s
all_valid m Imports h = λ k x e. h k (slice_get_within m.imports k x e) x e
all_valid m Functions h = λ k x e. h k (slice_get_within m.funcs k x e) x e
all_valid m Tables h = λ k x e. h k (slice_get_within m.tables k x e) x e
all_valid m Memories h = λ k x e. h k (slice_get_within m.memories k x e) x e
all_valid m Globals h = λ k x e. h k (slice_get_within m.globals k x e) x e
all_valid m Exports h = λ k x e. h k (slice_get_within m.exports k x e) x e
all_valid m Start h = λ k x at e. h k (omega (arith, at)) x at e
all_valid m Elements h = λ k x e. h k (slice_get_within m.elems k x e) x e
all_valid m Code h = λ k x e. h k (slice_get_within m.funcs k x e) x e
all_valid m Data h = λ k x e. h k (slice_get_within m.segments k x e) x e
