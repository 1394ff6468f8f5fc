-- The first fault of a module, from the first fault of a section.
use Rattle.std.proofs.Common.{◌≡◌, ℕ, zero, suc, ◌+◌, ◌<◌, List, [], ◌∷◌, get_or, refl, sym, ap, ◌∙◌, subst, arith}
use Rattle.std.specs.Prelude.{All, Option, Some, None, MatchOption, slice_get, Bool, true, false, nat_lt}
use Rattle.std.proofs.lemmas.Bool.Decides.{nat_tests}
use Rattle.std.proofs.lemmas.Option.{MatchOption-at_some, get_or_from_slice_get, slice_get_within}
use Rattle.wasm_ast.specs.declared.modules.Func.{Func}
use Rattle.wasm_ast.specs.declared.modules.Module.{Module}
use Rattle.wasm_check.specs.declared.sections.Section.{Section}
use Rattle.wasm_check.specs.declared.sections.Section.TheVariants.{Imports, Functions, Tables, Memories, Globals, Exports, Start, Elements, Code, Data}
use Rattle.wasm_check.specs.declared.why.Why.{Why}
use Rattle.wasm_check.specs.Faults.{section_id, ValidBelow, BodyFailsAt, FirstFault}
use Rattle.wasm_check.specs.Modules.{BodyIsValid, EntryIsValid, SectionIsValid, IsValid}
use Rattle.wasm_check.specs.code.Sections.{IsFieldFault, FailsIn}
use Rattle.wasm_check.proofs.ModuleLemmas.{same-section, valid_below-more, all_below, fails-invalid}

pub all-at : {A : Type 0} (P : A → Type 0) (xs : List A) (k : ℕ) (x : A) → All P xs → slice_get xs k ≡ Some x → P x
all-at P xs k x all e = subst P (get_or_from_slice_get xs k x x e) (all k x (slice_get_within xs k x e))

-- of an entry
pub field-first : (m : Module) (s : Section) (why : Why) → (s ≡ Code → ⊥) → IsFieldFault m s why → ValidBelow m (section_id s) → FirstFault m why
field-first m s why ne fault below =
    subst (FirstFault m) (sym fault.1) (s, refl, (λ e. ne (same-section s Code e)), record { first = fault.2; sections_before = below })

-- the first body that isn't valid
pub fails-in : (m : Module) (k place : ℕ) (f : Func) → slice_get m.funcs k ≡ Some f → BodyFailsAt m f place → ((j : ℕ) → j < k → EntryIsValid m Code j) → FailsIn m k place
fails-in m k place f e fails before = (f, e, record { invalid = λ valid. fails-invalid m f place fails (valid f e); before = before }, fails)

-- one body more is valid
passes : (m : Module) (f : Func) (o : Option ℕ) → ((k : ℕ) → o ≡ Some k → ⊥) → MatchOption o (BodyIsValid m f) (BodyFailsAt m f) → BodyIsValid m f
passes m f None not h = h
passes m f (Some k) not h = absurd (not k refl)

pub bodies-more : (m : Module) (k : ℕ) (f : Func) (o : Option ℕ) → slice_get m.funcs k ≡ Some f → ((place : ℕ) → o ≡ Some place → ⊥) → MatchOption o (BodyIsValid m f) (BodyFailsAt m f) →
    ((j : ℕ) → j < k → EntryIsValid m Code j) → (j : ℕ) → j < k + 1 → EntryIsValid m Code j
bodies-more m k f o at not h before j less x there = by (nat_lt j k) refl
  where
    by : (b : Bool) → nat_lt j k ≡ b → BodyIsValid m x
    by true is = let below : j < k = grind (arith, nat_tests, is) in before j below x there
    by false is =
        let same : j ≡ k = grind (arith, nat_tests, is, less) in
        let both : Some f ≡ Some x = sym at ∙ ap (λ i. slice_get m.funcs i) (sym same) ∙ there in
        let one : f ≡ x = cc in
        subst (BodyIsValid m) one (passes m f o not h)

-- the sections before the code section, in order
abbrev front : List Section
front = Imports ∷ Functions ∷ Tables ∷ Memories ∷ Globals ∷ Exports ∷ Start ∷ Elements ∷ []

front-id : (i : ℕ) → i < 8 → section_id (get_or front i Imports) ≡ i + 2
front-id zero lt = refl
front-id (suc zero) lt = refl
front-id (suc (suc zero)) lt = refl
front-id (suc (suc (suc zero))) lt = refl
front-id (suc (suc (suc (suc zero)))) lt = refl
front-id (suc (suc (suc (suc (suc zero))))) lt = refl
front-id (suc (suc (suc (suc (suc (suc zero)))))) lt = refl
front-id (suc (suc (suc (suc (suc (suc (suc zero))))))) lt = refl
front-id (suc (suc (suc (suc (suc (suc (suc (suc n)))))))) lt = absurd (omega (arith, lt))

-- the first fault of one of them, where those before it are valid
pub front-first : (m : Module) (i : ℕ) (why : Why) (r : Option Why) → i < 8 → ValidBelow m (i + 2) → r ≡ Some why → MatchOption r (SectionIsValid m (get_or front i Imports)) (IsFieldFault m (get_or front i Imports)) → FirstFault m why
front-first m i why r lt below is h =
    let s : Section = get_or front i Imports in
    let id : section_id s ≡ i + 2 = front-id i lt in
    let fault : IsFieldFault m s why = MatchOption-at_some (SectionIsValid m s) (IsFieldFault m s) why is h in
    let other : s ≡ Code → ⊥ = λ e. (let ten : section_id s ≡ 10 = ap section_id e in omega (arith, ten, id, lt)) in
    field-first m s why other fault (subst (ValidBelow m) (sym id) below)

-- the sections before the last are valid
pub whole-first : (m : Module) (r : Option Why) → ValidBelow m 10 → SectionIsValid m Code → MatchOption r (SectionIsValid m Data) (IsFieldFault m Data) → MatchOption r (IsValid m) (FirstFault m)
whole-first m None below code h = all_below m (valid_below-more m Data (valid_below-more m Code below code) h)
whole-first m (Some why) below code h = field-first m Data why (λ e. cc) h (valid_below-more m Code below code)
