-- Of modules: sections in the order of their ids, and that a first fault leaves a module invalid.
use Rattle.std.proofs.Common.{◌≡◌, ℕ, ◌+◌, drop, refl, sym, ap, ◌∙◌, subst, arith, inl, inr}
use Rattle.std.specs.Prelude.{Some, ◌==◌, if◌then◌else◌}
use Rattle.std.proofs.lemmas.Bool.{cases_eq}
use Rattle.std.proofs.lemmas.List.{take-append-drop}
use Rattle.wasm_ast.specs.declared.types.FuncType.{FuncType}
use Rattle.wasm_ast.specs.declared.modules.Func.{Func}
use Rattle.wasm_ast.specs.declared.modules.Module.{Module}
use Rattle.wasm_check.specs.declared.why.Why.{Why}
use Rattle.wasm_check.specs.declared.why.Why.TheVariants.{Field, Code as InCode, NoMemory}
use Rattle.wasm_check.specs.declared.sections.Section.{Section}
use Rattle.wasm_check.specs.declared.sections.Section.TheVariants.{Imports, Functions, Tables, Memories, Globals, Exports, Start, Elements, Code, Data}
use Rattle.wasm_check.specs.Contexts.{context_of}
use Rattle.wasm_check.specs.Faults.{ValidBelow, section_id, BodyFailsAt, FirstFault}
use Rattle.wasm_check.specs.Instructions.{IsValidBody}
use Rattle.wasm_check.specs.Modules.{SectionIsValid, BodyIsValid, IsValid}
use Rattle.wasm_check.specs.Trees.{Tree, seq_of, body_tokens}
use Rattle.wasm_check.proofs.TreeLemmas.{one-tree}

-- ---- the order of sections

-- the section of an id
section_at : ℕ → Section
section_at id =
    if id == 2 then Imports else if id == 3 then Functions else if id == 4 then Tables else if id == 5 then Memories else
    if id == 6 then Globals else if id == 7 then Exports else if id == 8 then Start else if id == 9 then Elements else
    if id == 10 then Code else Data

section_at-id : (s : Section) → section_at (section_id s) ≡ s
unfolding section_at
section_at-id Imports = refl
section_at-id Functions = refl
section_at-id Tables = refl
section_at-id Memories = refl
section_at-id Globals = refl
section_at-id Exports = refl
section_at-id Start = refl
section_at-id Elements = refl
section_at-id Code = refl
section_at-id Data = refl

-- each section has an id of its own
pub same-section : (r s : Section) → section_id r ≡ section_id s → r ≡ s
same-section r s e = sym (section_at-id r) ∙ ap section_at e ∙ section_at-id s

pub valid_below-more : (m : Module) (s : Section) → ValidBelow m (section_id s) → SectionIsValid m s → ValidBelow m (section_id s + 1)
valid_below-more m s below here r lt = elim (cases_eq (section_id r) (section_id s)) [
  | inl same ↦ subst (SectionIsValid m) (sym (same-section r s same)) here
  | inr ne ↦ below r (omega arith)
]

-- all sections have ids below 12
pub all_below : (m : Module) → ValidBelow m 12 → IsValid m
all_below m below Imports = below Imports (omega arith)
all_below m below Functions = below Functions (omega arith)
all_below m below Tables = below Tables (omega arith)
all_below m below Memories = below Memories (omega arith)
all_below m below Globals = below Globals (omega arith)
all_below m below Exports = below Exports (omega arith)
all_below m below Start = below Start (omega arith)
all_below m below Elements = below Elements (omega arith)
all_below m below Code = below Code (omega arith)
all_below m below Data = below Data (omega arith)

-- ---- what a fault says

-- a body with a first fault isn't valid
pub fails-invalid : (m : Module) (f : Func) (place : ℕ) → BodyFailsAt m f place → BodyIsValid m f → ⊥
fails-invalid m f place fails valid =
    let types : Some valid.type ≡ Some fails.type = sym valid.has_type ∙ fails.has_type in
    let type : valid.type ≡ fails.type = same_type_of valid.type fails.type types in
    let tree : valid.tree ≡ fails.tree = one-tree f.body.seqs (seq_of f.body.seqs 0) valid.tree fails.tree valid.is_tree fails.is_tree in
    let typed : IsValidBody (context_of m f fails.type) fails.tree =
    subst (λ (t : FuncType). IsValidBody (context_of m f t) fails.tree) type
    (subst (λ (c : Tree). IsValidBody (context_of m f valid.type) c) tree valid.typed) in
    fails.first.here (fails.tree, drop (place + 1) (body_tokens fails.tree), typed, sym (take-append-drop (place + 1) (body_tokens fails.tree)))
  where
    same_type_of : (t u : FuncType) → Some t ≡ Some u → t ≡ u
    same_type_of t u e = cc

-- a module with a first fault isn't valid
pub fault-invalid : (m : Module) (why : Why) → FirstFault m why → IsValid m → ⊥
fault-invalid m (Field id k) fault valid = fault.3.first.invalid (valid fault.0 k)
fault-invalid m (InCode function place) fault valid = fault.4.first.invalid (valid Code fault.0)
fault-invalid m NoMemory fault valid = fault
