-- The sizes of sections, the ends of groups of locals, marks, and what the parts of a check answer.
use Rattle.std.specs.Prelude.{get_or, ◌≡◌, ℕ, ◌+◌, ◌<◌, ◌≤◌, List, Some, slice_get, Bool, false, ◌&&◌, ◌||◌, nat_lt, length, take, sum_by, slice_index}
use Rattle.wasm_ast.specs.declared.modules.Group.{Group}
use Rattle.wasm_ast.specs.declared.modules.Func.{Func}
use Rattle.wasm_ast.specs.declared.modules.Module.{Module}
use Rattle.wasm_check.specs.declared.sections.Section.{Section}
use Rattle.wasm_check.specs.declared.sections.Section.TheVariants.{Imports, Functions, Tables, Memories, Globals, Exports, Start, Elements, Code, Data}
use Rattle.wasm_check.specs.declared.why.Why.{Why}
use Rattle.wasm_check.specs.declared.why.Why.TheVariants.{Field}
use Rattle.wasm_check.specs.Faults.{section_id, IsFirstOf, BodyFailsAt}
use Rattle.wasm_check.specs.Contexts.{is_declared}

-- how many entries there are; the start section has one
abbrev pub section_size : Module → Section → ℕ
section_size m Imports = length m.imports
section_size m Functions = length m.funcs
section_size m Tables = length m.tables
section_size m Memories = length m.memories
section_size m Globals = length m.globals
section_size m Exports = length m.exports
section_size m Start = 1
section_size m Elements = length m.elems
section_size m Code = length m.funcs
section_size m Data = length m.segments

-- for each of the first k groups of locals, the number of the local after its last
pub record AreEnds (groups : List Group) (k : ℕ) (ends : List ℕ) : Type 0 where
  pub long : length ends ≡ k
  pub each : (i : ℕ) → i < k → slice_index ends i ≡ sum_by (λ g. g.count) (take (i + 1) groups)

-- so many groups end before the local x, and the next doesn't
pub record IsGroupOf (groups : List Group) (x k : ℕ) : Type 0 where
  pub within : k ≤ length groups
  pub before : sum_by (λ g. g.count) (take k groups) ≤ x
  pub after : k < length groups → x < sum_by (λ g. g.count) (take (k + 1) groups)

-- the flags that pass the test are set, the others stay
pub record Marks (old new : List Bool) (p : ℕ → Bool) : Type 0 where
  pub long : length new ≡ length old
  pub each : (x : ℕ) → x < length old → get_or new x false ≡ (get_or old x false || p x)

-- for each function, whether `ref.func` may name it in a body
abbrev pub AreDeclared : Module → ℕ → List Bool → Type 0
AreDeclared m funcs flags = (x : ℕ) → get_or flags x false ≡ (nat_lt x funcs && is_declared m x)

-- of the section, the first entry that isn't valid, as the check answers it
abbrev pub IsFieldFault : Module → Section → Why → Type 0
IsFieldFault m s why = (k : ℕ) × (why ≡ Field (section_id s) k) × IsFirstOf m s k

-- the function of this place has the first body that isn't valid, whose first fault is at the other place
abbrev pub FailsIn : Module → ℕ → ℕ → Type 0
FailsIn m k place = (f : Func) × (slice_get m.funcs k ≡ Some f) × IsFirstOf m Code k × BodyFailsAt m f place
