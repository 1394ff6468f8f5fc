-- The code of a function in bytes (Binary Format, Modules: Code Section).
use Rattle.std.specs.Prelude.{ℕ, zero, suc, ◌+◌, List, [], ◌∷◌, Bool, true, false, ◌==◌, nat_le, if◌then◌else◌, Ok, Err}
use Rattle.grammar_forms.specs.Forms.{◌>>=◌, gives, checked, within}
use Rattle.wasm_ast.specs.declared.types.ValType.{ValType}
use Rattle.wasm_ast.specs.declared.types.ValType.TheVariants.{I32, I64, FuncRef, ExternRef}
use Rattle.wasm_ast.specs.declared.modules.Group.{Group}
use Rattle.wasm_ast.specs.declared.instructions.Expr.{Expr}
use Rattle.wasm_binary.specs.Faults.{size, locals}
use Rattle.wasm_binary.specs.Values.{Grammar, Test, u32}
use Rattle.wasm_binary.specs.Types.{val_type}
use Rattle.wasm_binary.specs.Instructions.{expression}

-- a group's count, where the function has this many locals before it and at most 50,000 with it
abbrev pub few : ℕ → Test ℕ ℕ
few sum n = if nat_le (sum + n) 50000 then Ok n else Err (locals (sum + n))

-- a count and a type. The fault's place is the first byte of the group, which is that of its count.
abbrev pub group : ℕ → Grammar Group
group sum = do
  n ← checked u32 (few sum)
  kind ← val_type
  gives (record { count = n; kind = kind })

-- this many groups, where the function has this many locals before them
abbrev pub groups : ℕ → ℕ → Grammar (List Group)
groups zero sum = gives []
groups (suc left) sum = do
  g ← group sum
  others ← groups left (sum + g.count)
  gives (g ∷ others)

-- ---- groups as a module has them: none is empty, and neighbours differ in type

abbrev pub same_kind : ValType → ValType → Bool
same_kind I32 I32 = true
same_kind I64 I64 = true
same_kind FuncRef FuncRef = true
same_kind ExternRef ExternRef = true
same_kind a b = false

abbrev pub with_front : Group → List Group → List Group
with_front g [] = g ∷ []
with_front g (h ∷ others) =
    if same_kind g.kind h.kind then record { count = g.count + h.count; kind = h.kind } ∷ others else g ∷ h ∷ others

-- empty groups dropped, and neighbours of one type joined
abbrev pub joined : List Group → List Group
joined [] = []
joined (g ∷ others) = if g.count == 0 then joined others else with_front g (joined others)

-- ---- an entry

pub record Code : Type 0 where
  pub locals : List Group
  pub body : Expr

abbrev pub code_contents : Bool → Grammar Code
code_contents has_data_count = do
  n ← u32
  all ← groups n 0
  body ← expression has_data_count
  gives (record { locals = joined all; body = body })

-- a size, the locals and the body
abbrev pub code : Bool → Grammar Code
code has_data_count = do
  len ← u32
  within size len (code_contents has_data_count)
