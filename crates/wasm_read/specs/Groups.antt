-- Groups of locals as they are joined while they are read, the latest first.
use Rattle.std.specs.Prelude.{ℕ, ◌+◌, List, [], ◌∷◌, ◌==◌, if◌then◌else◌}
use Rattle.grammar_forms.specs.Forms.{◌>>=◌, gives}
use Rattle.wasm_ast.specs.declared.modules.Group.{Group}
use Rattle.wasm_binary.specs.Values.{Grammar, u32}
use Rattle.wasm_binary.specs.Locals.{same_kind, groups, joined}

-- one group more, which isn't empty
abbrev pub put_some : Group → List Group → List Group
put_some g [] = g ∷ []
put_some g (h ∷ others) =
    if same_kind h.kind g.kind then record { count = h.count + g.count; kind = h.kind } ∷ others else g ∷ h ∷ others

-- one group more
abbrev pub put_group : Group → List Group → List Group
put_group g others = if g.count == 0 then others else put_some g others

-- the locals of a function, joined
abbrev pub joined_locals : Grammar (List Group)
joined_locals = do
  n ← u32
  all ← groups n 0
  gives (joined all)

abbrev pub joined_groups : ℕ → Grammar (List Group)
joined_groups n = do
  all ← groups n 0
  gives (joined all)
