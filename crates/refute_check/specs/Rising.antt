-- Levels of a trail.
use Rattle.std.specs.Prelude.{◌≡◌, ◌≤◌, ℕ, suc, [], ◌∷◌, Option, Some, None}
use Rattle.refute_check.specs.Machine.{Trail, level_now}

-- each level is at most one more than the one before
abbrev pub Rises : Trail → Type 0
Rises [] = Unit {0}
Rises (entry ∷ trail) = (entry.level ≤ suc (level_now trail)) × Rises trail

-- the level of an entry with this reason that comes on top of a trail: a decision is one higher
abbrev pub level_after : Option ℕ → Trail → ℕ
level_after None trail = suc (level_now trail)
level_after (Some reason) trail = level_now trail

-- each entry has the level of what came before it, and a decision one more
abbrev pub IsLevelled : Trail → Type 0
IsLevelled [] = Unit {0}
IsLevelled (entry ∷ trail) = (entry.level ≡ level_after entry.reason trail) × IsLevelled trail
