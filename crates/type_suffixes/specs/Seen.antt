-- Which lists were seen.
use Rattle.std.specs.Prelude.{◌≡◌, ◌⊎◌, Bool, true, false}
use Rattle.std.specs.Ordering.{nat_cmp}
use Rattle.std.specs.BTreeSet.{contains}
use Rattle.type_suffixes.specs.declared.lists.Listed.{Listed}
use Rattle.type_suffixes.specs.declared.lists.Listed.TheVariants.{Nothing, One, Takes, Gives}
use Rattle.type_suffixes.specs.declared.seen.Seen.{Seen}

-- this was seen
abbrev pub is_seen : Seen → Listed → Bool
is_seen seen Nothing = false
is_seen seen (One t) = false
is_seen seen (Takes x) = contains nat_cmp seen.takes x
is_seen seen (Gives x) = contains nat_cmp seen.gives x

-- what was seen after one list more was
abbrev pub IsPut : Listed → Seen → Seen → Type 0
IsPut list old new = (q : Listed) → is_seen new q ≡ true → (list ≡ q) ⊎ (is_seen old q ≡ true)
