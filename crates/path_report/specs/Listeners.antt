-- Listeners: what is told the rows of a report in order, and leaves at the first row after which it wants no more.
use Rattle.std.specs.Prelude.{◌≡◌, ℕ, suc, ◌+◌, ◌-◌, ◌<◌, ◌^◌, Bool, true, false, not, ◌&&◌, if◌then◌else◌, List, [], ◌∷◌, ◌++◌, map, flat_map, take, drop, length}
use Rattle.path_report.specs.declared.counts.Counts.{Counts}
use Rattle.fork_tree.specs.declared.rows.Kind.{Kind}
use Rattle.fork_tree.specs.declared.rows.Kind.TheVariants.{Returns, Traps, Fails, Bound, Deep, Cut, Undecided, Void}
use Rattle.fork_tree.specs.declared.rows.Row.{Row}
use Rattle.path_report.specs.declared.listener.Wish.{Wish}
use Rattle.path_report.specs.declared.listener.Wish.TheVariants.{More, Enough}

abbrev pub no_rows : Counts
no_rows = record { returns = 0; traps = 0; fails = 0; bound = 0; deep = 0; cut = 0; undecided = 0; void = 0 }

-- one more row of a kind
abbrev pub counted : Counts → Kind → Counts
counted c (Returns results) = record c { returns = c.returns + 1 }
counted c (Traps cause) = record c { traps = c.traps + 1 }
counted c Fails = record c { fails = c.fails + 1 }
counted c Bound = record c { bound = c.bound + 1 }
counted c Deep = record c { deep = c.deep + 1 }
counted c Cut = record c { cut = c.cut + 1 }
counted c Undecided = record c { undecided = c.undecided + 1 }
counted c Void = record c { void = c.void + 1 }

-- each count is below this number
pub record AreBelow (bound : ℕ) (c : Counts) : Type 0 where
  pub returns : c.returns < bound
  pub traps : c.traps < bound
  pub fails : c.fails < bound
  pub bounds : c.bound < bound
  pub deep : c.deep < bound
  pub cut : c.cut < bound
  pub undecided : c.undecided < bound
  pub void : c.void < bound

abbrev pub AreSmall : Counts → Type 0
AreSmall c = AreBelow (2 ^ 63) c

-- so many rows more can be counted
abbrev pub HaveRoom : ℕ → Counts → Type 0
HaveRoom rows c = AreBelow (2 ^ 63 - rows) c

abbrev pub is_enough : Wish → Bool
is_enough More = false
is_enough Enough = true

-- a listener: its counts, at which counts it wants no more rows, and what it says at the end
pub record Heard : Type 0 where
  pub counts : Counts
  pub enough : Counts → Bool
  pub ending : Counts → List ℕ

-- the counts after these rows
abbrev pub counts_after : Counts → List Row → Counts
counts_after c [] = c
counts_after c (r ∷ rows) = counts_after (counted c r.kind) rows

-- after none of these rows it wants no more
abbrev pub stays : (Counts → Bool) → Counts → List Row → Bool
stays enough c [] = true
stays enough c (r ∷ rows) = not (enough (counted c r.kind)) && stays enough (counted c r.kind) rows

-- what is left of a listener after these rows
abbrev pub left_after : List Row → Heard → List Heard
left_after rows h = if stays h.enough h.counts rows then record h { counts = counts_after h.counts rows } ∷ [] else []

-- the listeners that are left after these rows, in order, each with the counts of all
abbrev pub told : List Row → List Heard → List Heard
told rows hs = flat_map (left_after rows) hs

-- A refusal in the midst: all rows up to this one were told, and this one to so many listeners.
abbrev pub told_partly : List Row → Row → ℕ → List Heard → List Heard
told_partly rows r n hs = told (r ∷ []) (take n (told rows hs)) ++ drop n (told rows hs)
