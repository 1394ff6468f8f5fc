-- Lists of cells: their parts, and what is written over them.
use Rattle.std.specs.Prelude.{ℕ, ◌+◌, ◌++◌, List, length, take, drop}

-- the cells xs written over those of the list, from the place on
abbrev pub written : {A : Type 0} → ℕ → List A → List A → List A
written place xs list = take place list ++ xs ++ drop (place + length xs) list

-- n cells of a list, from the place on
abbrev pub part : {A : Type 0} → ℕ → ℕ → List A → List A
part place n list = take n (drop place list)
