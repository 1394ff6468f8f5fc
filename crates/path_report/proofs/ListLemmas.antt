-- Lists of texts with spaces between them.
use Rattle.std.proofs.Common.{◌≡◌, ℕ, ◌-◌, ◌≤◌, List, [], ◌∷◌, ◌++◌, length, get_or, take, drop, map, flat_map, sym, ap, append-nil, arith}
use Rattle.std.proofs.lemmas.List.{take_rest}
use Rattle.std.specs.List.{join_with_byte}
use Rattle.path_report.specs.Report.{list_text}

-- texts with spaces between them: the first, then each other after a space
joined_first : {T : Type 0} (f : T → List ℕ) (first : T) (rest : List T)
    → join_with_byte 32 (map f (first ∷ rest)) ≡ f first ++ flat_map (λ member. 32 ∷ f member) rest
joined_first f first [] = sym (append-nil (f first))
joined_first f first (next ∷ rest) = ap (λ tail. f first ++ 32 ∷ tail) (joined_first f next rest)

-- the same, where the first and the rest are read from the list
pub list_text-first : {T : Type 0} (f : T → List ℕ) (members : List T) (first : T)
    → 1 ≤ length members → first ≡ get_or members 0 first
    → list_text (map f members) ≡ f first ++ flat_map (λ member. 32 ∷ f member) (take (length members - 1) (drop 1 members))
list_text-first f [] first some is = absurd (omega arith)
list_text-first f (head ∷ rest) first some is = rw take_rest (rw is (joined_first f head rest))
