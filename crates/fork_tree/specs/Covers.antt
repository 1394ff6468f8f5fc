-- Which inputs a row covers.
use Rattle.std.specs.Prelude.{◌⊎◌, ◌≡◌, ℕ, List, [], ◌∷◌, true}
use Rattle.wasm_reduction.specs.Scripts.{Script}
use Rattle.sym_state.specs.Nodes.{IsMemberAt}
use Rattle.fork_tree.specs.Nodes.{AsksOf, side_of, is_true}
use Rattle.fork_tree.specs.Tree.{Share, Whole, Side, Meeting, Nobody, Leaf}

-- an input whose run does this next is in the share
abbrev pub IsIn : Share → Script → Type 0
IsIn Whole s = Unit {0}
IsIn (Side q c) s = AsksOf (λ v. side_of q v ≡ c) s
IsIn Meeting s = AsksOf (λ v. is_true v ≡ true) s
IsIn Nobody s = ⊥

-- the members of the leaf's node that are in its share
abbrev pub Covers : List ℕ → Leaf → Type 0
Covers input l = (left : Script) × IsMemberAt l.node input left × IsIn l.share left

-- ---- one of a list

abbrev pub NoneOf : {A : Type 0} → (A → Type 0) → List A → Type 0
NoneOf P [] = Unit {0}
NoneOf P (x ∷ xs) = (P x → ⊥) × NoneOf P xs

-- P holds of exactly one
abbrev pub OneOf : {A : Type 0} → (A → Type 0) → List A → Type 0
OneOf P [] = ⊥
OneOf P (x ∷ xs) = (P x × NoneOf P xs) ⊎ ((P x → ⊥) × OneOf P xs)

-- P holds of one, if of any
abbrev pub OneAtMost : {A : Type 0} → (A → Type 0) → List A → Type 0
OneAtMost P [] = Unit {0}
OneAtMost P (x ∷ xs) = (P x → NoneOf P xs) × OneAtMost P xs

abbrev pub SomeOf : {A : Type 0} → (A → Type 0) → List A → Type 0
SomeOf P [] = ⊥
SomeOf P (x ∷ xs) = P x ⊎ SomeOf P xs
