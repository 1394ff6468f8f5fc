-- The trouble of least place, noted one after another, is that of the whole list.
use Rattle.std.proofs.Common.{◌≡◌, ◌∙◌, ℕ, Bool, true, false, List, [], ◌∷◌, ◌++◌, ◌<◌, ◌+◌, length, take, get_or, Option, Some, None, refl, sym, ap, arith}
use Rattle.std.specs.Prelude.{flat_map, nat_le, if◌then◌else◌}
use Rattle.std.proofs.lemmas.Bool.Decides.{nat_tests}
use Rattle.std.proofs.lemmas.List.{take_more}
use Rattle.std.proofs.lemmas.Grind.{flat_map-append}
use Rattle.wasm_text.specs.declared.bad.TextBad.{TextBad}
use Rattle.wasm_text.specs.NameTroubles.{at_of, earlier, least}
use Rattle.wat_resolve.specs.code.Noting.{sooner, noted, joined}

pub noted_append : (xs ys : List TextBad) (found : Option TextBad) → noted (xs ++ ys) found ≡ noted ys (noted xs found)
noted_append [] ys found = refl
noted_append (x ∷ xs) ys found = noted_append xs ys (sooner found x)

joined_none : (later : Option TextBad) → joined None later ≡ later
joined_none None = refl
joined_none (Some bad) = refl

-- what is found first, then what is sooner of the next and the least of the others
joined_sooner : (found : Option TextBad) (x : TextBad) (later : Option TextBad) → joined (sooner found x) later ≡ joined found (earlier x later)
joined_sooner None x None = refl
joined_sooner None x (Some y) = sym (joined_none (earlier x (Some y)))
joined_sooner (Some a) x None = refl
joined_sooner (Some a) x (Some y) = three (nat_le (at_of a) (at_of x)) (nat_le (at_of x) (at_of y)) (nat_le (at_of a) (at_of y)) refl refl refl
  where
    three : (p q r : Bool) → nat_le (at_of a) (at_of x) ≡ p → nat_le (at_of x) (at_of y) ≡ q → nat_le (at_of a) (at_of y) ≡ r
        → joined (if p then Some a else Some x) (Some y) ≡ joined (Some a) (if q then Some x else Some y)
    three true true r e f g = let h : r ≡ true = grind (arith, nat_tests) in rw (g ∙ h, e) refl
    three true false r e f g = refl
    three false true r e f g = rw (e, f) refl
    three false false r e f g = let h : r ≡ false = grind (arith, nat_tests) in rw (g ∙ h, f) refl

noted_is_joined : (xs : List TextBad) (found : Option TextBad) → noted xs found ≡ joined found (least xs)
noted_is_joined [] found = refl
noted_is_joined (x ∷ xs) found = noted_is_joined xs (sooner found x) ∙ joined_sooner found x (least xs)

pub noted_least : (xs : List TextBad) → noted xs None ≡ least xs
noted_least xs = noted_is_joined xs None ∙ joined_none (least xs)

pub noted_joined : (xs : List TextBad) (found : Option TextBad) → noted xs found ≡ joined found (noted xs None)
noted_joined xs found = noted_is_joined xs found ∙ ap (λ l. joined found l) (sym (noted_least xs))

-- ---- loops

append_none : (f : List TextBad) → f ++ [] ≡ f
append_none [] = refl
append_none (x ∷ xs) = ap (λ t. x ∷ t) (append_none xs)

-- one entry more
pub noted_more : {A : Type 0} (f : A → List TextBad) (xs : List A) (i : ℕ) (x : A) (old now next : Option TextBad) → i < length xs → x ≡ get_or xs i x
    → now ≡ noted (flat_map f (take i xs)) old → next ≡ noted (f x) now → next ≡ noted (flat_map f (take (i + 1) xs)) old
noted_more f xs i x old now next below is so_far one =
    one ∙ ap (λ t. noted (f x) t) so_far ∙ sym (noted_append (flat_map f (take i xs)) (f x) old) ∙ ap (λ t. noted t old) all
  where
    all : flat_map f (take i xs) ++ f x ≡ flat_map f (take (i + 1) xs)
    all = ap (λ t. flat_map f (take i xs) ++ t) (sym (append_none (f x)) ∙ ap (λ y. f y ++ []) is)
        ∙ sym (flat_map-append f (take i xs) (get_or xs i x ∷ [])) ∙ ap (λ ys. flat_map f ys) (sym (take_more xs i x below))
