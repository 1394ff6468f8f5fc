-- Tests and their branches, and what an end that was found says.
use Rattle.std.proofs.Common.{◌≡◌, ℕ, ◌<◌, ◌≤◌, Bool, true, false, cond, List, [], ◌∷◌, ◌++◌, length, Option, Some, Result, Ok, Err, refl, arith}
use Rattle.std.specs.Prelude.{◌==◌, nat_lt}
use Rattle.std.proofs.lemmas.Bool.Decides.{nat_tests}
use Rattle.wasm_text.specs.declared.tokens.LexBad.{LexBad}

pub by_test : {A : Type 0} (b : Bool) (x y z : A) (P : Type 0) → (b ≡ true → x ≡ z → P) → (b ≡ false → y ≡ z → P) → cond b x y ≡ z → P
by_test true x y z P f g e = f refl e
by_test false x y z P f g e = g refl e

pub by_bool : (b : Bool) (P : Type 0) → (b ≡ true → P) → (b ≡ false → P) → P
by_bool true P f g = f refl
by_bool false P f g = g refl

pub ok_is : (a b : ℕ) → (let r : Result ℕ LexBad = Ok a in r) ≡ Ok b → a ≡ b
ok_is a b e = cc

pub refuses : (bad : LexBad) (b : ℕ) → (let r : Result ℕ LexBad = Err bad in r) ≡ Ok b → ⊥
refuses bad b e = cc

pub some_is : (a b : ℕ) → (let r : Option ℕ = Some a in r) ≡ Some b → a ≡ b
some_is a b e = cc

pub is_number : (a b : ℕ) → (a == b) ≡ true → a ≡ b
is_number a b e = grind (arith, nat_tests)

pub not_before : (i n : ℕ) → n ≤ i → nat_lt i n ≡ false
not_before i n le = grind (arith, nat_tests)

pub before : (i n : ℕ) → i < n → nat_lt i n ≡ true
before i n lt = grind (arith, nat_tests)

pub is_before : (a b : ℕ) → nat_lt a b ≡ true → a < b
is_before a b e = grind (arith, nat_tests)

pub is_not_before : (a b : ℕ) → nat_lt a b ≡ false → b ≤ a
is_not_before a b e = grind (arith, nat_tests)

pub no_items : (xs : List ℕ) → length xs ≡ 0 → xs ≡ []
no_items [] e = refl
no_items (x ∷ xs) e = absurd (omega arith)

-- two ends of one list, after as much
pub same_end : (a b x y : List ℕ) → a ++ x ≡ b ++ y → length a ≡ length b → x ≡ y
same_end [] [] x y e len = e
same_end [] (c ∷ b) x y e len = absurd (omega arith)
same_end (c ∷ a) [] x y e len = absurd (omega arith)
same_end (c ∷ a) (d ∷ b) x y e len = same_end a b x y (tail_of c d (a ++ x) (b ++ y) e) (omega arith)
  where
    tail_of : (c d : ℕ) (u v : List ℕ) → c ∷ u ≡ d ∷ v → u ≡ v
    tail_of c d u v e = cc
