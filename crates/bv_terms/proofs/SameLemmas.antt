-- The test of terms is exact.
use Rattle.std.proofs.Common.{◌≡◌, ℕ, Bool, true, false, ◌==◌, refl, ap, arith}
use Rattle.std.specs.Prelude.{◌&&◌}
use Rattle.std.proofs.lemmas.Bool.{and_parts, and_from, false≢true}
use Rattle.std.proofs.lemmas.Bool.Decides.{nat_tests}
use Rattle.bv_terms.specs.Terms.{Term, Number, Symbol, Unary, Binary, Choose, Byte, Join, Bytes, NoBytes, Then, same_bool, is_same, are_same}

pub same_number : (n m : ℕ) → (n == m) ≡ true → n ≡ m
same_number n m e = grind (arith, nat_tests)

number_itself : (n : ℕ) → (n == n) ≡ true
number_itself n = grind (arith, nat_tests)

same_bool-is : (a b : Bool) → same_bool a b ≡ true → a ≡ b
same_bool-is true true e = refl
same_bool-is true false e = absurd (false≢true e)
same_bool-is false true e = absurd (false≢true e)
same_bool-is false false e = refl

bool_itself : (a : Bool) → same_bool a a ≡ true
bool_itself true = refl
bool_itself false = refl

mutual
  pub is_same-is : (t s : Term) → is_same t s ≡ true → t ≡ s
  is_same-is (Number n) (Number m) e = ap (λ k. Number k) (same_number n m e)
  is_same-is (Symbol k wide) (Symbol l wider) e =
      let p = and_parts (k == l) (same_bool wide wider) e in
      let number : k ≡ l = same_number k l p.0 in
      let width : wide ≡ wider = same_bool-is wide wider p.1 in cc
  is_same-is (Unary op a) (Unary oq b) e =
      let p = and_parts (op == oq) (is_same a b) e in
      let ops : op ≡ oq = same_number op oq p.0 in
      let first : a ≡ b = is_same-is a b p.1 in cc
  is_same-is (Binary op a b) (Binary oq c d) e =
      let p = and_parts (op == oq && is_same a c) (is_same b d) e in
      let q = and_parts (op == oq) (is_same a c) p.0 in
      let ops : op ≡ oq = same_number op oq q.0 in
      let first : a ≡ c = is_same-is a c q.1 in
      let second : b ≡ d = is_same-is b d p.1 in cc
  is_same-is (Choose wide c a b) (Choose wider d x y) e =
      let p = and_parts (same_bool wide wider && is_same c d && is_same a x) (is_same b y) e in
      let q = and_parts (same_bool wide wider && is_same c d) (is_same a x) p.0 in
      let r = and_parts (same_bool wide wider) (is_same c d) q.0 in
      let width : wide ≡ wider = same_bool-is wide wider r.0 in
      let test : c ≡ d = is_same-is c d r.1 in
      let first : a ≡ x = is_same-is a x q.1 in
      let second : b ≡ y = is_same-is b y p.1 in cc
  is_same-is (Byte a i) (Byte b j) e =
      let p = and_parts (is_same a b) (i == j) e in
      let first : a ≡ b = is_same-is a b p.0 in
      let place : i ≡ j = same_number i j p.1 in cc
  is_same-is (Join wide bytes) (Join wider others) e =
      let p = and_parts (same_bool wide wider) (are_same bytes others) e in
      let width : wide ≡ wider = same_bool-is wide wider p.0 in
      let all : bytes ≡ others = are_same-are bytes others p.1 in cc
  is_same-is _ _ e = absurd (false≢true e)

  pub are_same-are : (bytes others : Bytes) → are_same bytes others ≡ true → bytes ≡ others
  are_same-are NoBytes NoBytes e = refl
  are_same-are (Then t rest) (Then s others) e =
      let p = and_parts (is_same t s) (are_same rest others) e in
      let first : t ≡ s = is_same-is t s p.0 in
      let all : rest ≡ others = are_same-are rest others p.1 in cc
  are_same-are _ _ e = absurd (false≢true e)

mutual
  pub is_same-itself : (t : Term) → is_same t t ≡ true
  is_same-itself (Number n) = number_itself n
  is_same-itself (Symbol k wide) = and_from (k == k) (same_bool wide wide) (number_itself k) (bool_itself wide)
  is_same-itself (Unary op a) = and_from (op == op) (is_same a a) (number_itself op) (is_same-itself a)
  is_same-itself (Binary op a b) =
      and_from (op == op && is_same a a) (is_same b b) (and_from (op == op) (is_same a a) (number_itself op) (is_same-itself a)) (is_same-itself b)
  is_same-itself (Choose wide c a b) =
      and_from (same_bool wide wide && is_same c c && is_same a a) (is_same b b)
      (and_from (same_bool wide wide && is_same c c) (is_same a a)
      (and_from (same_bool wide wide) (is_same c c) (bool_itself wide) (is_same-itself c)) (is_same-itself a))
      (is_same-itself b)
  is_same-itself (Byte a i) = and_from (is_same a a) (i == i) (is_same-itself a) (number_itself i)
  is_same-itself (Join wide bytes) = and_from (same_bool wide wide) (are_same bytes bytes) (bool_itself wide) (are_same-themselves bytes)

  pub are_same-themselves : (bytes : Bytes) → are_same bytes bytes ≡ true
  are_same-themselves NoBytes = refl
  are_same-themselves (Then t rest) = and_from (is_same t t) (are_same rest rest) (is_same-itself t) (are_same-themselves rest)
