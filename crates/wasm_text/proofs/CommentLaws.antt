-- Where a block comment ends is where the grammar has its end.
use Rattle.std.proofs.Common.{◌≡◌, ℕ, zero, suc, ◌+◌, ◌-◌, ◌<◌, ◌≤◌, Bool, true, false, cond, List, [], ◌∷◌, ◌++◌, length, Option, Some, refl, sym, ap, subst, ◌∙◌, arith, length-append, append_assoc}
use Rattle.std.specs.Prelude.{◌==◌, ◌&&◌, ◌||◌, slice_index}
use Rattle.std.proofs.lemmas.Bool.Decides.{nat_tests}
use Rattle.wasm_text.specs.Lexing.{comment_end}
use Rattle.wasm_text.specs.Comments.{Inside, Closes, Passes, Nests, inside_text, is_mark, IsInside, ClosesComment}
use Rattle.wasm_text.proofs.Choosing.{some_is, is_number, by_test}
use Rattle.std.proofs.lemmas.Bool.{and_parts as both_of, or_from as none_of}

-- ---- what is spelled is found

-- each inside has a first character and a second
two_at_least : (i : Inside) → 2 ≤ length (inside_text i)
two_at_least Closes = omega arith
two_at_least (Passes c rest) = omega (arith, two_at_least rest)
two_at_least (Nests inner rest) = omega (arith, length-append (inside_text inner) (inside_text rest))

pub first_false : (a b : Bool) → (a || b) ≡ false → a ≡ false
first_false true b e = e
first_false false b e = refl

second_false : (a b : Bool) → (a || b) ≡ false → b ≡ false
second_false true b e = absurd cc
second_false false b e = e

first_of : (text left : List ℕ) → 0 < length text → slice_index (text ++ left) 0 ≡ slice_index text 0
first_of [] left some = absurd (omega arith)
first_of (c ∷ text) left some = refl

passes_on : (inner at c : ℕ) (text : List ℕ) → 0 < length text → is_mark c (slice_index text 0) ≡ false → comment_end inner at (c ∷ text) ≡ comment_end inner (at + 1) text
passes_on inner at c [] some e = absurd (omega arith)
passes_on inner at c (d ∷ rest) some e =
    let closing = cond (inner == 0) (Some (at + 2)) (comment_end (inner - 1) (at + 2) rest) in
    let on = comment_end inner (at + 1) (d ∷ rest) in
    ap (λ b. cond b (comment_end (inner + 1) (at + 2) rest) (cond (c == 0x3B && d == 0x29) closing on)) (first_false (c == 0x28 && d == 0x3B) (c == 0x3B && d == 0x29) e)
    ∙ ap (λ b. cond b closing on) (second_false (c == 0x28 && d == 0x3B) (c == 0x3B && d == 0x29) e)

-- after the end of one, where so many more are open
abbrev after_one : ℕ → ℕ → List ℕ → Option ℕ
after_one inner at left = cond (inner == 0) (Some at) (comment_end (inner - 1) at left)

not_zero : (n : ℕ) → (n + 1 == 0) ≡ false
not_zero n = grind (arith, nat_tests)

one_less : (n at : ℕ) (left : List ℕ) → after_one (n + 1) at left ≡ comment_end n at left
one_less n at left =
    ap (λ b. cond b (Some at) (comment_end (n + 1 - 1) at left)) (not_zero n) ∙ (let same : n + 1 - 1 ≡ n = omega arith in ap (λ k. comment_end k at left) same)

pub closes_at : (i : Inside) (inner at : ℕ) (left : List ℕ) → IsInside i → comment_end inner at (inside_text i ++ left) ≡ after_one inner (at + length (inside_text i)) left
closes_at Closes inner at left good = refl
closes_at (Passes c rest) inner at left good =
    let text = inside_text rest in
    let some : 0 < length text = omega (arith, two_at_least rest) in
    passes_on inner at c (text ++ left) (omega (arith, length-append text left)) (ap (λ d. is_mark c d) (first_of text left some) ∙ good.0)
    ∙ closes_at rest inner (at + 1) left good.1
    ∙ (let same : at + 1 + length text ≡ at + length (c ∷ text) = omega arith in ap (λ n. after_one inner n left) same)
closes_at (Nests one rest) inner at left good =
    let a = inside_text one in
    let b = inside_text rest in
    ap (λ t. comment_end (inner + 1) (at + 2) t) (append_assoc a b left)
    ∙ closes_at one (inner + 1) (at + 2) (b ++ left) good.0
    ∙ one_less inner (at + 2 + length a) (b ++ left)
    ∙ closes_at rest inner (at + 2 + length a) left good.1
    ∙ (let same : at + 2 + length a + length b ≡ at + length (0x28 ∷ 0x3B ∷ a ++ b) = omega (arith, length-append a b) in ap (λ n. after_one inner n left) same)

-- ---- what is found is spelled

-- so many further insides come one after another, and then what is left
abbrev AllClose : ℕ → List ℕ → List ℕ → Type 0
AllClose zero text left = text ≡ left
AllClose (suc n) text left = (i : Inside) × (rest : List ℕ) × IsInside i × (text ≡ inside_text i ++ rest) × AllClose n rest left

pub record Found (inner at n : ℕ) (text : List ℕ) : Type 0 where
  pub left : List ℕ
  pub closes : AllClose (suc inner) text left
  pub place : n + length left ≡ at + length text

-- a pair of characters, by a test
pair_is : (c d first second : ℕ) → (c == first && d == second) ≡ true → (c ≡ first) × (d ≡ second)
pair_is c d first second e = let both = both_of (c == first) (d == second) e in (is_number c first both.0, is_number d second both.1)

opened : (inner at n : ℕ) (rest : List ℕ) → Found (inner + 1) (at + 2) n rest → Found inner at n (0x28 ∷ 0x3B ∷ rest)
opened inner at n rest found =
    let same : inner + 1 ≡ suc inner = omega arith in
    let all : AllClose (suc (suc inner)) rest found.left = subst (λ k. AllClose (suc k) rest found.left) same found.closes in
    let second = all.4 in
    record {
      left = found.left;
      closes = (
        Nests all.0 second.0,
        second.1,
        (all.2, second.2),
        ap (λ t. 0x28 ∷ 0x3B ∷ t) (all.3 ∙ ap (λ t. inside_text all.0 ++ t) second.3 ∙ sym (append_assoc (inside_text all.0) (inside_text second.0) second.1)),
        second.4,
      );
      place = omega (arith, found.place);
    }

closed_last : (at n : ℕ) (rest : List ℕ) → at + 2 ≡ n → Found 0 at n (0x3B ∷ 0x29 ∷ rest)
closed_last at n rest e = record { left = rest; closes = (Closes, rest, tt, refl, refl); place = omega arith }

closed_one : (inner at n : ℕ) (rest : List ℕ) → Found inner (at + 2) n rest → Found (suc inner) at n (0x3B ∷ 0x29 ∷ rest)
closed_one inner at n rest found = record { left = found.left; closes = (Closes, rest, tt, refl, found.closes); place = omega (arith, found.place) }

passed : (inner at n c d : ℕ) (rest : List ℕ) → is_mark c d ≡ false → Found inner (at + 1) n (d ∷ rest) → Found inner at n (c ∷ d ∷ rest)
passed inner at n c d rest plain found =
    let i = found.closes.0 in
    let some : 0 < length (inside_text i) = omega (arith, two_at_least i) in
    let first : d ≡ slice_index (inside_text i) 0 = ap (λ t. slice_index t 0) found.closes.3 ∙ first_of (inside_text i) found.closes.1 some in
    record {
      left = found.left;
      closes = (Passes c i, found.closes.1, (ap (λ x. is_mark c x) (sym first) ∙ plain, found.closes.2), ap (λ t. c ∷ t) found.closes.3, found.closes.4);
      place = omega (arith, found.place);
    }

not_zero_suc : (k : ℕ) → (suc k == 0) ≡ false
not_zero_suc k = grind (arith, nat_tests)

closed : (inner at n : ℕ) (rest : List ℕ) → ((k : ℕ) → comment_end k (at + 2) rest ≡ Some n → Found k (at + 2) n rest)
    → cond (inner == 0) (Some (at + 2)) (comment_end (inner - 1) (at + 2) rest) ≡ Some n → Found inner at n (0x3B ∷ 0x29 ∷ rest)
closed zero at n rest others e = closed_last at n rest (some_is (at + 2) n e)
closed (suc k) at n rest others e =
    let same : suc k - 1 ≡ k = omega arith in
    let some = ap (λ b. cond b (Some (at + 2)) (comment_end (suc k - 1) (at + 2) rest)) (not_zero_suc k) in
    closed_one k at n rest (others k (subst (λ j. comment_end j (at + 2) rest ≡ Some n) same (sym some ∙ e)))

pub found_at : (inner at n : ℕ) (text : List ℕ) → comment_end inner at text ≡ Some n → Found inner at n text
found_at inner at n [] e = absurd cc
found_at inner at n (c ∷ []) e = absurd cc
found_at inner at n (c ∷ d ∷ rest) e =
    let P = Found inner at n (c ∷ d ∷ rest) in
    let closing = cond (inner == 0) (Some (at + 2)) (comment_end (inner - 1) (at + 2) rest) in
    let on = comment_end inner (at + 1) (d ∷ rest) in
    by_test (c == 0x28 && d == 0x3B) (comment_end (inner + 1) (at + 2) rest) (cond (c == 0x3B && d == 0x29) closing on) (Some n) P
    (λ is f. let pair = pair_is c d 0x28 0x3B is in
    subst (λ x. Found inner at n (x ∷ d ∷ rest)) (sym pair.0) (subst (λ y. Found inner at n (0x28 ∷ y ∷ rest)) (sym pair.1) (opened inner at n rest (found_at (inner + 1) (at + 2) n rest f))))
    (λ not f. by_test (c == 0x3B && d == 0x29) closing on (Some n) P
    (λ is g. let pair = pair_is c d 0x3B 0x29 is in
    subst (λ x. Found inner at n (x ∷ d ∷ rest)) (sym pair.0) (subst (λ y. Found inner at n (0x3B ∷ y ∷ rest)) (sym pair.1) (closed inner at n rest (λ k h. found_at k (at + 2) n rest h) g)))
    (λ nor g. passed inner at n c d rest (none_of (c == 0x28 && d == 0x3B) (c == 0x3B && d == 0x29) not nor) (found_at inner (at + 1) n (d ∷ rest) g)) f) e

-- ---- both

pub comment_closes : (at n : ℕ) (text : List ℕ) → comment_end 0 at text ≡ Some n → (left : List ℕ) × ClosesComment text left × (n + length left ≡ at + length text)
comment_closes at n text e =
    let found = found_at 0 at n text e in
    let one = found.closes in
    (found.left, record { inside = one.0; good = one.2; is = one.3 ∙ ap (λ t. inside_text one.0 ++ t) one.4 }, found.place)

pub closes_comment : (at n : ℕ) (text left : List ℕ) → ClosesComment text left → n + length left ≡ at + length text → comment_end 0 at text ≡ Some n
closes_comment at n text left closes place =
    let u = inside_text closes.inside in
    ap (λ t. comment_end 0 at t) closes.is ∙ closes_at closes.inside 0 at left closes.good
    ∙ ap (λ k. Some k) (omega (arith, place, length-append u left, ap length closes.is))
