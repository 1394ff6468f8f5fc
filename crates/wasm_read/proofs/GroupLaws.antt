-- Joining groups one after another, as they are read, gives the groups of the grammar.
use Rattle.std.proofs.Common.{◌≡◌, ℕ, suc, ◌+◌, ◌-◌, ◌<◌, ◌≤◌, ◌⊎◌, inl, inr, Bool, true, false, List, [], ◌∷◌, ◌++◌, reverse, Option, Some, None, IfSome, All, Result, Ok, Err, refl, sym, ap, subst, ◌∙◌, arith, append_assoc}
use Rattle.std.specs.Prelude.{◌==◌, if◌then◌else◌}
use Rattle.std.proofs.lemmas.List.{reverse-append}
use Rattle.std.proofs.lemmas.List.Elements.{All-append, All-push}
use Rattle.grammar_forms.specs.Forms.{Window, read_on}
use Rattle.wasm_ast.specs.declared.types.ValType.{ValType}
use Rattle.wasm_ast.specs.declared.types.ValType.TheVariants.{I32, I64, FuncRef, ExternRef}
use Rattle.wasm_ast.specs.declared.modules.Group.{Group}
use Rattle.wasm_binary.specs.Faults.{Fault}
use Rattle.wasm_binary.specs.Locals.{same_kind, group, groups, joined, with_front}
use Rattle.wasm_read.specs.Groups.{put_some, put_group, joined_groups}
use Rattle.owi_base.proofs.Choices.{taken, passed, either}
use Rattle.wasm_binary.proofs.KindLaws.{same_kind_is, same_kind_self}
use Rattle.wasm_read.proofs.ByteLaws.{ok}

-- ---- one group after another, and joined at once

abbrev kind_of : ℕ → ValType → Group
kind_of n kind = record { count = n; kind = kind }

-- the groups so far, latest first, before others that are joined
abbrev before : List Group → List Group → List Group
before [] xs = xs
before (a ∷ done) xs = before done (with_front a xs)

-- groups that are put one after another
abbrev pub put_all : List Group → List Group → List Group
put_all done [] = done
put_all done (g ∷ more) = put_all (put_group g done) more

front_same : (m : ℕ) (k : ValType) (x : Group) (xs : List Group) → same_kind k x.kind ≡ true → with_front (kind_of m k) (x ∷ xs) ≡ kind_of (m + x.count) x.kind ∷ xs
front_same m k x xs e = taken (same_kind k x.kind) (kind_of (m + x.count) x.kind ∷ xs) (kind_of m k ∷ x ∷ xs) e

front_other : (m : ℕ) (k : ValType) (x : Group) (xs : List Group) → same_kind k x.kind ≡ false → with_front (kind_of m k) (x ∷ xs) ≡ kind_of m k ∷ x ∷ xs
front_other m k x xs e = passed (same_kind k x.kind) (kind_of (m + x.count) x.kind ∷ xs) (kind_of m k ∷ x ∷ xs) e

both_in_front : (m n : ℕ) (k : ValType) (xs : List Group) → with_front (kind_of m k) (with_front (kind_of n k) xs) ≡ with_front (kind_of (m + n) k) xs
both_in_front m n k [] = front_same m k (kind_of n k) [] (same_kind_self k)
both_in_front m n k (x ∷ xs) =
    elim (either (same_kind k x.kind)) [
      | inl same ↦
          let sum : m + (n + x.count) ≡ m + n + x.count = omega arith in
          ap (with_front (kind_of m k)) (front_same n k x xs same) ∙ front_same m k (kind_of (n + x.count) x.kind) xs same
          ∙ ap (λ j. kind_of j x.kind ∷ xs) sum ∙ sym (front_same (m + n) k x xs same)
      | inr other ↦
          ap (with_front (kind_of m k)) (front_other n k x xs other) ∙ front_same m k (kind_of n k) (x ∷ xs) (same_kind_self k)
          ∙ sym (front_other (m + n) k x xs other)
    ]

some_before : (g : Group) (done xs : List Group) → before (put_some g done) xs ≡ before done (with_front g xs)
some_before g [] xs = refl
some_before g (h ∷ done) xs =
    let joint : List Group = kind_of (h.count + g.count) h.kind ∷ done in
    let apart : List Group = g ∷ h ∷ done in
    elim (either (same_kind h.kind g.kind)) [
      | inl same ↦
          let kinds : h.kind ≡ g.kind = same_kind_is h.kind g.kind same in
          ap (λ l. before l xs) (taken (same_kind h.kind g.kind) joint apart same)
          ∙ ap (before done) (sym (both_in_front h.count g.count h.kind xs) ∙ ap (λ k. with_front h (with_front (kind_of g.count k) xs)) kinds)
      | inr other ↦ ap (λ l. before l xs) (passed (same_kind h.kind g.kind) joint apart other)
    ]

group_before : (g : Group) (done xs : List Group) → before (put_group g done) xs ≡ before done (if g.count == 0 then xs else with_front g xs)
group_before g done xs =
    elim (either (g.count == 0)) [
      | inl empty ↦
          ap (λ l. before l xs) (taken (g.count == 0) done (put_some g done) empty) ∙ ap (before done) (sym (taken (g.count == 0) xs (with_front g xs) empty))
      | inr some ↦
          ap (λ l. before l xs) (passed (g.count == 0) done (put_some g done) some) ∙ some_before g done xs
          ∙ ap (before done) (sym (passed (g.count == 0) xs (with_front g xs) some))
    ]

all_before : (done gs : List Group) → before (put_all done gs) [] ≡ before done (joined gs)
all_before done [] = refl
all_before done (g ∷ gs) = all_before (put_group g done) gs ∙ group_before g done (joined gs)

-- neighbours differ in type
abbrev AreApart : List Group → Type 0
AreApart [] = Unit {0}
AreApart (a ∷ []) = Unit {0}
AreApart (a ∷ b ∷ others) = (same_kind b.kind a.kind ≡ false) × AreApart (b ∷ others)

recounted : (n : ℕ) (h : Group) (others : List Group) → AreApart (h ∷ others) → AreApart (kind_of n h.kind ∷ others)
recounted n h [] p = tt
recounted n h (b ∷ others) p = p

some_apart : (g : Group) (done : List Group) → AreApart done → AreApart (put_some g done)
some_apart g [] p = tt
some_apart g (h ∷ done) p =
    let joint : List Group = kind_of (h.count + g.count) h.kind ∷ done in
    let apart : List Group = g ∷ h ∷ done in
    elim (either (same_kind h.kind g.kind)) [
      | inl same ↦ subst AreApart (sym (taken (same_kind h.kind g.kind) joint apart same)) (recounted (h.count + g.count) h done p)
      | inr other ↦ subst AreApart (sym (passed (same_kind h.kind g.kind) joint apart other)) (other, p)
    ]

group_apart : (g : Group) (done : List Group) → AreApart done → AreApart (put_group g done)
group_apart g done p =
    elim (either (g.count == 0)) [
      | inl empty ↦ subst AreApart (sym (taken (g.count == 0) done (put_some g done) empty)) p
      | inr some ↦ subst AreApart (sym (passed (g.count == 0) done (put_some g done) some)) (some_apart g done p)
    ]

all_apart : (done gs : List Group) → AreApart done → AreApart (put_all done gs)
all_apart done [] p = p
all_apart done (g ∷ gs) p = all_apart (put_group g done) gs (group_apart g done p)

reverse_more : (a : Group) (done : List Group) → reverse (a ∷ done) ≡ reverse done ++ a ∷ []
reverse_more a done = reverse-append (a ∷ []) done

apart_reversed : (a : Group) (done xs : List Group) → AreApart (a ∷ done) → before done (a ∷ xs) ≡ reverse done ++ a ∷ xs
apart_reversed a [] xs p = refl
apart_reversed a (b ∷ done) xs p =
    ap (before done) (front_other b.count b.kind a xs p.0) ∙ apart_reversed b done (a ∷ xs) p.1
    ∙ sym (append_assoc (reverse done) (b ∷ []) (a ∷ xs)) ∙ ap (λ l. l ++ a ∷ xs) (sym (reverse_more b done))

all_reversed : (done : List Group) → AreApart done → before done [] ≡ reverse done
all_reversed [] p = refl
all_reversed (a ∷ done) p = apart_reversed a done [] p ∙ sym (reverse_more a done)

joined_is : (gs : List Group) → joined gs ≡ reverse (put_all [] gs)
joined_is gs = sym (all_before [] gs) ∙ all_reversed (put_all [] gs) (all_apart [] gs tt)

-- ---- reading one group after another

abbrev Answer : Type 0 → Type 0
Answer A = Result (A × ℕ) Fault

on_after : {A B C : Type 0} (r : Answer A) (f : A → ℕ → Answer B) (g : B → ℕ → Answer C) → read_on (read_on r f) g ≡ read_on r (λ x next. read_on (f x next) g)
on_after (Ok x) f g = refl
on_after (Err fault) f g = refl

on_same : {A B : Type 0} (r : Answer A) (f g : A → ℕ → Answer B) → ((x : A) (next : ℕ) → f x next ≡ g x next) → read_on r f ≡ read_on r g
on_same (Ok x) f g same = same x.0 x.1
on_same (Err fault) f g same = refl

-- groups that were put, and then those that are read
abbrev pub put_ahead : List Group → Answer (List Group) → Answer (List Group)
put_ahead done r = read_on r (λ more next. ok (reverse (put_all done more)) next)

pub groups_start : (count : ℕ) (w : Window Fault) (at : ℕ) → (joined_groups count).read w at ≡ put_ahead [] ((groups (count - 0) 0).read w at)
groups_start count w at =
    let all : count ≡ count - 0 = omega arith in
    on_same ((groups count 0).read w at) (λ gs next. ok (joined gs) next) (λ gs next. ok (reverse (put_all [] gs)) next) (λ gs next. ap (λ l. ok l next) (joined_is gs))
    ∙ ap (λ k. put_ahead [] ((groups k 0).read w at)) all

one_more : (left sum : ℕ) (w : Window Fault) (at mid : ℕ) (g : Group) (done : List Group) → (group sum).read w at ≡ Ok (g, mid)
    → put_ahead done ((groups (suc left) sum).read w at) ≡ put_ahead (put_group g done) ((groups left (sum + g.count)).read w mid)
one_more left sum w at mid g done e =
    let from : Group → ℕ → Answer (List Group) = λ h next. read_on ((groups left (sum + h.count)).read w next) (λ others last. ok (h ∷ others) last) in
    ap (λ (r : Answer Group). put_ahead done (read_on r from)) e
    ∙ on_after ((groups left (sum + g.count)).read w mid) (λ others last. ok (g ∷ others) last) (λ more next. ok (reverse (put_all done more)) next)

-- the i-th of so many groups is read
pub group_read : (count i sum : ℕ) (w : Window Fault) (at mid : ℕ) (g : Group) (done : List Group) → i < count → (group sum).read w at ≡ Ok (g, mid)
    → put_ahead done ((groups (count - i) sum).read w at) ≡ put_ahead (put_group g done) ((groups (count - (i + 1)) (sum + g.count)).read w mid)
group_read count i sum w at mid g done lt e =
    let some : count - i ≡ suc (count - (i + 1)) = omega arith in
    ap (λ k. put_ahead done ((groups k sum).read w at)) some ∙ one_more (count - (i + 1)) sum w at mid g done e

group_refused : (count i sum : ℕ) (w : Window Fault) (at : ℕ) (bad : Fault) (done : List Group) → i < count → (group sum).read w at ≡ Err bad → put_ahead done ((groups (count - i) sum).read w at) ≡ Err bad
group_refused count i sum w at bad done lt e =
    let some : count - i ≡ suc (count - (i + 1)) = omega arith in
    let from : Group → ℕ → Answer (List Group) = λ h next. read_on ((groups (count - (i + 1)) (sum + h.count)).read w next) (λ others last. ok (h ∷ others) last) in
    ap (λ k. put_ahead done ((groups k sum).read w at)) some ∙ ap (λ (r : Answer Group). put_ahead done (read_on r from)) e

-- what is told of a group in trouble is told of all of them
pub told_of_groups : (count i sum : ℕ) (w : Window Fault) (at : ℕ) (done : List Group) (all : Answer (List Group)) (told : Option Fault) → i < count
    → all ≡ put_ahead done ((groups (count - i) sum).read w at) → IfSome told (λ fault. (group sum).read w at ≡ Err fault) → IfSome told (λ fault. all ≡ Err fault)
told_of_groups count i sum w at done all (Some fault) lt e h = e ∙ group_refused count i sum w at fault done lt h
told_of_groups count i sum w at done all None lt e h = h

-- ---- how many there are

abbrev pub AreAtMost : ℕ → List Group → Type 0
AreAtMost sum done = All (λ g. g.count ≤ sum) done

pub none_at_most : (sum : ℕ) → AreAtMost sum []
none_at_most sum = λ i d none. absurd (omega arith)

more_at_most : (sum more : ℕ) (done : List Group) → sum ≤ more → AreAtMost sum done → AreAtMost more done
more_at_most sum more done le h = λ i d lt. omega (arith, h i d lt)

one_at_most : (sum : ℕ) (g : Group) (done : List Group) → g.count ≤ sum → AreAtMost sum done → AreAtMost sum (g ∷ done)
one_at_most sum g done le h =
    let P : Group → Type 0 = λ x. x.count ≤ sum in
    All-append P (g ∷ []) done (All-push P [] g (none_at_most sum) le) h

some_at_most : (sum : ℕ) (g : Group) (done : List Group) → AreAtMost sum done → AreAtMost (sum + g.count) (put_some g done)
some_at_most sum g [] h = one_at_most (sum + g.count) g [] (omega arith) (none_at_most (sum + g.count))
some_at_most sum g (x ∷ done) h =
    let joint : List Group = kind_of (x.count + g.count) x.kind ∷ done in
    let apart : List Group = g ∷ x ∷ done in
    let first : x.count ≤ sum = h 0 x (omega arith) in
    let others : AreAtMost sum done = λ i d lt. h (suc i) d (omega (arith, lt)) in
    elim (either (same_kind x.kind g.kind)) [
      | inl same ↦
          subst (AreAtMost (sum + g.count)) (sym (taken (same_kind x.kind g.kind) joint apart same))
          (one_at_most (sum + g.count) (kind_of (x.count + g.count) x.kind) done (omega arith) (more_at_most sum (sum + g.count) done (omega arith) others))
      | inr other ↦
          subst (AreAtMost (sum + g.count)) (sym (passed (same_kind x.kind g.kind) joint apart other))
          (one_at_most (sum + g.count) g (x ∷ done) (omega arith) (more_at_most sum (sum + g.count) (x ∷ done) (omega arith) h))
    ]

pub group_at_most : (sum : ℕ) (g : Group) (done : List Group) → AreAtMost sum done → AreAtMost (sum + g.count) (put_group g done)
group_at_most sum g done h =
    elim (either (g.count == 0)) [
      | inl empty ↦ subst (AreAtMost (sum + g.count)) (sym (taken (g.count == 0) done (put_some g done) empty)) (more_at_most sum (sum + g.count) done (omega arith) h)
      | inr some ↦ subst (AreAtMost (sum + g.count)) (sym (passed (g.count == 0) done (put_some g done) some)) (some_at_most sum g done h)
    ]
