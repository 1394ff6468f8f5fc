-- Sections that are put one after another.
use Rattle.std.proofs.Common.{◌≡◌, ℕ, ◌+◌, ◌<◌, Bool, true, false, cond, List, [], ◌∷◌, ◌++◌, length, map, filter, take, drop, get_or, Option, Some, None, Result, Ok, Err, refl, sym, ap, subst, ◌∙◌, append-nil, append_assoc}
use Rattle.std.specs.Prelude.{◌==◌}
use Rattle.std.specs.List.{flat_map}
use Rattle.std.proofs.lemmas.List.{take_more, drop_more, take-append-drop}
use Rattle.wasm_ast.specs.declared.modules.Custom.{Custom}
use Rattle.wasm_write.specs.declared.WriteBad.{WriteBad}
use Rattle.wasm_write.specs.declared.WriteBad.TheVariants.{TooLong, NoMemory}
use Rattle.wasm_write.specs.Modules.{Section, custom_section, section_bytes, is_long, first_long}
use Rattle.wasm_write.specs.Writing.{ArePut, custom_at}
use Rattle.wasm_write.proofs.ModulesSpelled.{bytes_split}

-- ---- the first that is too long

pub long_after : (xs ys : List Section) → first_long xs ≡ None → first_long (xs ++ ys) ≡ first_long ys
long_after [] ys e = refl
long_after (s ∷ xs) ys e = by_test (is_long s) (long_after xs ys) e
  where
    by_test : (b : Bool) → (first_long xs ≡ None → first_long (xs ++ ys) ≡ first_long ys) → (let p : Option ℕ = cond b (Some s.id) (first_long xs) in p) ≡ None
        → (let p : Option ℕ = cond b (Some s.id) (first_long (xs ++ ys)) in p) ≡ first_long ys
    by_test true others e = absurd cc
    by_test false others e = others e

pub long_kept : (xs ys : List Section) (id : ℕ) → first_long xs ≡ Some id → first_long (xs ++ ys) ≡ Some id
long_kept [] ys id e = absurd cc
long_kept (s ∷ xs) ys id e = by_test (is_long s) (long_kept xs ys id) e
  where
    by_test : (b : Bool) → (first_long xs ≡ Some id → first_long (xs ++ ys) ≡ Some id) → (let p : Option ℕ = cond b (Some s.id) (first_long xs) in p) ≡ Some id
        → (let p : Option ℕ = cond b (Some s.id) (first_long (xs ++ ys)) in p) ≡ Some id
    by_test true others e = e
    by_test false others e = others e

-- ---- one list of sections after another

abbrev ok : Result (Unit {0}) WriteBad
ok = Ok tt

pub both_put : (xs ys : List Section) (a b c : List ℕ) → first_long xs ≡ None → b ≡ a ++ flat_map section_bytes xs → (r : Result (Unit {0}) WriteBad) → ArePut ys b c r → ArePut (xs ++ ys) a c r
both_put xs ys a b c short e (Ok u) put = (
  long_after xs ys short ∙ put.0,
  put.1 ∙ ap (λ l. l ++ flat_map section_bytes ys) e ∙ append_assoc a (flat_map section_bytes xs) (flat_map section_bytes ys) ∙ ap (λ l. a ++ l) (sym (bytes_split xs ys)),
)
both_put xs ys a b c short e (Err (TooLong id)) put = long_after xs ys short ∙ put
both_put xs ys a b c short e (Err NoMemory) put = tt

-- a refusal stays where more sections were to follow
pub refused : (xs ys : List Section) (a b c : List ℕ) (bad : WriteBad) → ArePut xs a b (Err bad) → ArePut (xs ++ ys) a c (Err bad)
refused xs ys a b c (TooLong id) put = long_kept xs ys id put
refused xs ys a b c NoMemory put = tt

-- ---- lists of lists of sections

flat_split : {X : Type 0} (g : X → List Section) (xs ys : List X) → flat_map g (xs ++ ys) ≡ flat_map g xs ++ flat_map g ys
flat_split g [] ys = refl
flat_split g (x ∷ xs) ys = ap (λ l. g x ++ l) (flat_split g xs ys) ∙ sym (append_assoc (g x) (flat_map g xs) (flat_map g ys))

pub one_more : {X : Type 0} (g : X → List Section) (xs : List X) (i : ℕ) (x : X) → i < length xs → x ≡ get_or xs i x → flat_map g (take (i + 1) xs) ≡ flat_map g (take i xs) ++ g x
one_more g xs i x lt is =
    ap (λ l. flat_map g l) (take_more xs i x lt ∙ ap (λ y. take i xs ++ y ∷ []) (sym is)) ∙ flat_split g (take i xs) (x ∷ []) ∙ ap (λ l. flat_map g (take i xs) ++ l) (append-nil (g x))

pub all_split : {X : Type 0} (g : X → List Section) (xs : List X) (i : ℕ) (x : X) → i < length xs → x ≡ get_or xs i x → flat_map g xs ≡ flat_map g (take i xs) ++ g x ++ flat_map g (drop (i + 1) xs)
all_split g xs i x lt is =
    ap (λ l. flat_map g l) (sym (take-append-drop i xs) ∙ ap (λ l. take i xs ++ l) (drop_more xs i x lt ∙ ap (λ y. y ∷ drop (i + 1) xs) (sym is)))
    ∙ flat_split g (take i xs) (x ∷ drop (i + 1) xs) ∙ sym (append_assoc (flat_map g (take i xs)) (g x) (flat_map g (drop (i + 1) xs)))

-- ---- custom sections

pub customs_are : (cs : List Custom) (slot : ℕ) → flat_map (custom_at slot) cs ≡ map custom_section (filter (λ c. c.after == slot) cs)
customs_are [] slot = refl
customs_are (c ∷ cs) slot = by_test (c.after == slot) (customs_are cs slot)
  where
    by_test : (b : Bool) → flat_map (custom_at slot) cs ≡ map custom_section (filter (λ c. c.after == slot) cs)
        → cond b (custom_section c ∷ []) [] ++ flat_map (custom_at slot) cs ≡ map custom_section (cond b (c ∷ filter (λ c. c.after == slot) cs) (filter (λ c. c.after == slot) cs))
    by_test true e = ap (λ l. custom_section c ∷ l) e
    by_test false e = e

-- a refusal that comes after sections that aren't too long
pub refused_after : (xs ys : List Section) (a b c d : List ℕ) (bad : WriteBad) → first_long xs ≡ None → ArePut ys a b (Err bad) → ArePut (xs ++ ys) c d (Err bad)
refused_after xs ys a b c d (TooLong id) short put = long_after xs ys short ∙ put
refused_after xs ys a b c d NoMemory short put = tt

-- ---- the steps of a loop

pub record PutSoFar (sections : List Section) (before after : List ℕ) : Type 0 where
  pub short : first_long sections ≡ None
  pub put : after ≡ before ++ flat_map section_bytes sections

pub loop_goes_on : {X : Type 0} (g : X → List Section) (xs : List X) (i : ℕ) (x : X) (a b c : List ℕ) → i < length xs → x ≡ get_or xs i x → first_long (flat_map g (take i xs)) ≡ None → b ≡ a ++ flat_map section_bytes (flat_map g (take i xs)) → ArePut (g x) b c ok
    → PutSoFar (flat_map g (take (i + 1) xs)) a c
loop_goes_on g xs i x a b c lt is short e put =
    let all = both_put (flat_map g (take i xs)) (g x) a b c short e ok put in
    let P : List Section → Type 0 = λ l. PutSoFar l a c in
    subst P (sym (one_more g xs i x lt is)) (record { short = all.0; put = all.1 })

pub loop_refused : {X : Type 0} (g : X → List Section) (xs : List X) (i : ℕ) (x : X) (a b c d : List ℕ) (bad : WriteBad) → i < length xs → x ≡ get_or xs i x → first_long (flat_map g (take i xs)) ≡ None → ArePut (g x) a b (Err bad) → ArePut (flat_map g xs) c d (Err bad)
loop_refused g xs i x a b c d bad lt is short put =
    let P : List Section → Type 0 = λ l. ArePut l c d (Err bad) in
    let front = flat_map g (take i xs) in
    subst P (sym (all_split g xs i x lt is)) (refused (front ++ g x) (flat_map g (drop (i + 1) xs)) c d d bad (refused_after front (g x) a b c d bad short put))
