-- Reading the entries of a vector one after another.
use Rattle.std.proofs.Common.{◌≡◌, ℕ, suc, ◌+◌, ◌-◌, ◌<◌, List, [], ◌∷◌, ◌++◌, Result, Ok, Err, Option, Some, None, IfSome, refl, sym, ap, ◌∙◌, arith, append_assoc}
use Rattle.grammar_forms.specs.Forms.{Window, Form, many, read_on}
use Rattle.wasm_binary.specs.Faults.{Fault}
use Rattle.wasm_read.proofs.ByteLaws.{ok, with_first}

abbrev Answer : Type 0 → Type 0
Answer A = Result (A × ℕ) Fault

-- entries that were read, before those that follow
abbrev pub put_before : {A : Type 0} → List A → Answer (List A) → Answer (List A)
put_before done (Ok x) = Ok (done ++ x.0, x.1)
put_before done (Err bad) = Err bad

put_first : {A : Type 0} (done : List A) (x : A) (r : Answer (List A)) → put_before done (with_first r x) ≡ put_before (done ++ x ∷ []) r
put_first {A} done x (Ok y) = ap (λ (l : List A). ok l y.1) (sym (append_assoc done (x ∷ []) y.0))
put_first done x (Err bad) = refl

one_more : {A : Type 0} (f : Form Fault A) (n : ℕ) (w : Window Fault) (at mid : ℕ) (x : A) (done : List A) → f.read w at ≡ Ok (x, mid)
    → put_before done ((many f (suc n)).read w at) ≡ put_before (done ++ x ∷ []) ((many f n).read w mid)
one_more {A} f n w at mid x done e =
    ap (λ (r : Answer A). put_before done (read_on r (λ y next. with_first ((many f n).read w next) y))) e ∙ put_first done x ((many f n).read w mid)

one_bad : {A : Type 0} (f : Form Fault A) (n : ℕ) (w : Window Fault) (at : ℕ) (bad : Fault) (done : List A) → f.read w at ≡ Err bad
    → put_before done ((many f (suc n)).read w at) ≡ Err bad
one_bad {A} f n w at bad done e = ap (λ (r : Answer A). put_before done (read_on r (λ y next. with_first ((many f n).read w next) y))) e

-- the i-th of so many entries is read
pub entry_read : {A : Type 0} (f : Form Fault A) (count i : ℕ) (w : Window Fault) (at mid : ℕ) (x : A) (done : List A) → i < count → f.read w at ≡ Ok (x, mid)
    → put_before done ((many f (count - i)).read w at) ≡ put_before (done ++ x ∷ []) ((many f (count - (i + 1))).read w mid)
entry_read {A} f count i w at mid x done lt e =
    let some : count - i ≡ suc (count - (i + 1)) = omega arith in
    ap (λ k. put_before done ((many f k).read w at)) some ∙ one_more f (count - (i + 1)) w at mid x done e

-- the i-th of so many entries is in trouble
entry_refused : {A : Type 0} (f : Form Fault A) (count i : ℕ) (w : Window Fault) (at : ℕ) (bad : Fault) (done : List A) → i < count → f.read w at ≡ Err bad
    → put_before done ((many f (count - i)).read w at) ≡ Err bad
entry_refused {A} f count i w at bad done lt e =
    let some : count - i ≡ suc (count - (i + 1)) = omega arith in
    ap (λ k. put_before done ((many f k).read w at)) some ∙ one_bad f (count - (i + 1)) w at bad done e

-- what is told of an entry in trouble is told of all of them
pub told_of_all : {A : Type 0} (f : Form Fault A) (count i : ℕ) (w : Window Fault) (at : ℕ) (done : List A) (all : Answer (List A)) (told : Option Fault) → i < count
    → all ≡ put_before done ((many f (count - i)).read w at) → IfSome told (λ fault. f.read w at ≡ Err fault) → IfSome told (λ fault. all ≡ Err fault)
told_of_all f count i w at done all (Some fault) lt e h = e ∙ entry_refused f count i w at fault done lt h
told_of_all f count i w at done all None lt e h = h
