-- Reading, spelling and trouble of forms belong together, one way of putting forms together (specs/Forms) at a time.
use Rattle.std.proofs.Common.{◌≡◌, ◌≢◌, ℕ, zero, suc, ◌+◌, ◌-◌, ◌≤◌, ◌<◌, ◌⊎◌, inl, inr, ℤ, Bool, true, false, List, [], ◌∷◌, ◌++◌, length, take, drop, Result, Ok, Err, refl, sym, ap, subst, ◌∙◌, append_assoc, append-nil, arith, length-append, length-drop}
use Rattle.std.specs.Prelude.{◌==◌}
use Rattle.std.proofs.lemmas.Bool.{le-leb, lt-leb, cases_lt, eqb-true, eqb-false, eq-eqb, ne_eqb}
use Rattle.std.proofs.lemmas.List.{drop-drop, drop_at, drop-take, take-append-drop, length-take-le}
use Rattle.std.proofs.Math.Seq.{take-append_seam}
use Rattle.owi_base.specs.declared.leb.LebBad.{LebBad}
use Rattle.owi_base.specs.LebReading.{read_unsigned, read_signed}
use Rattle.grammar_forms.specs.Forms.{Window, Between, Form, gives, read_on, ◌>>=◌, many, first_of_rest, any_byte, said, told, unsigned, signed, located, checked, measured, by_first, up_to, left_over, ends_at, within, when◌form◌else◌, no_form, nested}
use Rattle.owi_base.proofs.UnsignedLaws as unsigned_laws
use Rattle.owi_base.proofs.SignedReading as signed_laws
use Rattle.grammar_forms.specs.Laws.{IsBelow, IsLawful, HasBytes, IsIn}
use Rattle.owi_base.proofs.Results.{pair_is, ok_not_err, err_not_ok, err_same}
use Rattle.owi_base.proofs.Choices.{chosen, taken, passed}

-- ---- steps

pub read_on_ok : {E A B : Type 0} (r : Result (A × ℕ) E) (f : A → ℕ → Result (B × ℕ) E) (y : B × ℕ) → read_on r f ≡ Ok y → (x : A) × (next : ℕ) × (r ≡ Ok (x, next)) × (f x next ≡ Ok y)
read_on_ok (Ok x) f y e = (x.0, x.1, refl, e)
read_on_ok (Err bad) f y e = absurd cc

pub read_on_err : {E A B : Type 0} (r : Result (A × ℕ) E) (f : A → ℕ → Result (B × ℕ) E) (bad : E) → read_on r f ≡ Err bad → (r ≡ Err bad) ⊎ ((x : A) × (next : ℕ) × (r ≡ Ok (x, next)) × (f x next ≡ Err bad))
read_on_err (Ok x) f bad e = inr (x.0, x.1, refl, e)
read_on_err {E} {A} (Err other) f bad e = inl (let same : other ≡ bad = cc in ap (λ (d : E). let r : Result (A × ℕ) E = Err d in r) same)

-- ---- places

pub after_text : (bytes text rest : List ℕ) (at : ℕ) → drop at bytes ≡ text ++ rest → drop (at + length text) bytes ≡ rest
after_text bytes text rest at e = sym (drop-drop (length text) at bytes) ∙ ap (drop (length text)) e ∙ drop_at text rest (length text) refl

abbrev pub InParts : (List ℕ → Type 0) → (List ℕ → Type 0) → List ℕ → Type 0
InParts P Q text = (first rest : List ℕ) × (text ≡ first ++ rest) × P first × Q rest

-- one text stands after another
pub joined : (bytes : List ℕ) (at mid next : ℕ) (P Q : List ℕ → Type 0) → Between bytes at mid P → Between bytes mid next Q → Between bytes at next (InParts P Q)
joined bytes at mid next P Q p q =
    let first = p.0 in
    let others = q.0 in
    let rest_is : p.1 ≡ others ++ q.1 = sym (after_text bytes first p.1 at p.2) ∙ ap (λ i. drop i bytes) (sym p.3) ∙ q.2 in
    (first ++ others, q.1, p.2 ∙ ap (λ (l : List ℕ). first ++ l) rest_is ∙ sym (append_assoc first others q.1), omega (arith, p.3, q.3, length-append first others), (first, others, refl, p.4, q.4))

-- ---- no bytes

pub gives_lawful : {E A : Type 0} (n : ℕ) (x : A) → IsLawful n (gives {E = E} x)
gives_lawful {E} {A} n x = record {
  sound = λ w at below y next e.
      let is = pair_is x y at next e in
      ([], drop at w.bytes, refl, omega (arith, is.1), (sym is.0, refl));
  complete = λ w at below y text rest e s.
      let place : at ≡ at + length text = omega (arith, ap length s.1) in
      ap (λ (z : A). let r : Result (A × ℕ) E = Ok (z, at) in r) (sym s.0) ∙ ap (λ i. let r : Result (A × ℕ) E = Ok (y, i) in r) place;
  named = λ w at below bad e. ok_not_err (let p : A × ℕ = (x, at) in p) bad e;
  found = λ w at below bad t. absurd t;
}

-- ---- one form after another

-- n' counts the bytes that may be left after the first form: as many as before, or fewer where it has a byte
pub record GoesOn {E A : Type 0} (n m : ℕ) (f : Form E A) : Type 0 where
  pub left : (x : A) (text : List ℕ) → f.Spells x text → n ≤ m + length text

pub same_left : {E A : Type 0} (n : ℕ) (f : Form E A) → GoesOn n n f
same_left n f = record { left = λ x text s. omega arith }

pub fewer_left : {E A : Type 0} (n : ℕ) (f : Form E A) → HasBytes f → GoesOn (suc n) n f
fewer_left n f some = record { left = λ x text s. omega (arith, some x text s) }

left_after : (bytes text rest : List ℕ) (at next n m : ℕ) → drop at bytes ≡ text ++ rest → next ≡ at + length text → length bytes - at < n → n ≤ m + length text → length bytes - next < m
left_after bytes text rest at next n m e place below left = omega (arith, ap length e, length-append text rest, length-drop at bytes)

pub then_lawful : {E A B : Type 0} (n m : ℕ) (f : Form E A) (g : A → Form E B) → GoesOn n m f → IsLawful n f → ((x : A) → IsLawful m (g x)) → IsLawful n (f >>= g)
then_lawful {E} {A} {B} n m f g on p q = record {
  sound = λ w at below y next e.
      let one = read_on_ok (f.read w at) (λ x mid. (g x).read w mid) (y, next) e in
      let x = one.0 in
      let mid = one.1 in
      let first = p.sound w at below x mid one.2 in
      let left : IsBelow m w mid = left_after w.bytes first.0 first.1 at mid n m first.2 first.3 below (on.left x first.0 first.4) in
      let others = (q x).sound w mid left y next one.3 in
      let whole = joined w.bytes at mid next (f.Spells x) ((g x).Spells y) first others in
      (whole.0, whole.1, whole.2, whole.3, (x, whole.4.0, whole.4.1, whole.4.2, whole.4.3, whole.4.4));
  complete = λ w at below y text rest e s.
      let x = s.0 in
      let first = s.1 in
      let others = s.2 in
      let parts : drop at w.bytes ≡ first ++ (others ++ rest) = e ∙ ap (λ (l : List ℕ). l ++ rest) s.3 ∙ append_assoc first others rest in
      let one = p.complete w at below x first (others ++ rest) parts s.4 in
      let left : IsBelow m w (at + length first) = left_after w.bytes first (others ++ rest) at (at + length first) n m parts refl below (on.left x first s.4) in
      let more = (q x).complete w (at + length first) left y others rest (after_text w.bytes first (others ++ rest) at parts) s.5 in
      let place : at + length first + length others ≡ at + length text = omega (arith, ap length s.3, length-append first others) in
      ap (λ (r : Result (A × ℕ) E). read_on r (λ z mid. (g z).read w mid)) one ∙ more ∙ ap (λ i. let r : Result (B × ℕ) E = Ok (y, i) in r) place;
  named = λ w at below bad e.
      elim (read_on_err (f.read w at) (λ x mid. (g x).read w mid) bad e) [
        | inl here ↦ inl (p.named w at below bad here)
        | inr one ↦
            let first = p.sound w at below one.0 one.1 one.2 in
            let left : IsBelow m w one.1 = left_after w.bytes first.0 first.1 at one.1 n m first.2 first.3 below (on.left one.0 first.0 first.4) in
            inr (one.0, one.1, first, (q one.0).named w one.1 left bad one.3)
      ];
  found = λ w at below bad t.
      elim t [
        | inl here ↦ ap (λ (r : Result (A × ℕ) E). read_on r (λ z mid. (g z).read w mid)) (p.found w at below bad here)
        | inr one ↦
            let first = one.2 in
            let left : IsBelow m w one.1 = left_after w.bytes first.0 first.1 at one.1 n m first.2 first.3 below (on.left one.0 first.0 first.4) in
            let read : f.read w at ≡ Ok (one.0, one.1) = p.complete w at below one.0 first.0 first.1 first.2 first.4 ∙ ap (λ i. let r : Result (A × ℕ) E = Ok (one.0, i) in r) (sym first.3) in
            ap (λ (r : Result (A × ℕ) E). read_on r (λ z mid. (g z).read w mid)) read ∙ (q one.0).found w one.1 left bad one.3
      ];
}

abbrev pub ok_at : {E A : Type 0} → A → ℕ → Result (A × ℕ) E
ok_at x next = Ok (x, next)

abbrev pub err_of : {E A : Type 0} → E → Result (A × ℕ) E
err_of bad = Err bad

-- what stands between two places is read there
pub reads_between : {E A : Type 0} (n : ℕ) (f : Form E A) → IsLawful n f → (w : Window E) (at : ℕ) → IsBelow n w at → (x : A) (next : ℕ) → Between w.bytes at next (f.Spells x) → f.read w at ≡ Ok (x, next)
reads_between {E} {A} n f p w at below x next b = p.complete w at below x b.0 b.1 b.2 b.4 ∙ ap (λ i. ok_at {E = E} x i) (sym b.3)

-- ---- this many of one form

pub many_lawful : {E A : Type 0} (n : ℕ) (f : Form E A) → IsLawful n f → (count : ℕ) → IsLawful n (many f count)
many_lawful {E} {A} n f p zero = gives_lawful n []
many_lawful {E} {A} n f p (suc count) =
    then_lawful n n f (λ x. many f count >>= λ xs. gives (x ∷ xs)) (same_left n f) p
    (λ x. then_lawful n n (many f count) (λ xs. gives (x ∷ xs)) (same_left n (many f count)) (many_lawful n f p count) (λ xs. gives_lawful n (x ∷ xs)))

-- ---- a byte

first_ok : {E : Type 0} (ended : E) (at : ℕ) (left : List ℕ) (b next : ℕ) → first_of_rest ended at left ≡ Ok (b, next) → (rest : List ℕ) × (left ≡ b ∷ rest) × (next ≡ at + 1)
first_ok ended at [] b next e = absurd (err_not_ok (b, next) ended e)
first_ok ended at (c ∷ rest) b next e = let is = pair_is c b (at + 1) next e in (rest, ap (λ x. x ∷ rest) is.0, sym is.1)

first_err : {E : Type 0} (ended : E) (at : ℕ) (left : List ℕ) (bad : E) → first_of_rest ended at left ≡ Err bad → (left ≡ []) × (bad ≡ ended)
first_err ended at [] bad e = (refl, sym (err_same {A = ℕ × ℕ} ended bad e))
first_err ended at (c ∷ rest) bad e = absurd (ok_not_err (c, at + 1) bad e)

pub any_byte_lawful : {E : Type 0} (n : ℕ) → IsLawful n (any_byte {E = E})
any_byte_lawful {E} n = record {
  sound = λ w at below b next e.
      let is = first_ok w.ended at (drop at w.bytes) b next e in
      (b ∷ [], is.0, is.1, omega (arith, is.2), refl);
  complete = λ w at below b text rest e s.
      let front : drop at w.bytes ≡ b ∷ rest = e ∙ ap (λ (l : List ℕ). l ++ rest) s in
      let place : at + 1 ≡ at + length text = omega (arith, ap length s) in
      ap (first_of_rest w.ended at) front ∙ ap (λ i. ok_at {E = E} b i) place;
  named = λ w at below bad e. first_err w.ended at (drop at w.bytes) bad e;
  found = λ w at below bad t. ap (first_of_rest w.ended at) t.0 ∙ ap (λ d. err_of {A = ℕ} d) (sym t.1);
}

pub any_byte_has_bytes : (E : Type 0) → HasBytes (any_byte {E = E})
any_byte_has_bytes E = λ b text s. omega (arith, ap length s)

-- ---- numbers

told_ok : {E A : Type 0} (leb : ℕ → E) (w : Window E) (at : ℕ) (r : Result (A × ℕ) LebBad) (x : A) (next : ℕ) → told leb w at r ≡ Ok (x, next) → (k : ℕ) × (r ≡ Ok (x, k)) × (next ≡ at + k)
told_ok {E} {A} leb w at (Ok y) x next e = let is = pair_is y.0 x (at + y.1) next e in (y.1, ap (λ z. ok_at {E = LebBad} z y.1) is.0, sym is.1)
told_ok leb w at (Err why) x next e = absurd (err_not_ok (x, next) (said leb w at why) e)

told_err : {E A : Type 0} (leb : ℕ → E) (w : Window E) (at : ℕ) (r : Result (A × ℕ) LebBad) (bad : E) → told leb w at r ≡ Err bad → (why : LebBad) × (r ≡ Err why) × (bad ≡ said leb w at why)
told_err {E} {A} leb w at (Ok y) bad e = absurd (ok_not_err (y.0, at + y.1) bad e)
told_err {E} {A} leb w at (Err why) bad e = (why, refl, sym (err_same {A = A × ℕ} (said leb w at why) bad e))

pub unsigned_lawful : {E : Type 0} (n : ℕ) (leb : ℕ → E) (width : ℕ) → IsLawful n (unsigned leb width)
unsigned_lawful {E} n leb width = record {
  sound = λ w at below x next e.
      let is = told_ok leb w at (read_unsigned width (drop at w.bytes)) x next e in
      let t = unsigned_laws.takes width (drop at w.bytes) (x, is.0) is.1 in
      (t.text, t.rest, t.parts, omega (arith, is.2, t.long), t.spelled);
  complete = λ w at below x text rest e s.
      ap (λ (l : List ℕ). told leb w at (read_unsigned width l)) e ∙ ap (told leb w at) (unsigned_laws.again width text rest x s);
  named = λ w at below bad e.
      let is = told_err leb w at (read_unsigned width (drop at w.bytes)) bad e in
      (is.0, (unsigned_laws.troubles width (drop at w.bytes) is.0).0 is.1, is.2);
  found = λ w at below bad t.
      ap (told leb w at) ((unsigned_laws.troubles width (drop at w.bytes) t.0).1 t.1) ∙ ap (λ d. err_of {A = ℕ} d) (sym t.2);
}

pub signed_lawful : {E : Type 0} (n : ℕ) (leb : ℕ → E) (width : ℕ) → IsLawful n (signed leb width)
signed_lawful {E} n leb width = record {
  sound = λ w at below x next e.
      let is = told_ok leb w at (read_signed width (drop at w.bytes)) x next e in
      let t = signed_laws.takes width (drop at w.bytes) (x, is.0) is.1 in
      (t.text, t.rest, t.parts, omega (arith, is.2, t.long), t.spelled);
  complete = λ w at below x text rest e s.
      ap (λ (l : List ℕ). told leb w at (read_signed width l)) e ∙ ap (told leb w at) (signed_laws.again width text rest x s);
  named = λ w at below bad e.
      let is = told_err leb w at (read_signed width (drop at w.bytes)) bad e in
      (is.0, (signed_laws.troubles width (drop at w.bytes) is.0).0 is.1, is.2);
  found = λ w at below bad t.
      ap (told leb w at) ((signed_laws.troubles width (drop at w.bytes) t.0).1 t.1) ∙ ap (λ d. err_of {A = ℤ} d) (sym t.2);
}

-- ---- conditions

located_ok : {E B : Type 0} (at mid : ℕ) (r : Result B (ℕ → E)) (y : B) (next : ℕ) → located at mid r ≡ Ok (y, next) → (r ≡ Ok y) × (mid ≡ next)
located_ok {E} {B} at mid (Ok z) y next e = let is = pair_is z y mid next e in (ap (λ (v : B). let r : Result B (ℕ → E) = Ok v in r) is.0, is.1)
located_ok at mid (Err trouble) y next e = absurd (err_not_ok (y, next) (trouble at) e)

located_err : {E B : Type 0} (at mid : ℕ) (r : Result B (ℕ → E)) (bad : E) → located at mid r ≡ Err bad → (trouble : ℕ → E) × (r ≡ Err trouble) × (bad ≡ trouble at)
located_err at mid (Ok z) bad e = absurd (ok_not_err (z, mid) bad e)
located_err {E} {B} at mid (Err trouble) bad e = (trouble, refl, sym (err_same {A = B × ℕ} (trouble at) bad e))

pub checked_lawful : {E A B : Type 0} (n : ℕ) (f : Form E A) (test : A → Result B (ℕ → E)) → IsLawful n f → IsLawful n (checked f test)
checked_lawful {E} {A} {B} n f test p = record {
  sound = λ w at below y next e.
      let one = read_on_ok (f.read w at) (λ x mid. located at mid (test x)) (y, next) e in
      let first = p.sound w at below one.0 one.1 one.2 in
      let is = located_ok at one.1 (test one.0) y next one.3 in
      (first.0, first.1, first.2, sym is.1 ∙ first.3, (one.0, first.4, is.0));
  complete = λ w at below y text rest e s.
      ap (λ (r : Result (A × ℕ) E). read_on r (λ z mid. located at mid (test z))) (p.complete w at below s.0 text rest e s.1) ∙ ap (located at (at + length text)) s.2;
  named = λ w at below bad e.
      elim (read_on_err (f.read w at) (λ x mid. located at mid (test x)) bad e) [
        | inl here ↦ inl (p.named w at below bad here)
        | inr one ↦
            let is = located_err at one.1 (test one.0) bad one.3 in
            inr (one.0, one.1, is.0, p.sound w at below one.0 one.1 one.2, is.1, is.2)
      ];
  found = λ w at below bad t.
      elim t [
        | inl here ↦ ap (λ (r : Result (A × ℕ) E). read_on r (λ z mid. located at mid (test z))) (p.found w at below bad here)
        | inr one ↦
            ap (λ (r : Result (A × ℕ) E). read_on r (λ z mid. located at mid (test z))) (reads_between n f p w at below one.0 one.1 one.3)
            ∙ ap (located at one.1) one.4 ∙ ap (λ d. err_of {A = B} d) (sym one.5)
      ];
}

pub measured_lawful : {E A : Type 0} (n : ℕ) (f : Form E A) → IsLawful n f → IsLawful n (measured f)
measured_lawful {E} {A} n f p = record {
  sound = λ w at below y next e.
      let one = read_on_ok (f.read w at) (λ x mid. ok_at {E = E} (x, mid - at) mid) (y, next) e in
      let first = p.sound w at below one.0 one.1 one.2 in
      let is = pair_is {E = E} (let z : A × ℕ = (one.0, one.1 - at) in z) y one.1 next one.3 in
      let P : A × ℕ → Type 0 = λ z. f.Spells z.0 first.0 × (z.1 ≡ length first.0) in
      (first.0, first.1, first.2, sym is.1 ∙ first.3, subst P is.0 (first.4, omega (arith, first.3)));
  complete = λ w at below y text rest e s.
      let long : at + length text - at ≡ y.1 = omega (arith, s.1) in
      ap (λ (r : Result (A × ℕ) E). read_on r (λ x mid. ok_at {E = E} (x, mid - at) mid)) (p.complete w at below y.0 text rest e s.0)
      ∙ ap (λ k. ok_at {E = E} (let z : A × ℕ = (y.0, k) in z) (at + length text)) long;
  named = λ w at below bad e.
      elim (read_on_err (f.read w at) (λ x mid. ok_at {E = E} (x, mid - at) mid) bad e) [
        | inl here ↦ p.named w at below bad here
        | inr one ↦ absurd (ok_not_err ((one.0, one.1 - at), one.1) bad one.3)
      ];
  found = λ w at below bad t. ap (λ (r : Result (A × ℕ) E). read_on r (λ x mid. ok_at {E = E} (x, mid - at) mid)) (p.found w at below bad t);
}

-- ---- one of two forms, by the first byte

pub when_lawful : {E A : Type 0} (n : ℕ) (b : Bool) (f g : Form E A) → IsLawful n f → IsLawful n g → IsLawful n (when b form f else g)
when_lawful n true f g p q = p
when_lawful n false f g p q = q

pub when_has_bytes : {E A : Type 0} (b : Bool) (f g : Form E A) → HasBytes f → HasBytes g → HasBytes (when b form f else g)
when_has_bytes true f g p q = p
when_has_bytes false f g p q = q

head_is : (text rest others : List ℕ) (b : ℕ) → text ++ rest ≡ b ∷ others → 0 < length text → (tail : List ℕ) × (text ≡ b ∷ tail)
head_is [] rest others b e some = absurd (omega arith)
head_is (c ∷ tail) rest others b e some = let same : c ≡ b = cc in (tail, ap (λ x. x ∷ tail) same)

pub by_first_lawful : {E A : Type 0} (n : ℕ) (test : ℕ → Bool) (f g : Form E A) → HasBytes f → HasBytes g → IsLawful n f → IsLawful n g → IsLawful n (by_first test f g)
by_first_lawful {E} {A} n test f g f_has g_has p q =
    let h : (b : ℕ) → IsLawful n (when test b form f else g) = λ b. when_lawful n (test b) f g p q in
    let has : (b : ℕ) → HasBytes (when test b form f else g) = λ b. when_has_bytes (test b) f g f_has g_has in
    record {
      sound = λ w at below x next e.
          let one = read_on_ok (first_of_rest w.ended at (drop at w.bytes)) (λ b mid. (when test b form f else g).read w at) (x, next) e in
          let b = one.0 in
          let front = first_ok w.ended at (drop at w.bytes) b one.1 one.2 in
          let found = (h b).sound w at below x next one.3 in
          let head = head_is found.0 found.1 front.0 b (sym found.2 ∙ front.1) (has b x found.0 found.4) in
          (found.0, found.1, found.2, found.3, (b, head.0, head.1, found.4));
      complete = λ w at below x text rest e s.
          let front : drop at w.bytes ≡ s.0 ∷ (s.1 ++ rest) = e ∙ ap (λ (l : List ℕ). l ++ rest) s.2 in
          ap (λ (l : List ℕ). read_on (first_of_rest w.ended at l) (λ b mid. (when test b form f else g).read w at)) front
          ∙ (h s.0).complete w at below x text rest e s.3;
      named = λ w at below bad e.
          elim (read_on_err (first_of_rest w.ended at (drop at w.bytes)) (λ b mid. (when test b form f else g).read w at) bad e) [
            | inl here ↦ inl (first_err w.ended at (drop at w.bytes) bad here)
            | inr one ↦
                let front = first_ok w.ended at (drop at w.bytes) one.0 one.1 one.2 in
                inr (one.0, front.0, front.1, (h one.0).named w at below bad one.3)
          ];
      found = λ w at below bad t.
          elim t [
            | inl here ↦
                ap (λ (l : List ℕ). read_on (first_of_rest w.ended at l) (λ b mid. (when test b form f else g).read w at)) here.0
                ∙ ap (λ d. err_of {A = A} d) (sym here.1)
            | inr one ↦
                ap (λ (l : List ℕ). read_on (first_of_rest w.ended at l) (λ b mid. (when test b form f else g).read w at)) one.2
                ∙ (h one.0).found w at below bad one.3
          ];
    }

-- ---- stated ends

-- at the place of the stated end, or not
ends_ok : {E A : Type 0} (size : ℕ → E) (w : Window E) (end mid : ℕ) (x y : A) (next : ℕ) → ends_at size w end x mid ≡ Ok (y, next) → (x ≡ y) × (mid ≡ next) × (mid ≡ end)
ends_ok {E} {A} size w end mid x y next e =
    elim (chosen (mid == end) (ok_at x mid) (err_of (left_over size w mid)) (ok_at y next) e) [
      | inl there ↦ let is = pair_is {E = E} x y mid next there.1 in (is.0, is.1, eqb-true mid end there.0)
      | inr elsewhere ↦ absurd (err_not_ok (y, next) (left_over size w mid) elsewhere.1)
    ]

ends_err : {E A : Type 0} (size : ℕ → E) (w : Window E) (end mid : ℕ) (x : A) (bad : E) → ends_at size w end x mid ≡ Err bad → (mid ≢ end) × (bad ≡ left_over size w mid)
ends_err {E} {A} size w end mid x bad e =
    elim (chosen (mid == end) (ok_at x mid) (err_of (left_over size w mid)) (err_of bad) e) [
      | inl there ↦ absurd (ok_not_err (x, mid) bad there.1)
      | inr elsewhere ↦ (eqb-false mid end elsewhere.0, sym (err_same {A = A × ℕ} (left_over size w mid) bad elsewhere.1))
    ]

up_to_below : {E : Type 0} (size : ℕ → E) (w : Window E) (end at n : ℕ) → IsBelow n w at → IsBelow n (up_to size w end) at
up_to_below size w end at n below =
    elim (cases_lt (length w.bytes) end) [
      | inr le ↦ rw (le-leb end (length w.bytes) le) (omega (arith, length-take-le end w.bytes le))
      | inl gt ↦ rw (lt-leb end (length w.bytes) gt) below
    ]

-- what stands in the window up to an end stands in the whole window
out_of : {E : Type 0} (size : ℕ → E) (w : Window E) (at len : ℕ) (text rest : List ℕ) → drop at (up_to size w (at + len)).bytes ≡ text ++ rest → (others : List ℕ) × (drop at w.bytes ≡ text ++ others)
out_of size w at len text rest =
    elim (cases_lt (length w.bytes) (at + len)) as (λ _. drop at (up_to size w (at + len)).bytes ≡ text ++ rest → (others : List ℕ) × (drop at w.bytes ≡ text ++ others)) [
      | inr le ↦ rw (le-leb (at + len) (length w.bytes) le) (λ e. (
        rest ++ drop len (drop at w.bytes),
        sym (take-append-drop len (drop at w.bytes)) ∙ ap (λ (l : List ℕ). l ++ drop len (drop at w.bytes)) (sym (drop-take at len w.bytes) ∙ e) ∙ append_assoc text rest (drop len (drop at w.bytes)),
      ))
      | inl gt ↦ rw (lt-leb (at + len) (length w.bytes) gt) (λ e. (rest, e))
    ]

-- what stands in the window and has the stated length stands in the window up to its end
into_end : {E : Type 0} (size : ℕ → E) (w : Window E) (at len : ℕ) (text rest : List ℕ) → drop at w.bytes ≡ text ++ rest → length text ≡ len → (others : List ℕ) × (drop at (up_to size w (at + len)).bytes ≡ text ++ others)
into_end size w at len text rest e long =
    elim (cases_lt (length w.bytes) (at + len)) [
      | inr le ↦ rw (le-leb (at + len) (length w.bytes) le) ([], drop-take at len w.bytes ∙ ap (take len) e ∙ ap (λ k. take k (text ++ rest)) (sym long) ∙ take-append_seam text rest ∙ sym (append-nil text))
      | inl gt ↦ rw (lt-leb (at + len) (length w.bytes) gt) (rest, e)
    ]

pub within_lawful : {E A : Type 0} (n : ℕ) (size : ℕ → E) (len : ℕ) (f : Form E A) → IsLawful n f → IsLawful n (within size len f)
within_lawful {E} {A} n size len f p = record {
  sound = λ w at below y next e.
      let inner = up_to size w (at + len) in
      let one = read_on_ok (f.read inner at) (λ z mid. ends_at size inner (at + len) z mid) (y, next) e in
      let first = p.sound inner at (up_to_below size w (at + len) at n below) one.0 one.1 one.2 in
      let is = ends_ok size inner (at + len) one.1 one.0 y next one.3 in
      let there = out_of size w at len first.0 first.1 first.2 in
      let P : A → Type 0 = λ z. f.Spells z first.0 in
      (first.0, there.0, there.1, sym is.1 ∙ first.3, (subst P is.0 first.4, omega (arith, first.3, is.2)));
  complete = λ w at below y text rest e s.
      let inner = up_to size w (at + len) in
      let there = into_end size w at len text rest e s.1 in
      let place : at + length text ≡ at + len = omega (arith, s.1) in
      ap (λ (r : Result (A × ℕ) E). read_on r (λ z mid. ends_at size inner (at + len) z mid)) (p.complete inner at (up_to_below size w (at + len) at n below) y text there.0 there.1 s.0)
      ∙ taken ((at + length text) == (at + len)) (ok_at y (at + length text)) (err_of (left_over size inner (at + length text))) (eq-eqb (at + length text) (at + len) place);
  named = λ w at below bad e.
      let inner = up_to size w (at + len) in
      elim (read_on_err (f.read inner at) (λ z mid. ends_at size inner (at + len) z mid) bad e) [
        | inl here ↦ inl (p.named inner at (up_to_below size w (at + len) at n below) bad here)
        | inr one ↦
            let is = ends_err size inner (at + len) one.1 one.0 bad one.3 in
            inr (one.0, one.1, p.sound inner at (up_to_below size w (at + len) at n below) one.0 one.1 one.2, is.0, is.1)
      ];
  found = λ w at below bad t.
      let inner = up_to size w (at + len) in
      elim t [
        | inl here ↦ ap (λ (r : Result (A × ℕ) E). read_on r (λ z mid. ends_at size inner (at + len) z mid)) (p.found inner at (up_to_below size w (at + len) at n below) bad here)
        | inr one ↦
            ap (λ (r : Result (A × ℕ) E). read_on r (λ z mid. ends_at size inner (at + len) z mid)) (reads_between n f p inner at (up_to_below size w (at + len) at n below) one.0 one.1 one.2)
            ∙ passed (one.1 == (at + len)) (ok_at one.0 one.1) (err_of (left_over size inner one.1)) (ne_eqb one.1 (at + len) one.3)
            ∙ ap (λ d. err_of {A = A} d) (sym one.4)
      ];
}

-- ---- where bytes are wanted

pub then_has_bytes : {E A B : Type 0} (f : Form E A) (g : A → Form E B) → HasBytes f → HasBytes (f >>= g)
then_has_bytes f g has y text s = omega (arith, has s.0 s.1 s.4, ap length s.3, length-append s.1 s.2)

pub checked_has_bytes : {E A B : Type 0} (f : Form E A) (test : A → Result B (ℕ → E)) → HasBytes f → HasBytes (checked f test)
checked_has_bytes f test has y text s = has s.0 text s.1

pub signed_has_bytes : {E : Type 0} (leb : ℕ → E) (width : ℕ) → HasBytes (signed leb width)
signed_has_bytes leb width z [] s = absurd s
signed_has_bytes leb width z (b ∷ text) s = omega arith

-- ---- forms inside forms of the same kind

pub in_itself : {E A : Type 0} (f : Form E A) → IsIn f f
in_itself f = record { spells = λ x text s. s; troubles = λ w at bad t. t }

pub no_form_in : {E A : Type 0} (f : Form E A) → IsIn no_form f
no_form_in f = record { spells = λ x text s. absurd s; troubles = λ w at bad t. absurd t }

pub when_in : {E A : Type 0} (b : Bool) (f g h k : Form E A) → IsIn f h → IsIn g k → IsIn (when b form f else g) (when b form h else k)
when_in true f g h k p q = p
when_in false f g h k p q = q

pub then_in : {E A B : Type 0} (f h : Form E A) (g k : A → Form E B) → IsIn f h → ((x : A) → IsIn (g x) (k x)) → IsIn (f >>= g) (h >>= k)
then_in f h g k p q = record {
  spells = λ y text s. (s.0, s.1, s.2, s.3, p.spells s.0 s.1 s.4, (q s.0).spells y s.2 s.5);
  troubles = λ w at bad t.
      elim t [
        | inl here ↦ inl (p.troubles w at bad here)
        | inr one ↦
            let b = one.2 in
            inr (one.0, one.1, (b.0, b.1, b.2, b.3, p.spells one.0 b.0 b.4), (q one.0).troubles w one.1 bad one.3)
      ];
}

-- more approximations later
pub rises : {E A : Type 0} (f : ℕ → Form E A) → ((n : ℕ) → IsIn (f n) (f (suc n))) → (more n : ℕ) → IsIn (f n) (f (more + n))
rises {E} {A} f up zero n = let P : ℕ → Type 0 = λ k. IsIn (f n) (f k) in let same : n ≡ 0 + n = omega arith in subst P same (in_itself (f n))
rises {E} {A} f up (suc more) n =
    let before = rises f up more n in
    let next = up (more + n) in
    let P : ℕ → Type 0 = λ k. IsIn (f n) (f k) in
    let same : suc (more + n) ≡ suc more + n = omega arith in
    subst P same (record {
      spells = λ x text s. next.spells x text (before.spells x text s);
      troubles = λ w at bad t. next.troubles w at bad (before.troubles w at bad t);
    })

-- what two approximations read, where both are deep enough, is the same
pub agrees : {E A : Type 0} (f : ℕ → Form E A) → ((n : ℕ) → IsLawful n (f n)) → (n m : ℕ) → IsIn (f n) (f m) → (w : Window E) (at : ℕ) → IsBelow n w at → IsBelow m w at → (r : Result (A × ℕ) E) → (f n).read w at ≡ r → (f m).read w at ≡ r
agrees {E} {A} f lawful n m up w at below deep (Ok x) e =
    let s = (lawful n).sound w at below x.0 x.1 e in
    reads_between m (f m) (lawful m) w at deep x.0 x.1 (s.0, s.1, s.2, s.3, up.spells x.0 s.0 s.4)
agrees {E} {A} f lawful n m up w at below deep (Err bad) e =
    (lawful m).found w at deep bad (up.troubles w at bad ((lawful n).named w at below bad e))

pub nested_lawful : {E A : Type 0} (bound : ℕ) (f : ℕ → Form E A) → ((n : ℕ) → IsLawful n (f n)) → ((n : ℕ) → IsIn (f n) (f (suc n))) → IsLawful bound (nested f)
nested_lawful {E} {A} bound f lawful up =
    let enough : (w : Window E) (at : ℕ) → IsBelow (suc (length w.bytes)) w at = λ w at. omega arith in
    let higher : (w : Window E) (at m : ℕ) → IsBelow (m + suc (length w.bytes)) w at = λ w at m. omega arith in
    let same : (w : Window E) (at m : ℕ) → (f (m + suc (length w.bytes))).read w at ≡ (f (suc (length w.bytes))).read w at =
    λ w at m. agrees f lawful (suc (length w.bytes)) (m + suc (length w.bytes)) (rises f up m (suc (length w.bytes))) w at (enough w at) (higher w at m) ((f (suc (length w.bytes))).read w at) refl in
    let raised : (w : Window E) (m : ℕ) → IsIn (f m) (f (m + suc (length w.bytes))) =
    λ w m. let P : ℕ → Type 0 = λ k. IsIn (f m) (f k) in let k : suc (length w.bytes) + m ≡ m + suc (length w.bytes) = omega arith in subst P k (rises f up (suc (length w.bytes)) m) in
    record {
      sound = λ w at below x next e.
          let s = (lawful (suc (length w.bytes))).sound w at (enough w at) x next e in
          (s.0, s.1, s.2, s.3, (suc (length w.bytes), s.4));
      complete = λ w at below x text rest e s.
          sym (same w at s.0) ∙ (lawful (s.0 + suc (length w.bytes))).complete w at (higher w at s.0) x text rest e ((raised w s.0).spells x text s.1);
      named = λ w at below bad e. (suc (length w.bytes), (lawful (suc (length w.bytes))).named w at (enough w at) bad e);
      found = λ w at below bad t.
          sym (same w at t.0) ∙ (lawful (t.0 + suc (length w.bytes))).found w at (higher w at t.0) bad ((raised w t.0).troubles w at bad t.1);
    }

-- ---- for short proofs: one form after another, of which neither counts the other's bytes

pub after : {E A B : Type 0} {n : ℕ} {f : Form E A} {g : A → Form E B} → IsLawful n f → ((x : A) → IsLawful n (g x)) → IsLawful n (f >>= g)
after {E} {A} {B} {n} {f} {g} p q = then_lawful n n f g (same_left n f) p q

-- nothing is said where no byte may be left
pub nothing_below : {E A : Type 0} (f : Form E A) → IsLawful 0 f
nothing_below f = record {
  sound = λ w at below x next e. absurd (omega arith);
  complete = λ w at below x text rest e s. absurd (omega arith);
  named = λ w at below bad e. absurd (omega arith);
  found = λ w at below bad t. absurd (omega arith);
}
