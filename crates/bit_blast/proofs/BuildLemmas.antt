-- The terms one after another: each has the bits of its value.
use Rattle.std.proofs.Common.{◌≡◌, Bool, true, false, not, ◌||◌, if◌then◌else◌, IsTrue, ◌⊎◌, inl, inr, List, [], ◌∷◌, ◌++◌, length, map, reverse, refl, sym, ap, ◌∙◌, subst, append_assoc, append-nil, Option, Some, None}
use Rattle.std.proofs.lemmas.Bool.{false≢true}
use Rattle.std.specs.List.{list_any}
use Rattle.bv_terms.specs.Terms.{Term, is_same, is_number, width_of, value_of}
use Rattle.bv_terms.proofs.SameLemmas.{is_same-is}
use Rattle.refute_check.specs.Clauses.{Assignment}
use Rattle.bit_blast.specs.declared.gates.Gate.TheVariants.{Same}
use Rattle.bit_blast.specs.Gates.{Wires, Circuit}
use Rattle.bit_blast.specs.Formulas.{Condition, Known, wires_in, term_wires, terms_in_order, build_terms, build_first, built, start}
use Rattle.bit_blast.specs.Meanings.{input_of}
use Rattle.bit_blast.proofs.BitNumbers.{number}
use Rattle.bit_blast.proofs.WireLemmas.{read, read_reverse}
use Rattle.bit_blast.proofs.BlockLemmas.{Valued, each_reads}
use Rattle.bit_blast.proofs.OrderLemmas.{Ready, Ordered, InOrder, has-cases}
use Rattle.bit_blast.proofs.TermReadings.{LongKnown, ReadKnown, term_long, term_reads}

-- with one more term, a fact of the wires of each that is there
one_more : (P : Term → Wires → Type 0) (seen : List Term) (known : Known) (t : Term) (ws : Wires)
    → ((a : Term) → IsTrue (not (is_number a)) → Ready seen a → P a (wires_in known a)) → P t ws
    → (a : Term) → IsTrue (not (is_number a)) → Ready (seen ++ t ∷ []) a → P a (wires_in ((t, ws) ∷ known) a)
one_more P seen known t ws before here a no_number ready = go (is_same a t) refl
  where
    split : (b : Bool) → is_number a ≡ b → IsTrue (not b) → IsTrue (b || list_any (is_same a) (seen ++ t ∷ [])) → IsTrue (list_any (is_same a) seen) ⊎ IsTrue (is_same a t)
    split true e n r = absurd (false≢true n)
    split false e n r = has-cases seen t a r

    there : (b : Bool) → IsTrue (list_any (is_same a) seen) → IsTrue (b || list_any (is_same a) seen)
    there true h = refl
    there false h = h

    earlier : is_same a t ≡ false → IsTrue (list_any (is_same a) seen) ⊎ IsTrue (is_same a t) → Ready seen a
    earlier e (inl h) = there (is_number a) h
    earlier e (inr h) = absurd (false≢true (sym e ∙ h))

    go : (b : Bool) → is_same a t ≡ b → P a (if b then ws else wires_in known a)
    go true e = subst (λ (u : Term). P u ws) (sym (is_same-is a t e)) here
    go false e = before a no_number (earlier e (split (is_number a) refl no_number ready))

-- each term that was there or is built has as many wires as bits
pub build_long : (draws : List Bool) (terms seen : List Term) (known : Known) (c : Circuit) → Ordered draws seen terms → LongKnown seen known
    → LongKnown (seen ++ terms) (build_terms draws terms known c).result
build_long draws [] seen known c o long = subst (λ (ts : List Term). LongKnown ts known) (sym (append-nil seen)) long
build_long draws (t ∷ terms) seen known c o long =
    let here = term_wires draws known t c in
    subst (λ (ts : List Term). LongKnown ts (build_terms draws (t ∷ terms) known c).result) (append_assoc seen (t ∷ []) terms)
    (build_long draws terms (seen ++ t ∷ []) ((t, here.result) ∷ known) here.circuit o.2
    (one_more (λ a ws. length ws ≡ width_of a) seen known t here.result long (term_long draws seen known long t o.1 o.0 c)))

-- and where each gate has its value, they are the bits of its value
pub build_reads : (s : Assignment) → s 1 ≡ true → (draws : List Bool) (terms seen : List Term) (known : Known) (c : Circuit) → Ordered draws seen terms → LongKnown seen known
    → Valued s (build_terms draws terms known c).circuit
    → Valued s c × (ReadKnown s (input_of s draws) seen known → ReadKnown s (input_of s draws) (seen ++ terms) (build_terms draws terms known c).result)
build_reads s one draws [] seen known c o long h =
    (h, λ right. subst (λ (ts : List Term). ReadKnown s (input_of s draws) ts known) (sym (append-nil seen)) right)
build_reads s one draws (t ∷ terms) seen known c o long h =
    let here = term_wires draws known t c in
    let rest = build_reads s one draws terms (seen ++ t ∷ []) ((t, here.result) ∷ known) here.circuit o.2
    (one_more (λ a ws. length ws ≡ width_of a) seen known t here.result long (term_long draws seen known long t o.1 o.0 c)) h in
    let first = term_reads s one draws seen known long t o.1 o.0 c rest.0 in (
      first.0,
      λ right. subst (λ (ts : List Term). ReadKnown s (input_of s draws) ts (build_terms draws (t ∷ terms) known c).result) (append_assoc seen (t ∷ []) terms)
          (rest.1 (one_more (λ a ws. number (read s ws) ≡ value_of (input_of s draws) a) seen known t here.result right (first.1 right))),
    )

-- ---- what is to be least

copied : (xs : List Bool) → map (λ b. b) xs ≡ xs
copied [] = refl
copied (x ∷ xs) = ap (λ (bs : List Bool). x ∷ bs) (copied xs)

-- the wires of what is to be least, the highest first, are its bits
abbrev pub LeastReads : Assignment → Known → Option Term → Wires → Type 0
LeastReads s known None least = Unit {0}
LeastReads s known (Some t) least = read s least ≡ reverse (read s (wires_in known t))

pub first_reads : (s : Assignment) (known : Known) (first : Option Term) (c : Circuit) → Valued s (build_first known first c).circuit
    → Valued s c × LeastReads s known first (build_first known first c).result
first_reads s known None c h = (h, tt)
first_reads s known (Some t) c h =
    let all = each_reads s Same (λ b. b) (λ w. refl) (reverse (wires_in known t)) c h in
    (all.0, all.1 ∙ copied (read s (reverse (wires_in known t))) ∙ read_reverse s (wires_in known t))

-- ---- all of it

pub record Reads (s : Assignment) (conditions : List Condition) (draws : List Bool) (first : Option Term) : Type 0 where
  pub right : ReadKnown s (input_of s draws) (terms_in_order conditions first) (built conditions draws first).result.known
  pub least : LeastReads s (built conditions draws first).result.known first (built conditions draws first).result.least

none_known : {A : Type 0} (t : Term) → IsTrue (not (is_number t)) → Ready [] t → A
none_known t no_number ready = go (is_number t) refl no_number ready
  where
    go : {A : Type 0} (b : Bool) → is_number t ≡ b → IsTrue (not b) → IsTrue (b || false) → A
    go true e n r = absurd (false≢true n)
    go false e n r = absurd (false≢true r)

pub all_long : (conditions : List Condition) (draws : List Bool) (first : Option Term) → InOrder draws conditions first
    → LongKnown (terms_in_order conditions first) (built conditions draws first).result.known
all_long conditions draws first o =
    build_long draws (terms_in_order conditions first) [] [] (start draws) o.ordered (λ t n r. none_known t n r)

pub all_read : (s : Assignment) → s 1 ≡ true → (conditions : List Condition) (draws : List Bool) (first : Option Term) → InOrder draws conditions first
    → Valued s (built conditions draws first).circuit → Reads s conditions draws first
all_read s one conditions draws first o h =
    let terms = build_terms draws (terms_in_order conditions first) [] (start draws) in
    let least = first_reads s terms.result first terms.circuit h in
    let all = build_reads s one draws (terms_in_order conditions first) [] [] (start draws) o.ordered (λ t n r. none_known t n r) least.0 in
    record { right = all.1 (λ t n r. none_known t n r); least = least.1 }
