-- Terms in order: each comes after its operands.
use Rattle.std.proofs.Common.{◌≡◌, ℕ, Bool, true, false, not, ◌||◌, if◌then◌else◌, IsTrue, ◌⊎◌, inl, inr, ◌<◌, ◌^◌, List, [], ◌∷◌, ◌++◌, refl, sym, subst, arith, append_assoc, append-nil, Option, Some, None, All}
use Rattle.std.specs.List.{list_any}
use Rattle.std.proofs.lemmas.List.Elements.{All-head, All-tail, All-cons}
use Rattle.wasm_rules.specs.Words.{bits_where}
use Rattle.int_ops.specs.Operators.{operand_bits}
use Rattle.bv_terms.specs.Terms.{Term, Number, Symbol, Unary, Binary, Choose, Byte, Join, Bytes, NoBytes, Then, is_same, is_number, width_of, HasWidth, HaveByteWidths, HasSymbols, HaveSymbols}
use Rattle.bv_terms.proofs.SameLemmas.{is_same-itself}
use Rattle.bit_blast.specs.Formulas.{Condition, once_after, with_terms, with_bytes, with_conditions, with_first, terms_in_order}
use Rattle.bit_blast.specs.Meanings.{IsProper, CanBeLeast, AreProper}
use Rattle.bit_blast.proofs.ClauseLemmas.{or_left, or_right, or_cases}

-- a term is there
abbrev pub Has : List Term → Term → Type 0
Has seen t = IsTrue (list_any (is_same t) seen)

-- it is a number or there
abbrev pub Ready : List Term → Term → Type 0
Ready seen t = IsTrue (is_number t || list_any (is_same t) seen)

abbrev pub BytesReady : List Term → Bytes → Type 0
BytesReady seen NoBytes = Unit {0}
BytesReady seen (Then t rest) = Ready seen t × BytesReady seen rest

-- the operands of a term are numbers or there
abbrev pub OperandsReady : List Term → Term → Type 0
OperandsReady seen (Number n) = Unit {0}
OperandsReady seen (Symbol k wide) = Unit {0}
OperandsReady seen (Unary op a) = Ready seen a
OperandsReady seen (Binary op a b) = Ready seen a × Ready seen b
OperandsReady seen (Choose wide c a b) = Ready seen c × Ready seen a × Ready seen b
OperandsReady seen (Byte a i) = Ready seen a
OperandsReady seen (Join wide bytes) = BytesReady seen bytes

-- each of these terms comes after its operands, where others came before; and each is as a term has to be
abbrev pub Ordered : List Bool → List Term → List Term → Type 0
Ordered draws before [] = Unit {0}
Ordered draws before (t ∷ terms) = OperandsReady before t × IsProper draws t × Ordered draws (before ++ t ∷ []) terms

-- ---- membership

pub has-front : (xs ys : List Term) (t : Term) → Has xs t → Has (xs ++ ys) t
has-front [] ys t h = cc
has-front (x ∷ xs) ys t h = go (λ h. has-front xs ys t h) (is_same t x) h
  where
    go : (Has xs t → Has (xs ++ ys) t) → (b : Bool) → IsTrue (b || list_any (is_same t) xs) → IsTrue (b || list_any (is_same t) (xs ++ ys))
    go rest true h = refl
    go rest false h = rest h

pub has-last : (xs : List Term) (t : Term) → Has (xs ++ t ∷ []) t
has-last [] t = or_left (is_same t t) false (is_same-itself t)
has-last (x ∷ xs) t = or_right (is_same t x) (list_any (is_same t) (xs ++ t ∷ [])) (has-last xs t)

-- what is there after one more term was there before, or is that term
pub has-cases : (xs : List Term) (t a : Term) → Has (xs ++ t ∷ []) a → Has xs a ⊎ IsTrue (is_same a t)
has-cases [] t a h = go (or_cases (is_same a t) false h)
  where
    go : IsTrue (is_same a t) ⊎ IsTrue false → Has [] a ⊎ IsTrue (is_same a t)
    go (inl e) = inr e
    go (inr e) = cc
has-cases (x ∷ xs) t a h = go (λ h. has-cases xs t a h) (is_same a x) h
  where
    go : (Has (xs ++ t ∷ []) a → Has xs a ⊎ IsTrue (is_same a t)) → (b : Bool)
        → IsTrue (b || list_any (is_same a) (xs ++ t ∷ [])) → IsTrue (b || list_any (is_same a) xs) ⊎ IsTrue (is_same a t)
    go rest true h = inl refl
    go rest false h = rest h

-- one more at the end
ordered-last : (draws : List Bool) (before xs : List Term) (t : Term) → Ordered draws before xs → OperandsReady (before ++ xs) t → IsProper draws t → Ordered draws before (xs ++ t ∷ [])
ordered-last draws before [] t h ready proper = (subst (λ (ts : List Term). OperandsReady ts t) (append-nil before) ready, proper, tt)
ordered-last draws before (x ∷ xs) t h ready proper =
    (h.0, h.1, ordered-last draws (before ++ x ∷ []) xs t h.2 (subst (λ (ts : List Term). OperandsReady ts t) (sym (append_assoc before (x ∷ []) xs)) ready) proper)

-- ---- the terms below a term

-- what comes of adding a term to an order
pub record Adds (draws : List Bool) (seen after : List Term) (Here : Type 0) : Type 0 where
  pub ordered : Ordered draws [] after
  pub kept : (a : Term) → Has seen a → Has after a
  pub here : Here

kept-ready : (xs ys : List Term) → ((a : Term) → Has xs a → Has ys a) → (t : Term) → Ready xs t → Ready ys t
kept-ready xs ys kept t h = go (is_number t) h
  where
    go : (b : Bool) → IsTrue (b || list_any (is_same t) xs) → IsTrue (b || list_any (is_same t) ys)
    go true h = refl
    go false h = kept t h

-- the term itself after the others
adds-once : (draws : List Bool) (others : List Term) (t : Term) (seen : List Term) → Ordered draws [] seen → Ordered draws [] others
    → ((a : Term) → Has seen a → Has others a) → OperandsReady others t → IsProper draws t
    → Adds draws seen (once_after others t seen) (Ready (once_after others t seen) t)
adds-once draws others t seen o p kept ready proper = go (list_any (is_same t) seen) refl
  where
    go : (b : Bool) → list_any (is_same t) seen ≡ b
        → Adds draws seen (if b then seen else others ++ t ∷ []) (Ready (if b then seen else others ++ t ∷ []) t)
    go true e = record { ordered = o; kept = λ a h. h; here = or_right (is_number t) (list_any (is_same t) seen) e }
    go false e = record {
      ordered = ordered-last draws [] others t p ready proper;
      kept = λ a h. has-front others (t ∷ []) a (kept a h);
      here = or_right (is_number t) (list_any (is_same t) (others ++ t ∷ [])) (has-last others t);
    }

-- a term that has a width is a number that fits, or it is its own
pub own_width : (t : Term) (bits : ℕ) → HasWidth bits t → ((n : ℕ) × (t ≡ Number n) × (n < 2 ^ bits)) ⊎ (IsTrue (not (is_number t)) × (bits ≡ width_of t))
own_width (Number n) bits h = inl (n, refl, h)
own_width (Symbol k wide) bits h = inr (refl, h)
own_width (Unary op a) bits h = inr (refl, h.0)
own_width (Binary op a b) bits h = inr (refl, h.0)
own_width (Choose wide c a b) bits h = inr (refl, h.0)
own_width (Byte a i) bits h = inr (refl, h.0)
own_width (Join wide bytes) bits h = inr (refl, h.0)

-- a condition's width
pub one_width : (t : Term) → HasWidth 8 t ⊎ HasWidth 32 t ⊎ HasWidth 64 t → (bits : ℕ) × HasWidth bits t
one_width t (inl h) = (8, h)
one_width t (inr (inl h)) = (32, h)
one_width t (inr (inr h)) = (64, h)

-- a term of some width over symbols that were drawn
mutual
  adds : (draws : List Bool) (t : Term) (bits : ℕ) → HasWidth bits t → HasSymbols draws t → (seen : List Term) → Ordered draws [] seen
      → Adds draws seen (with_terms t seen) (Ready (with_terms t seen) t)
  adds draws (Number n) bits typed drawn seen o = record { ordered = o; kept = λ a h. h; here = refl }
  adds draws (Symbol k wide) bits typed drawn seen o =
      adds-once draws seen (Symbol k wide) seen o o (λ a h. h) tt (record { no_number = refl; typed = refl; drawn = drawn })
  adds draws (Unary op a) bits typed drawn seen o =
      let first = adds draws a (operand_bits op) typed.2 drawn seen o in
      adds-once draws (with_terms a seen) (Unary op a) seen o first.ordered first.kept first.here
      (record { no_number = refl; typed = (refl, typed.1, typed.2); drawn = drawn })
  adds draws (Binary op a b) bits typed drawn seen o =
      let first = adds draws a (operand_bits op) typed.2 drawn.0 seen o in
      let second = adds draws b (operand_bits op) typed.3 drawn.1 (with_terms a seen) first.ordered in
      adds-once draws (with_terms b (with_terms a seen)) (Binary op a b) seen o second.ordered (λ x h. second.kept x (first.kept x h))
      (kept-ready (with_terms a seen) (with_terms b (with_terms a seen)) second.kept a first.here, second.here)
      (record { no_number = refl; typed = (refl, typed.1, typed.2, typed.3); drawn = drawn })
  adds draws (Choose wide c a b) bits typed drawn seen o =
      let width = one_width c typed.1 in
      let zeroth = adds draws c width.0 width.1 drawn.0 seen o in
      let first = adds draws a (bits_where wide) typed.2 drawn.1 (with_terms c seen) zeroth.ordered in
      let second = adds draws b (bits_where wide) typed.3 drawn.2 (with_terms a (with_terms c seen)) first.ordered in
      adds-once draws (with_terms b (with_terms a (with_terms c seen))) (Choose wide c a b) seen o second.ordered (λ x h. second.kept x (first.kept x (zeroth.kept x h))) (
        kept-ready (with_terms c seen) (with_terms b (with_terms a (with_terms c seen))) (λ x h. second.kept x (first.kept x h)) c zeroth.here,
        kept-ready (with_terms a (with_terms c seen)) (with_terms b (with_terms a (with_terms c seen))) second.kept a first.here,
        second.here,
      )
      (record { no_number = refl; typed = (refl, typed.1, typed.2, typed.3); drawn = drawn })
  adds draws (Byte a i) bits typed drawn seen o =
      let width = one_width a typed.2 in
      let first = adds draws a width.0 width.1 drawn seen o in
      adds-once draws (with_terms a seen) (Byte a i) seen o first.ordered first.kept first.here
      (record { no_number = refl; typed = (refl, typed.1, typed.2); drawn = drawn })
  adds draws (Join wide bytes) bits typed drawn seen o =
      let all = adds-bytes draws bytes typed.2 drawn seen o in
      adds-once draws (with_bytes bytes seen) (Join wide bytes) seen o all.ordered all.kept all.here
      (record { no_number = refl; typed = (refl, typed.1, typed.2); drawn = drawn })

  adds-bytes : (draws : List Bool) (bytes : Bytes) → HaveByteWidths bytes → HaveSymbols draws bytes → (seen : List Term) → Ordered draws [] seen
      → Adds draws seen (with_bytes bytes seen) (BytesReady (with_bytes bytes seen) bytes)
  adds-bytes draws NoBytes typed drawn seen o = record { ordered = o; kept = λ a h. h; here = tt }
  adds-bytes draws (Then t rest) typed drawn seen o =
      let first = adds draws t 8 typed.0 drawn.0 seen o in
      let others = adds-bytes draws rest typed.1 drawn.1 (with_terms t seen) first.ordered in
      record {
        ordered = others.ordered;
        kept = λ x h. others.kept x (first.kept x h);
        here = (kept-ready (with_terms t seen) (with_bytes rest (with_terms t seen)) others.kept t first.here, others.here);
      }

-- ---- conditions, and what is to be least

pub conditions-ordered : (draws : List Bool) (conditions : List Condition) → AreProper draws conditions → (seen : List Term) → Ordered draws [] seen
    → Adds draws seen (with_conditions conditions seen) (All (λ condition. Ready (with_conditions conditions seen) condition.0) conditions)
conditions-ordered draws [] proper seen o = record { ordered = o; kept = λ a h. h; here = λ k d h. absurd (omega arith) }
conditions-ordered draws (condition ∷ conditions) proper seen o =
    let p = All-head (λ (condition : Condition). IsProper draws condition.0) condition conditions proper in
    let first = adds draws condition.0 (width_of condition.0) p.typed p.drawn seen o in
    let rest = conditions-ordered draws conditions (All-tail (λ (condition : Condition). IsProper draws condition.0) condition conditions proper) (with_terms condition.0 seen) first.ordered in
    record {
      ordered = rest.ordered;
      kept = λ a h. rest.kept a (first.kept a h);
      here = All-cons (λ (c : Condition). Ready (with_conditions conditions (with_terms condition.0 seen)) c.0) condition conditions
          (kept-ready (with_terms condition.0 seen) (with_conditions conditions (with_terms condition.0 seen)) rest.kept condition.0 first.here) rest.here;
    }

abbrev pub FirstReady : List Term → Option Term → Type 0
FirstReady seen None = Unit {0}
FirstReady seen (Some t) = Ready seen t

first-ordered : (draws : List Bool) (first : Option Term) → CanBeLeast draws first → (seen : List Term) → Ordered draws [] seen
    → Adds draws seen (with_first first seen) (FirstReady (with_first first seen) first)
first-ordered draws None proper seen o = record { ordered = o; kept = λ a h. h; here = tt }
first-ordered draws (Some t) proper seen o = adds draws t (width_of t) proper.0.typed proper.0.drawn seen o

-- all terms in their order
pub record InOrder (draws : List Bool) (conditions : List Condition) (first : Option Term) : Type 0 where
  pub ordered : Ordered draws [] (terms_in_order conditions first)
  pub conditions_ready : All (λ condition. Ready (terms_in_order conditions first) condition.0) conditions
  pub first_ready : FirstReady (terms_in_order conditions first) first

pub in_order : (draws : List Bool) (conditions : List Condition) (first : Option Term) → AreProper draws conditions → CanBeLeast draws first → InOrder draws conditions first
in_order draws conditions first proper least =
    let some = conditions-ordered draws conditions proper [] tt in
    let all = first-ordered draws first least (with_conditions conditions []) some.ordered in
    record {
      ordered = all.ordered;
      conditions_ready = λ k d h. kept-ready (with_conditions conditions []) (terms_in_order conditions first) all.kept _ (some.here k d h);
      first_ready = all.here;
    }
