-- The clauses of a gate are met exactly where it has its value.
use Rattle.std.proofs.Common.{◌≡◌, ℕ, ◌+◌, Bool, true, false, not, ◌&&◌, ◌||◌, if◌then◌else◌, IsTrue, ◌⊎◌, inl, inr, List, [], ◌∷◌, ◌++◌, length, refl, sym, ap, ◌∙◌, subst}
use Rattle.std.proofs.lemmas.Bool.{false≢true}
use Rattle.refute_check.specs.Clauses.{Clause, Assignment, HasLiteral, Satisfies, SatisfiesAll, positive, negative, variable_of, sign_of}
use Rattle.refute_check.specs.Resolution.{each_once}
use Rattle.refute_check.proofs.Membership.{has-holds, holds-has, has-each_once}
use Rattle.bit_blast.specs.declared.gates.Gate.{Gate}
use Rattle.bit_blast.specs.declared.gates.Gate.TheVariants.{And, Xor, Mux, Maj, Same}
use Rattle.bit_blast.specs.Gates.{negation, gate_clauses, clauses_from}
use Rattle.bit_blast.specs.Meanings.{holds, differ, gate_value, HaveValues}
use Rattle.bit_blast.proofs.WireLemmas.{holds_positive, holds_negative, holds_negation}

-- ---- clauses

-- a literal is made true where it holds as a wire
pub made_true : (s : Assignment) (l : ℕ) → s (variable_of l) ≡ sign_of l → IsTrue (holds s l)
made_true s l e = go (sign_of l) (s (variable_of l)) e
  where
    go : (b v : Bool) → v ≡ b → IsTrue (if b then v else not v)
    go true v e = e
    go false v e = ap not e

pub true_made : (s : Assignment) (l : ℕ) → IsTrue (holds s l) → s (variable_of l) ≡ sign_of l
true_made s l h = go (sign_of l) (s (variable_of l)) h
  where
    go : (b v : Bool) → IsTrue (if b then v else not v) → v ≡ b
    go true v h = h
    go false true h = absurd (false≢true h)
    go false false h = refl

-- whether a literal of a clause holds
abbrev pub any : Assignment → Clause → Bool
any s [] = false
any s (l ∷ clause) = holds s l || any s clause

pub or_left : (a b : Bool) → IsTrue a → IsTrue (a || b)
or_left true b h = refl
or_left false b h = absurd (false≢true h)

pub or_right : (a b : Bool) → IsTrue b → IsTrue (a || b)
or_right true b h = refl
or_right false b h = h

pub or_cases : (a b : Bool) → IsTrue (a || b) → IsTrue a ⊎ IsTrue b
or_cases true b h = inl refl
or_cases false b h = inr h

holds-any : (s : Assignment) (l : ℕ) (clause : Clause) → HasLiteral l clause → IsTrue (holds s l) → IsTrue (any s clause)
holds-any s l [] h t = absurd h
holds-any s l (k ∷ clause) (inl e) t = or_left (holds s k) (any s clause) (subst (λ (n : ℕ). IsTrue (holds s n)) e t)
holds-any s l (k ∷ clause) (inr h) t = or_right (holds s k) (any s clause) (holds-any s l clause h t)

pub meets-any : (s : Assignment) (clause : Clause) → Satisfies s clause → IsTrue (any s clause)
meets-any s clause m = holds-any s m.0 clause m.1 (made_true s m.0 m.2)

pub any-meets : (s : Assignment) (clause : Clause) → IsTrue (any s clause) → Satisfies s clause
any-meets s [] h = absurd (false≢true h)
any-meets s (k ∷ clause) h = go (λ h. any-meets s clause h) (or_cases (holds s k) (any s clause) h)
  where
    go : (IsTrue (any s clause) → Satisfies s clause) → IsTrue (holds s k) ⊎ IsTrue (any s clause) → Satisfies s (k ∷ clause)
    go rec (inl t) = (k, inl refl, true_made s k t)
    go rec (inr t) = let m = rec t in (m.0, inr m.1, m.2)

-- repeated literals change nothing
pub once-meets : (s : Assignment) (clause : Clause) → Satisfies s (each_once clause) → Satisfies s clause
once-meets s clause m = (m.0, has-holds clause m.0 (sym (has-each_once clause m.0) ∙ holds-has (each_once clause) m.0 m.1), m.2)

pub meets-once : (s : Assignment) (clause : Clause) → Satisfies s clause → Satisfies s (each_once clause)
meets-once s clause m = (m.0, has-holds (each_once clause) m.0 (has-each_once clause m.0 ∙ holds-has clause m.0 m.1), m.2)

-- clauses of two and of three literals, whose values are these
two : (s : Assignment) (k l : ℕ) (a b : Bool) → holds s k ≡ a → holds s l ≡ b → Satisfies s (each_once (k ∷ l ∷ [])) → IsTrue (a || (b || false))
two s k l a b e f m = subst (λ (x : Bool). IsTrue (a || (x || false))) f (subst (λ (x : Bool). IsTrue (x || (holds s l || false))) e (meets-any s (k ∷ l ∷ []) (once-meets s (k ∷ l ∷ []) m)))

from_two : (s : Assignment) (k l : ℕ) (a b : Bool) → holds s k ≡ a → holds s l ≡ b → IsTrue (a || (b || false)) → Satisfies s (each_once (k ∷ l ∷ []))
from_two s k l a b e f h = meets-once s (k ∷ l ∷ []) (any-meets s (k ∷ l ∷ []) (subst (λ (x : Bool). IsTrue (x || (holds s l || false))) (sym e) (subst (λ (x : Bool). IsTrue (a || (x || false))) (sym f) h)))

three : (s : Assignment) (k l m : ℕ) (a b c : Bool) → holds s k ≡ a → holds s l ≡ b → holds s m ≡ c → Satisfies s (each_once (k ∷ l ∷ m ∷ [])) → IsTrue (a || (b || (c || false)))
three s k l m a b c e f g h =
    subst (λ (x : Bool). IsTrue (a || (b || (x || false)))) g (subst (λ (x : Bool). IsTrue (a || (x || (holds s m || false)))) f (subst (λ (x : Bool). IsTrue (x || (holds s l || (holds s m || false)))) e
    (meets-any s (k ∷ l ∷ m ∷ []) (once-meets s (k ∷ l ∷ m ∷ []) h))))

from_three : (s : Assignment) (k l m : ℕ) (a b c : Bool) → holds s k ≡ a → holds s l ≡ b → holds s m ≡ c → IsTrue (a || (b || (c || false))) → Satisfies s (each_once (k ∷ l ∷ m ∷ []))
from_three s k l m a b c e f g h =
    meets-once s (k ∷ l ∷ m ∷ []) (any-meets s (k ∷ l ∷ m ∷ []) (subst (λ (x : Bool). IsTrue (x || (holds s l || (holds s m || false)))) (sym e) (subst (λ (x : Bool). IsTrue (a || (x || (holds s m || false)))) (sym f)
    (subst (λ (x : Bool). IsTrue (a || (b || (x || false)))) (sym g) h))))

-- ---- the tables of the gates, where z is the gate's value

and_table : (z a b : Bool) → IsTrue (not z || (a || false)) → IsTrue (not z || (b || false)) → IsTrue (z || (not a || (not b || false))) → z ≡ (a && b)
and_table true true true h0 h1 h2 = cc
and_table true true false h0 h1 h2 = cc
and_table true false true h0 h1 h2 = cc
and_table true false false h0 h1 h2 = cc
and_table false true true h0 h1 h2 = cc
and_table false true false h0 h1 h2 = cc
and_table false false true h0 h1 h2 = cc
and_table false false false h0 h1 h2 = cc

and_back : (z a b : Bool) → z ≡ (a && b) → IsTrue (not z || (a || false)) × IsTrue (not z || (b || false)) × IsTrue (z || (not a || (not b || false)))
and_back true true true e = (cc, cc, cc)
and_back true true false e = (cc, cc, cc)
and_back true false true e = (cc, cc, cc)
and_back true false false e = (cc, cc, cc)
and_back false true true e = (cc, cc, cc)
and_back false true false e = (cc, cc, cc)
and_back false false true e = (cc, cc, cc)
and_back false false false e = (cc, cc, cc)

xor_table : (z a b : Bool) → IsTrue (not z || (a || (b || false))) → IsTrue (not z || (not a || (not b || false))) → IsTrue (z || (not a || (b || false))) → IsTrue (z || (a || (not b || false))) → z ≡ (differ a b)
xor_table true true true h0 h1 h2 h3 = cc
xor_table true true false h0 h1 h2 h3 = cc
xor_table true false true h0 h1 h2 h3 = cc
xor_table true false false h0 h1 h2 h3 = cc
xor_table false true true h0 h1 h2 h3 = cc
xor_table false true false h0 h1 h2 h3 = cc
xor_table false false true h0 h1 h2 h3 = cc
xor_table false false false h0 h1 h2 h3 = cc

xor_back : (z a b : Bool) → z ≡ (differ a b) → IsTrue (not z || (a || (b || false))) × IsTrue (not z || (not a || (not b || false))) × IsTrue (z || (not a || (b || false))) × IsTrue (z || (a || (not b || false)))
xor_back true true true e = (cc, cc, cc, cc)
xor_back true true false e = (cc, cc, cc, cc)
xor_back true false true e = (cc, cc, cc, cc)
xor_back true false false e = (cc, cc, cc, cc)
xor_back false true true e = (cc, cc, cc, cc)
xor_back false true false e = (cc, cc, cc, cc)
xor_back false false true e = (cc, cc, cc, cc)
xor_back false false false e = (cc, cc, cc, cc)

mux_table : (z c a b : Bool) → IsTrue (not c || (not a || (z || false))) → IsTrue (not c || (a || (not z || false))) → IsTrue (c || (not b || (z || false))) → IsTrue (c || (b || (not z || false))) → z ≡ (if c then a else b)
mux_table true true true true h0 h1 h2 h3 = cc
mux_table true true true false h0 h1 h2 h3 = cc
mux_table true true false true h0 h1 h2 h3 = cc
mux_table true true false false h0 h1 h2 h3 = cc
mux_table true false true true h0 h1 h2 h3 = cc
mux_table true false true false h0 h1 h2 h3 = cc
mux_table true false false true h0 h1 h2 h3 = cc
mux_table true false false false h0 h1 h2 h3 = cc
mux_table false true true true h0 h1 h2 h3 = cc
mux_table false true true false h0 h1 h2 h3 = cc
mux_table false true false true h0 h1 h2 h3 = cc
mux_table false true false false h0 h1 h2 h3 = cc
mux_table false false true true h0 h1 h2 h3 = cc
mux_table false false true false h0 h1 h2 h3 = cc
mux_table false false false true h0 h1 h2 h3 = cc
mux_table false false false false h0 h1 h2 h3 = cc

mux_back : (z c a b : Bool) → z ≡ (if c then a else b) → IsTrue (not c || (not a || (z || false))) × IsTrue (not c || (a || (not z || false))) × IsTrue (c || (not b || (z || false))) × IsTrue (c || (b || (not z || false)))
mux_back true true true true e = (cc, cc, cc, cc)
mux_back true true true false e = (cc, cc, cc, cc)
mux_back true true false true e = (cc, cc, cc, cc)
mux_back true true false false e = (cc, cc, cc, cc)
mux_back true false true true e = (cc, cc, cc, cc)
mux_back true false true false e = (cc, cc, cc, cc)
mux_back true false false true e = (cc, cc, cc, cc)
mux_back true false false false e = (cc, cc, cc, cc)
mux_back false true true true e = (cc, cc, cc, cc)
mux_back false true true false e = (cc, cc, cc, cc)
mux_back false true false true e = (cc, cc, cc, cc)
mux_back false true false false e = (cc, cc, cc, cc)
mux_back false false true true e = (cc, cc, cc, cc)
mux_back false false true false e = (cc, cc, cc, cc)
mux_back false false false true e = (cc, cc, cc, cc)
mux_back false false false false e = (cc, cc, cc, cc)

maj_table : (z a b c : Bool) → IsTrue (not a || (not b || (z || false))) → IsTrue (not a || (not c || (z || false))) → IsTrue (not b || (not c || (z || false))) → IsTrue (a || (b || (not z || false))) → IsTrue (a || (c || (not z || false))) → IsTrue (b || (c || (not z || false))) → z ≡ (if a then b || c else b && c)
maj_table true true true true h0 h1 h2 h3 h4 h5 = cc
maj_table true true true false h0 h1 h2 h3 h4 h5 = cc
maj_table true true false true h0 h1 h2 h3 h4 h5 = cc
maj_table true true false false h0 h1 h2 h3 h4 h5 = cc
maj_table true false true true h0 h1 h2 h3 h4 h5 = cc
maj_table true false true false h0 h1 h2 h3 h4 h5 = cc
maj_table true false false true h0 h1 h2 h3 h4 h5 = cc
maj_table true false false false h0 h1 h2 h3 h4 h5 = cc
maj_table false true true true h0 h1 h2 h3 h4 h5 = cc
maj_table false true true false h0 h1 h2 h3 h4 h5 = cc
maj_table false true false true h0 h1 h2 h3 h4 h5 = cc
maj_table false true false false h0 h1 h2 h3 h4 h5 = cc
maj_table false false true true h0 h1 h2 h3 h4 h5 = cc
maj_table false false true false h0 h1 h2 h3 h4 h5 = cc
maj_table false false false true h0 h1 h2 h3 h4 h5 = cc
maj_table false false false false h0 h1 h2 h3 h4 h5 = cc

maj_back : (z a b c : Bool) → z ≡ (if a then b || c else b && c) → IsTrue (not a || (not b || (z || false))) × IsTrue (not a || (not c || (z || false))) × IsTrue (not b || (not c || (z || false))) × IsTrue (a || (b || (not z || false))) × IsTrue (a || (c || (not z || false))) × IsTrue (b || (c || (not z || false)))
maj_back true true true true e = (cc, cc, cc, cc, cc, cc)
maj_back true true true false e = (cc, cc, cc, cc, cc, cc)
maj_back true true false true e = (cc, cc, cc, cc, cc, cc)
maj_back true true false false e = (cc, cc, cc, cc, cc, cc)
maj_back true false true true e = (cc, cc, cc, cc, cc, cc)
maj_back true false true false e = (cc, cc, cc, cc, cc, cc)
maj_back true false false true e = (cc, cc, cc, cc, cc, cc)
maj_back true false false false e = (cc, cc, cc, cc, cc, cc)
maj_back false true true true e = (cc, cc, cc, cc, cc, cc)
maj_back false true true false e = (cc, cc, cc, cc, cc, cc)
maj_back false true false true e = (cc, cc, cc, cc, cc, cc)
maj_back false true false false e = (cc, cc, cc, cc, cc, cc)
maj_back false false true true e = (cc, cc, cc, cc, cc, cc)
maj_back false false true false e = (cc, cc, cc, cc, cc, cc)
maj_back false false false true e = (cc, cc, cc, cc, cc, cc)
maj_back false false false false e = (cc, cc, cc, cc, cc, cc)

same_table : (z a : Bool) → IsTrue (not z || (a || false)) → IsTrue (z || (not a || false)) → z ≡ (a)
same_table true true h0 h1 = cc
same_table true false h0 h1 = cc
same_table false true h0 h1 = cc
same_table false false h0 h1 = cc

same_back : (z a : Bool) → z ≡ (a) → IsTrue (not z || (a || false)) × IsTrue (z || (not a || false))
same_back true true e = (cc, cc)
same_back true false e = (cc, cc)
same_back false true e = (cc, cc)
same_back false false e = (cc, cc)

-- ---- the clauses of gates

pub gate_meets : (s : Assignment) (z : ℕ) (gate : Gate) → SatisfiesAll s (gate_clauses z gate) → s z ≡ gate_value s gate
gate_meets s z (And a b) h =
    and_table (s z) (holds s a) (holds s b)
    (two s (negative z) a (not (s z)) (holds s a) (holds_negative s z) refl h.0)
    (two s (negative z) b (not (s z)) (holds s b) (holds_negative s z) refl h.1.0)
    (three s (positive z) (negation a) (negation b) (s z) (not (holds s a)) (not (holds s b)) (holds_positive s z) (holds_negation s a) (holds_negation s b) h.1.1.0)
gate_meets s z (Xor a b) h =
    xor_table (s z) (holds s a) (holds s b)
    (three s (negative z) a b (not (s z)) (holds s a) (holds s b) (holds_negative s z) refl refl h.0)
    (three s (negative z) (negation a) (negation b) (not (s z)) (not (holds s a)) (not (holds s b)) (holds_negative s z) (holds_negation s a) (holds_negation s b) h.1.0)
    (three s (positive z) (negation a) b (s z) (not (holds s a)) (holds s b) (holds_positive s z) (holds_negation s a) refl h.1.1.0)
    (three s (positive z) a (negation b) (s z) (holds s a) (not (holds s b)) (holds_positive s z) refl (holds_negation s b) h.1.1.1.0)
gate_meets s z (Mux c a b) h =
    mux_table (s z) (holds s c) (holds s a) (holds s b)
    (three s (negation c) (negation a) (positive z) (not (holds s c)) (not (holds s a)) (s z) (holds_negation s c) (holds_negation s a) (holds_positive s z) h.0)
    (three s (negation c) a (negative z) (not (holds s c)) (holds s a) (not (s z)) (holds_negation s c) refl (holds_negative s z) h.1.0)
    (three s c (negation b) (positive z) (holds s c) (not (holds s b)) (s z) refl (holds_negation s b) (holds_positive s z) h.1.1.0)
    (three s c b (negative z) (holds s c) (holds s b) (not (s z)) refl refl (holds_negative s z) h.1.1.1.0)
gate_meets s z (Maj a b c) h =
    maj_table (s z) (holds s a) (holds s b) (holds s c)
    (three s (negation a) (negation b) (positive z) (not (holds s a)) (not (holds s b)) (s z) (holds_negation s a) (holds_negation s b) (holds_positive s z) h.0)
    (three s (negation a) (negation c) (positive z) (not (holds s a)) (not (holds s c)) (s z) (holds_negation s a) (holds_negation s c) (holds_positive s z) h.1.0)
    (three s (negation b) (negation c) (positive z) (not (holds s b)) (not (holds s c)) (s z) (holds_negation s b) (holds_negation s c) (holds_positive s z) h.1.1.0)
    (three s a b (negative z) (holds s a) (holds s b) (not (s z)) refl refl (holds_negative s z) h.1.1.1.0)
    (three s a c (negative z) (holds s a) (holds s c) (not (s z)) refl refl (holds_negative s z) h.1.1.1.1.0)
    (three s b c (negative z) (holds s b) (holds s c) (not (s z)) refl refl (holds_negative s z) h.1.1.1.1.1.0)
gate_meets s z (Same a) h =
    same_table (s z) (holds s a)
    (two s (negative z) a (not (s z)) (holds s a) (holds_negative s z) refl h.0)
    (two s (positive z) (negation a) (s z) (not (holds s a)) (holds_positive s z) (holds_negation s a) h.1.0)

pub meets_gate : (s : Assignment) (z : ℕ) (gate : Gate) → s z ≡ gate_value s gate → SatisfiesAll s (gate_clauses z gate)
meets_gate s z (And a b) e =
    let t = and_back (s z) (holds s a) (holds s b) e in (
      from_two s (negative z) a (not (s z)) (holds s a) (holds_negative s z) refl t.0,
      (
        from_two s (negative z) b (not (s z)) (holds s b) (holds_negative s z) refl t.1,
        (
          from_three s (positive z) (negation a) (negation b) (s z) (not (holds s a)) (not (holds s b)) (holds_positive s z) (holds_negation s a) (holds_negation s b) t.2,
          tt,
        ),
      ),
    )
meets_gate s z (Xor a b) e =
    let t = xor_back (s z) (holds s a) (holds s b) e in (
      from_three s (negative z) a b (not (s z)) (holds s a) (holds s b) (holds_negative s z) refl refl t.0,
      (
        from_three s (negative z) (negation a) (negation b) (not (s z)) (not (holds s a)) (not (holds s b)) (holds_negative s z) (holds_negation s a) (holds_negation s b) t.1,
        (
          from_three s (positive z) (negation a) b (s z) (not (holds s a)) (holds s b) (holds_positive s z) (holds_negation s a) refl t.2,
          (
            from_three s (positive z) a (negation b) (s z) (holds s a) (not (holds s b)) (holds_positive s z) refl (holds_negation s b) t.3,
            tt,
          ),
        ),
      ),
    )
meets_gate s z (Mux c a b) e =
    let t = mux_back (s z) (holds s c) (holds s a) (holds s b) e in (
      from_three s (negation c) (negation a) (positive z) (not (holds s c)) (not (holds s a)) (s z) (holds_negation s c) (holds_negation s a) (holds_positive s z) t.0,
      (
        from_three s (negation c) a (negative z) (not (holds s c)) (holds s a) (not (s z)) (holds_negation s c) refl (holds_negative s z) t.1,
        (
          from_three s c (negation b) (positive z) (holds s c) (not (holds s b)) (s z) refl (holds_negation s b) (holds_positive s z) t.2,
          (
            from_three s c b (negative z) (holds s c) (holds s b) (not (s z)) refl refl (holds_negative s z) t.3,
            tt,
          ),
        ),
      ),
    )
meets_gate s z (Maj a b c) e =
    let t = maj_back (s z) (holds s a) (holds s b) (holds s c) e in (
      from_three s (negation a) (negation b) (positive z) (not (holds s a)) (not (holds s b)) (s z) (holds_negation s a) (holds_negation s b) (holds_positive s z) t.0,
      (
        from_three s (negation a) (negation c) (positive z) (not (holds s a)) (not (holds s c)) (s z) (holds_negation s a) (holds_negation s c) (holds_positive s z) t.1,
        (
          from_three s (negation b) (negation c) (positive z) (not (holds s b)) (not (holds s c)) (s z) (holds_negation s b) (holds_negation s c) (holds_positive s z) t.2,
          (
            from_three s a b (negative z) (holds s a) (holds s b) (not (s z)) refl refl (holds_negative s z) t.3,
            (
              from_three s a c (negative z) (holds s a) (holds s c) (not (s z)) refl refl (holds_negative s z) t.4,
              (
                from_three s b c (negative z) (holds s b) (holds s c) (not (s z)) refl refl (holds_negative s z) t.5,
                tt,
              ),
            ),
          ),
        ),
      ),
    )
meets_gate s z (Same a) e =
    let t = same_back (s z) (holds s a) e in (
      from_two s (negative z) a (not (s z)) (holds s a) (holds_negative s z) refl t.0,
      (
        from_two s (positive z) (negation a) (s z) (not (holds s a)) (holds_positive s z) (holds_negation s a) t.1,
        tt,
      ),
    )

-- ---- clauses of many gates

pub meets_all-append : (s : Assignment) (first second : List Clause) → SatisfiesAll s first → SatisfiesAll s second → SatisfiesAll s (first ++ second)
meets_all-append s [] second h k = k
meets_all-append s (clause ∷ first) second h k = (h.0, meets_all-append s first second h.1 k)

pub meets_all-first : (s : Assignment) (first second : List Clause) → SatisfiesAll s (first ++ second) → SatisfiesAll s first
meets_all-first s [] second h = tt
meets_all-first s (clause ∷ first) second h = (h.0, meets_all-first s first second h.1)

pub meets_all-second : (s : Assignment) (first second : List Clause) → SatisfiesAll s (first ++ second) → SatisfiesAll s second
meets_all-second s [] second h = h
meets_all-second s (clause ∷ first) second h = meets_all-second s first second h.1

pub gates_meet : (s : Assignment) (first : ℕ) (gates : List Gate) → SatisfiesAll s (clauses_from first gates) → HaveValues s first gates
gates_meet s first [] h = tt
gates_meet s first (gate ∷ earlier) h = (
  gate_meets s (first + length earlier) gate (meets_all-second s (clauses_from first earlier) (gate_clauses (first + length earlier) gate) h),
  gates_meet s first earlier (meets_all-first s (clauses_from first earlier) (gate_clauses (first + length earlier) gate) h),
)

pub meet_gates : (s : Assignment) (first : ℕ) (gates : List Gate) → HaveValues s first gates → SatisfiesAll s (clauses_from first gates)
meet_gates s first [] h = tt
meet_gates s first (gate ∷ earlier) h =
    meets_all-append s (clauses_from first earlier) (gate_clauses (first + length earlier) gate) (meet_gates s first earlier h.1) (meets_gate s (first + length earlier) gate h.0)
