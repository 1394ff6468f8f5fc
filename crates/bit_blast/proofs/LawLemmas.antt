-- An assignment meets the clauses exactly where it gives each gate its value at an input that meets the conditions.
use Rattle.std.proofs.Common.{◌≡◌, ◌≢◌, ℕ, ◌+◌, ◌*◌, Bool, true, false, not, ◌||◌, IsTrue, List, [], ◌∷◌, map, flat_map, refl, sym, ap, ◌∙◌, subst, arith, All, Option}
use Rattle.std.proofs.lemmas.Bool.{false≢true}
use Rattle.std.proofs.lemmas.List.Elements.{All-head, All-tail, All-cons, All-nil}
use Rattle.bv_terms.specs.Terms.{Term, value_of}
use Rattle.refute_check.specs.Clauses.{Clause, Assignment, Satisfies, SatisfiesAll}
use Rattle.bit_blast.specs.Gates.{Wires, true_wire, negation, clauses_from}
use Rattle.bit_blast.specs.Formulas.{Condition, Known, wires_in, condition_clauses, built, formula}
use Rattle.bit_blast.specs.Meanings.{holds, bit, input_of, IsAnswered, AreProper, CanBeLeast, Computes}
use Rattle.bit_blast.proofs.BitNumbers.{number}
use Rattle.bit_blast.proofs.WireLemmas.{read, holds_negation, holds_true}
use Rattle.bit_blast.proofs.OrderLemmas.{InOrder, in_order}
use Rattle.bit_blast.proofs.BuildLemmas.{Reads, all_read}
use Rattle.bit_blast.proofs.ClauseLemmas.{any, true_made, meets-any, any-meets, once-meets, meets-once, meets_all-append, meets_all-first, meets_all-second, gates_meet, meet_gates}

-- ---- a term's wires

-- one of them is true where the number isn't 0
any-some : (s : Assignment) (ws : Wires) → IsTrue (any s ws) → number (read s ws) ≢ 0
any-some s [] h e = absurd (false≢true h)
any-some s (w ∷ ws) h e = go (holds s w) (λ h e. any-some s ws h e) h e
  where
    go : (b : Bool) → (IsTrue (any s ws) → number (read s ws) ≢ 0) → IsTrue (b || any s ws) → bit b + 2 * number (read s ws) ≡ 0 → ⊥
    go true rec h e = omega arith
    go false rec h e = rec h (omega arith)

some-any : (s : Assignment) (ws : Wires) → number (read s ws) ≢ 0 → IsTrue (any s ws)
some-any s [] h = absurd (h refl)
some-any s (w ∷ ws) h = go (holds s w) (λ h. some-any s ws h) h
  where
    go : (b : Bool) → (number (read s ws) ≢ 0 → IsTrue (any s ws)) → (bit b + 2 * number (read s ws) ≢ 0) → IsTrue (b || any s ws)
    go true rec h = refl
    go false rec h = rec (λ e. h (omega arith))

-- none is where it is 0
none-zero : (s : Assignment) (ws : Wires) → SatisfiesAll s (map (λ wire. negation wire ∷ []) ws) → number (read s ws) ≡ 0
none-zero s [] h = refl
none-zero s (w ∷ ws) h =
    let rest = none-zero s ws h.1 in
    go (holds s w) (number (read s ws)) rest (alone (holds s (negation w)) (meets-any s (negation w ∷ []) h.0)) (holds_negation s w)
  where
    alone : (b : Bool) → IsTrue (b || false) → b ≡ true
    alone true h = refl
    alone false h = absurd (false≢true h)

    go : (b : Bool) (n : ℕ) → n ≡ 0 → holds s (negation w) ≡ true → holds s (negation w) ≡ not b → bit b + 2 * n ≡ 0
    go true n e f g = cc
    go false n e f g = omega arith

zero-none : (s : Assignment) (ws : Wires) → number (read s ws) ≡ 0 → SatisfiesAll s (map (λ wire. negation wire ∷ []) ws)
zero-none s [] e = tt
zero-none s (w ∷ ws) e = go (holds s w) refl (λ e. zero-none s ws e) e
  where
    clear : holds s w ≡ false → Satisfies s (negation w ∷ [])
    clear f = any-meets s (negation w ∷ []) (subst (λ (b : Bool). IsTrue (b || false)) (sym (holds_negation s w ∙ ap not f)) refl)

    go : (b : Bool) → holds s w ≡ b → (number (read s ws) ≡ 0 → SatisfiesAll s (map (λ wire. negation wire ∷ []) ws)) → bit b + 2 * number (read s ws) ≡ 0
        → SatisfiesAll s (map (λ wire. negation wire ∷ []) (w ∷ ws))
    go true f rec e = absurd (omega arith)
    go false f rec e = (clear f, rec (omega arith))

-- ---- conditions

-- the wires of a condition's term have its value
abbrev Right : Assignment → List ℕ → Known → Condition → Type 0
Right s input known condition = number (read s (wires_in known condition.0)) ≡ value_of input condition.0

condition-answered : (s : Assignment) (input : List ℕ) (known : Known) (condition : Condition) → Right s input known condition
    → SatisfiesAll s (condition_clauses known condition) → IsAnswered input condition
condition-answered s input known (t, true) right h =
    subst (λ (n : ℕ). n ≢ 0) right (any-some s (wires_in known t) (meets-any s (wires_in known t) (once-meets s (wires_in known t) h.0)))
condition-answered s input known (t, false) right h = sym right ∙ none-zero s (wires_in known t) h

answered-condition : (s : Assignment) (input : List ℕ) (known : Known) (condition : Condition) → Right s input known condition
    → IsAnswered input condition → SatisfiesAll s (condition_clauses known condition)
answered-condition s input known (t, true) right h =
    (meets-once s (wires_in known t) (any-meets s (wires_in known t) (some-any s (wires_in known t) (subst (λ (n : ℕ). n ≢ 0) (sym right) h))), tt)
answered-condition s input known (t, false) right h = zero-none s (wires_in known t) (right ∙ h)

conditions-answered : (s : Assignment) (input : List ℕ) (known : Known) (conditions : List Condition) → All (Right s input known) conditions
    → SatisfiesAll s (flat_map (condition_clauses known) conditions) → All (IsAnswered input) conditions
conditions-answered s input known [] right h = All-nil (IsAnswered input)
conditions-answered s input known (condition ∷ conditions) right h =
    All-cons (IsAnswered input) condition conditions
    (condition-answered s input known condition (All-head (Right s input known) condition conditions right)
    (meets_all-first s (condition_clauses known condition) (flat_map (condition_clauses known) conditions) h))
    (conditions-answered s input known conditions (All-tail (Right s input known) condition conditions right)
    (meets_all-second s (condition_clauses known condition) (flat_map (condition_clauses known) conditions) h))

answered-conditions : (s : Assignment) (input : List ℕ) (known : Known) (conditions : List Condition) → All (Right s input known) conditions
    → All (IsAnswered input) conditions → SatisfiesAll s (flat_map (condition_clauses known) conditions)
answered-conditions s input known [] right h = tt
answered-conditions s input known (condition ∷ conditions) right h =
    meets_all-append s (condition_clauses known condition) (flat_map (condition_clauses known) conditions)
    (answered-condition s input known condition (All-head (Right s input known) condition conditions right) (All-head (IsAnswered input) condition conditions h))
    (answered-conditions s input known conditions (All-tail (Right s input known) condition conditions right) (All-tail (IsAnswered input) condition conditions h))

-- ---- the law

all_right : (s : Assignment) (draws : List Bool) (conditions : List Condition) (first : Option Term) → AreProper draws conditions → InOrder draws conditions first
    → Reads s conditions draws first → All (Right s (input_of s draws) (built conditions draws first).result.known) conditions
all_right s draws conditions first proper o r k d h =
    r.right _ (proper k d h).no_number (o.conditions_ready k d h)

module _ (s : Assignment) (conditions : List Condition) (draws : List Bool) (first : Option Term) (proper : AreProper draws conditions) (least : CanBeLeast draws first) where
  gates : List Clause
  gates = clauses_from (built conditions draws first).circuit.first (built conditions draws first).circuit.gates

  asked : List Clause
  asked = flat_map (condition_clauses (built conditions draws first).result.known) conditions

  alone : (b : Bool) → IsTrue (b || false) → b ≡ true
  alone true h = refl
  alone false h = absurd (false≢true h)

  pub meets-computes : SatisfiesAll s (formula conditions draws first).clauses → Computes conditions draws first s
  unfolding gates asked
  meets-computes h =
      let o = in_order draws conditions first proper least in
      let top : holds s true_wire ≡ true = alone (holds s true_wire) (meets-any s (true_wire ∷ []) h.0) in
      let one : s 1 ≡ true = true_made s true_wire top in
      let values = gates_meet s (built conditions draws first).circuit.first (built conditions draws first).circuit.gates (meets_all-first s gates asked h.1) in
      record {
        one = one;
        answered = conditions-answered s (input_of s draws) (built conditions draws first).result.known conditions
            (all_right s draws conditions first proper o (all_read s one conditions draws first o values)) (meets_all-second s gates asked h.1);
        valued = values;
      }

  pub computes-meets : Computes conditions draws first s → SatisfiesAll s (formula conditions draws first).clauses
  unfolding gates asked
  computes-meets c =
      let o = in_order draws conditions first proper least in (
        any-meets s (true_wire ∷ []) (subst (λ (b : Bool). IsTrue (b || false)) (sym (holds_true s c.one)) refl),
        meets_all-append s gates asked
            (meet_gates s (built conditions draws first).circuit.first (built conditions draws first).circuit.gates c.valued)
            (answered-conditions s (input_of s draws) (built conditions draws first).result.known conditions
            (all_right s draws conditions first proper o (all_read s c.one conditions draws first o c.valued)) c.answered),
      )
