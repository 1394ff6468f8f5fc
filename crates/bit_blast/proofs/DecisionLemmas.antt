-- The decision order names each variable once, and the literals of the clauses are of these variables.
use Rattle.std.proofs.Common.{◌≡◌, ℕ, zero, suc, ◌+◌, ◌-◌, ◌<◌, ◌≤◌, Bool, true, false, cond, not, ◌==◌, ◌⊎◌, inl, inr, ⊎_elim, List, [], ◌∷◌, ◌++◌, length, map, flat_map, reverse, refl, sym, ap, ◌∙◌, subst, arith, ap₂, length-append, Option, Some, None}
use Rattle.std.proofs.lemmas.Bool.{cases_lt, cases_eq}
use Rattle.bv_terms.specs.Terms.{Term}
use Rattle.refute_check.specs.Clauses.{Clause, HasLiteral, positive, negative, variable_of}
use Rattle.refute_check.specs.Resolution.{each_once, without}
use Rattle.refute_check.specs.Orders.{Names, NamesAll}
use Rattle.refute_check.proofs.Membership.{variable-positive}
use Rattle.bit_blast.specs.declared.gates.Gate.{Gate}
use Rattle.bit_blast.specs.declared.gates.Gate.TheVariants.{And, Xor, Mux, Maj, Same}
use Rattle.bit_blast.specs.Gates.{Wires, negation, gate_clauses, Circuit, next_of, clauses_from}
use Rattle.bit_blast.specs.Blocks.{Built, put, put_all}
use Rattle.bit_blast.specs.Formulas.{Condition, Known, wires_in, terms_in_order, build_terms, build_first, FormulaParts, built, start, variables_from, condition_clauses, decisions, formula}
use Rattle.bit_blast.specs.Meanings.{AreProper, CanBeLeast}
use Rattle.bit_blast.proofs.LengthLemmas.{length_map, length_put_all}
use Rattle.bit_blast.proofs.RangeLemmas.{IsWire, AreWires, GateWires, IsRanged, gate-later, wire-negation, true-wire}
use Rattle.bit_blast.proofs.TermRanges.{end_later, KnownWires, wires-known, Ranges, all_ranged}
use Rattle.bit_blast.proofs.OrderLemmas.{in_order}

-- ---- names in lists

pub names-first : (xs ys : List ℕ) (v : ℕ) → Names xs v → Names (xs ++ ys) v
names-first [] ys v h = absurd h
names-first (x ∷ xs) ys v (inl e) = inl e
names-first (x ∷ xs) ys v (inr h) = inr (names-first xs ys v h)

pub names-second : (xs ys : List ℕ) (v : ℕ) → Names ys v → Names (xs ++ ys) v
names-second [] ys v h = h
names-second (x ∷ xs) ys v h = inr (names-second xs ys v h)

pub names-either : (xs ys : List ℕ) (v : ℕ) → Names (xs ++ ys) v → Names xs v ⊎ Names ys v
names-either [] ys v h = inr h
names-either (x ∷ xs) ys v (inl e) = inl (inl e)
names-either (x ∷ xs) ys v (inr h) = go (names-either xs ys v h)
  where
    go : Names xs v ⊎ Names ys v → Names (x ∷ xs) v ⊎ Names ys v
    go (inl h) = inl (inr h)
    go (inr h) = inr h

pub from-names : (first count v : ℕ) → Names (variables_from first count) v → (first ≤ v) × (v < first + count)
from-names first zero v h = absurd h
from-names first (suc count) v (inl e) = (omega arith, omega arith)
from-names first (suc count) v (inr h) = let r = from-names (suc first) count v h in let a = r.0 in let b = r.1 in (omega arith, omega arith)

pub names-from : (first count v : ℕ) → first ≤ v → v < first + count → Names (variables_from first count) v
names-from first zero v low high = absurd (omega arith)
names-from first (suc count) v low high = go (names-from (suc first) count v) (cases_eq v first)
  where
    go : (suc first ≤ v → v < suc first + count → Names (variables_from (suc first) count) v) → (v ≡ first) ⊎ (v ≡ first → ⊥) → Names (variables_from first (suc count)) v
    go rec (inl e) = inl e
    go rec (inr e) = inr (rec (omega arith) (omega arith))

pub length_from : (first count : ℕ) → length (variables_from first count) ≡ count
length_from first zero = refl
length_from first (suc count) = ap suc (length_from (suc first) count)

-- ---- the gates of what is to be least are the last

pub put_all_names : (gates : List Gate) (c : Circuit) → (map variable_of (put_all gates c).result ≡ variables_from (next_of c) (length gates)) × (next_of (put_all gates c).circuit ≡ next_of c + length gates)
put_all_names [] c = (refl, omega arith)
put_all_names (gate ∷ gates) c =
    let next = (put gate c).circuit in
    let rest = put_all_names gates next in
    let up : next_of next ≡ suc (next_of c) = omega arith in
    let end = rest.1 in (
      ap₂ (λ (n : ℕ) (ns : List ℕ). n ∷ ns) (variable-positive (next_of c)) (rest.0 ∙ ap (λ (n : ℕ). variables_from n (length gates)) up),
      omega arith,
    )

-- the last gates, from a variable on, are those of what is to be least
pub record Last (all : Built FormulaParts) : Type 0 where
  pub from : ℕ
  pub names : map variable_of all.result.least ≡ variables_from from (length all.result.least)
  pub ends : from + length all.result.least ≡ next_of all.circuit
  pub after : all.circuit.first ≤ from

last_of : (known : Known) (first : Option Term) (c : Circuit) → Last (record { circuit = (build_first known first c).circuit; result = record { known = known; least = (build_first known first c).result } })
last_of known None c = record { from = next_of c; names = refl; ends = omega arith; after = omega arith }
last_of known (Some t) c =
    let gates = map Same (reverse (wires_in known t)) in
    let all = put_all_names gates c in
    let long : length (put_all gates c).result ≡ length gates = length_put_all gates c in
    let end = all.1 in
    record {
      from = next_of c;
      names = all.0 ∙ ap (λ (n : ℕ). variables_from (next_of c) n) (sym long);
      ends = omega arith;
      after = same_first gates c;
    }
  where
    same_first : (gates : List Gate) (c : Circuit) → (put_all gates c).circuit.first ≤ next_of c
    same_first gates c = let e = firsts gates c in omega arith
      where
        firsts : (gates : List Gate) (c : Circuit) → (put_all gates c).circuit.first ≡ c.first
        firsts [] c = refl
        firsts (gate ∷ gates) c = firsts gates (put gate c).circuit

pub all_last : (conditions : List Condition) (draws : List Bool) (first : Option Term) → Last (built conditions draws first)
all_last conditions draws first =
    let terms = build_terms draws (terms_in_order conditions first) [] (start draws) in
    last_of terms.result first terms.circuit

-- ---- the order

abbrev pub order_of : Built FormulaParts → List ℕ
order_of all = decisions all.circuit all.result.least

abbrev least_names : Built FormulaParts → List ℕ
least_names all = map variable_of all.result.least

abbrev symbol_names : Built FormulaParts → List ℕ
symbol_names all = variables_from 2 (all.circuit.first - 2)

abbrev others : Built FormulaParts → ℕ
others all = length all.circuit.gates - length all.result.least

abbrev other_names : Built FormulaParts → List ℕ
other_names all = variables_from all.circuit.first (others all)

module _ (all : Built FormulaParts) (two_first : 2 ≤ all.circuit.first) (last : Last all) where
  pub order_length : length (order_of all) ≡ next_of all.circuit - 1
  order_length =
      let ends = last.ends in
      let after = last.after in
      length-append (least_names all ++ symbol_names all) (1 ∷ other_names all)
      ∙ ap₂ (λ (m n : ℕ). m + suc n)
      (length-append (least_names all) (symbol_names all) ∙ ap₂ (λ (m n : ℕ). m + n) (length_map variable_of all.result.least) (length_from 2 (all.circuit.first - 2)))
      (length_from all.circuit.first (others all))
      ∙ counted (length all.result.least) all.circuit.first (length all.circuit.gates) last.from two_first ends after
    where
      counted : (l f g from : ℕ) → 2 ≤ f → from + l ≡ f + g → f ≤ from → l + (f - 2) + suc (g - l) ≡ f + g - 1
      counted l f g from two ends after = omega arith

  pub order_names : (v : ℕ) → 1 ≤ v → v < next_of all.circuit → Names (order_of all) v
  order_names v low high = ⊎_elim one more (cases_eq v 1)
    where
      one : v ≡ 1 → Names (order_of all) v
      one e = names-second (least_names all ++ symbol_names all) (1 ∷ other_names all) v (inl e)

      more : (v ≡ 1 → ⊥) → Names (order_of all) v
      more e = ⊎_elim symbol gate (cases_lt v all.circuit.first)
        where
          symbol : v < all.circuit.first → Names (order_of all) v
          symbol h =
              names-first (least_names all ++ symbol_names all) (1 ∷ other_names all) v (names-second (least_names all) (symbol_names all) v
              (names-from 2 (all.circuit.first - 2) v (omega arith) (omega arith)))

          gate : all.circuit.first ≤ v → Names (order_of all) v
          gate h = ⊎_elim other lasting (cases_lt v last.from)
            where
              other : v < last.from → Names (order_of all) v
              other k =
                  let ends = last.ends in
                  names-second (least_names all ++ symbol_names all) (1 ∷ other_names all) v
                  (inr (names-from all.circuit.first (others all) v h (omega arith)))

              lasting : last.from ≤ v → Names (order_of all) v
              lasting k =
                  let ends = last.ends in
                  names-first (least_names all ++ symbol_names all) (1 ∷ other_names all) v (names-first (least_names all) (symbol_names all) v
                  (subst (λ (ns : List ℕ). Names ns v) (sym last.names) (names-from last.from (length all.result.least) v k (omega arith))))

  pub order_only : (v : ℕ) → Names (order_of all) v → (1 ≤ v) × (v < next_of all.circuit)
  order_only v h = rest (names-either (least_names all ++ symbol_names all) (1 ∷ other_names all) v h)
    where
      within : (from count v : ℕ) → 1 ≤ from → from + count ≤ next_of all.circuit → (from ≤ v) × (v < from + count) → (1 ≤ v) × (v < next_of all.circuit)
      within from count v some fits r = let a = r.0 in let b = r.1 in (omega arith, omega arith)

      front : Names (least_names all) v ⊎ Names (symbol_names all) v → (1 ≤ v) × (v < next_of all.circuit)
      front (inl k) =
          let after = last.after in
          let ends = last.ends in
          within last.from (length all.result.least) v (omega arith) (omega arith) (from-names last.from (length all.result.least) v (subst (λ (ns : List ℕ). Names ns v) last.names k))
      front (inr k) = within 2 (all.circuit.first - 2) v (omega arith) (omega arith) (from-names 2 (all.circuit.first - 2) v k)

      rest : Names (least_names all ++ symbol_names all) v ⊎ Names (1 ∷ other_names all) v → (1 ≤ v) × (v < next_of all.circuit)
      rest (inl k) = front (names-either (least_names all) (symbol_names all) v k)
      rest (inr (inl e)) = (omega arith, omega arith)
      rest (inr (inr k)) =
          let after = last.after in
          let ends = last.ends in
          within all.circuit.first (others all) v (omega arith) (omega arith) (from-names all.circuit.first (others all) v k)

-- ---- literals

-- the literals of each clause are of the variables from 1 to one below a bound
abbrev LiteralsBelow : ℕ → List Clause → Type 0
LiteralsBelow m [] = Unit {0}
LiteralsBelow m (clause ∷ clauses) = AreWires m clause × LiteralsBelow m clauses

literals-append : (m : ℕ) (xs ys : List Clause) → LiteralsBelow m xs → LiteralsBelow m ys → LiteralsBelow m (xs ++ ys)
literals-append m [] ys h k = k
literals-append m (x ∷ xs) ys h k = (h.0, literals-append m xs ys h.1 k)

held-wire : (m : ℕ) (clause : Clause) (l : ℕ) → AreWires m clause → HasLiteral l clause → IsWire m l
held-wire m [] l i h = absurd h
held-wire m (k ∷ clause) l i (inl e) = subst (λ (n : ℕ). IsWire m n) (sym e) i.0
held-wire m (k ∷ clause) l i (inr h) = held-wire m clause l i.1 h

wires-without : (m k : ℕ) (clause : Clause) → AreWires m clause → AreWires m (without k clause)
wires-without m k [] i = tt
wires-without m k (l ∷ clause) i = go (not (l == k)) (wires-without m k clause i.1)
  where
    go : (b : Bool) → AreWires m (without k clause) → AreWires m (cond b (l ∷ without k clause) (without k clause))
    go true h = (i.0, h)
    go false h = h

wires-once : (m : ℕ) (clause : Clause) → AreWires m clause → AreWires m (each_once clause)
wires-once m [] i = tt
wires-once m (l ∷ clause) i = (i.0, wires-without m l (each_once clause) (wires-once m clause i.1))

gate-literals : (m z : ℕ) (gate : Gate) → 1 ≤ z → z < m → GateWires m gate → LiteralsBelow m (gate_clauses z gate)
gate-literals m z (And a b) some less i =
    let na = wire-negation m a i.0 in
    let nb = wire-negation m b i.1 in
    (wires-once m (negative z ∷ a ∷ []) (down, (i.0, tt)), (wires-once m (negative z ∷ b ∷ []) (down, (i.1, tt)), (wires-once m (positive z ∷ negation a ∷ negation b ∷ []) (up, (na, (nb, tt))), tt)))
  where
    up : IsWire m (positive z)
    up = (omega arith, omega arith)

    down : IsWire m (negative z)
    down = (omega arith, omega arith)
gate-literals m z (Xor a b) some less i =
    let na = wire-negation m a i.0 in
    let nb = wire-negation m b i.1 in (
      wires-once m (negative z ∷ a ∷ b ∷ []) (down, (i.0, (i.1, tt))),
      (
        wires-once m (negative z ∷ negation a ∷ negation b ∷ []) (down, (na, (nb, tt))),
        (wires-once m (positive z ∷ negation a ∷ b ∷ []) (up, (na, (i.1, tt))), (wires-once m (positive z ∷ a ∷ negation b ∷ []) (up, (i.0, (nb, tt))), tt)),
      ),
    )
  where
    up : IsWire m (positive z)
    up = (omega arith, omega arith)

    down : IsWire m (negative z)
    down = (omega arith, omega arith)
gate-literals m z (Mux s a b) some less i =
    let ns = wire-negation m s i.0 in
    let na = wire-negation m a i.1 in
    let nb = wire-negation m b i.2 in (
      wires-once m (negation s ∷ negation a ∷ positive z ∷ []) (ns, (na, (up, tt))),
      (
        wires-once m (negation s ∷ a ∷ negative z ∷ []) (ns, (i.1, (down, tt))),
        (wires-once m (s ∷ negation b ∷ positive z ∷ []) (i.0, (nb, (up, tt))), (wires-once m (s ∷ b ∷ negative z ∷ []) (i.0, (i.2, (down, tt))), tt)),
      ),
    )
  where
    up : IsWire m (positive z)
    up = (omega arith, omega arith)

    down : IsWire m (negative z)
    down = (omega arith, omega arith)
gate-literals m z (Maj a b c) some less i =
    let na = wire-negation m a i.0 in
    let nb = wire-negation m b i.1 in
    let nc = wire-negation m c i.2 in (
      wires-once m (negation a ∷ negation b ∷ positive z ∷ []) (na, (nb, (up, tt))),
      (
        wires-once m (negation a ∷ negation c ∷ positive z ∷ []) (na, (nc, (up, tt))),
        (
          wires-once m (negation b ∷ negation c ∷ positive z ∷ []) (nb, (nc, (up, tt))),
          (
            wires-once m (a ∷ b ∷ negative z ∷ []) (i.0, (i.1, (down, tt))),
            (wires-once m (a ∷ c ∷ negative z ∷ []) (i.0, (i.2, (down, tt))), (wires-once m (b ∷ c ∷ negative z ∷ []) (i.1, (i.2, (down, tt))), tt)),
          ),
        ),
      ),
    )
  where
    up : IsWire m (positive z)
    up = (omega arith, omega arith)

    down : IsWire m (negative z)
    down = (omega arith, omega arith)
gate-literals m z (Same a) some less i =
    let na = wire-negation m a i in
    (wires-once m (negative z ∷ a ∷ []) (down, (i, tt)), (wires-once m (positive z ∷ negation a ∷ []) (up, (na, tt)), tt))
  where
    up : IsWire m (positive z)
    up = (omega arith, omega arith)

    down : IsWire m (negative z)
    down = (omega arith, omega arith)

gates-literals : (first : ℕ) (gates : List Gate) (m : ℕ) → 1 ≤ first → first + length gates ≤ m → IsRanged first gates → LiteralsBelow m (clauses_from first gates)
gates-literals first [] m some fits r = tt
gates-literals first (gate ∷ earlier) m some fits r =
    literals-append m (clauses_from first earlier) (gate_clauses (first + length earlier) gate) (gates-literals first earlier m some (omega arith) r.1)
    (gate-literals m (first + length earlier) gate (omega arith) (omega arith) (gate-later (first + length earlier) m (omega arith) gate r.0))

condition-literals : (m : ℕ) (known : Known) (condition : Condition) → KnownWires m known → LiteralsBelow m (condition_clauses known condition)
condition-literals m known (t, true) i = (wires-once m (wires_in known t) (wires-known m known t i), tt)
condition-literals m known (t, false) i = along (wires_in known t) (wires-known m known t i)
  where
    along : (ws : Wires) → AreWires m ws → LiteralsBelow m (map (λ wire. negation wire ∷ []) ws)
    along [] i = tt
    along (w ∷ ws) i = ((wire-negation m w i.0, tt), along ws i.1)

conditions-literals : (m : ℕ) (known : Known) (conditions : List Condition) → KnownWires m known → LiteralsBelow m (flat_map (condition_clauses known) conditions)
conditions-literals m known [] i = tt
conditions-literals m known (condition ∷ conditions) i =
    literals-append m (condition_clauses known condition) (flat_map (condition_clauses known) conditions) (condition-literals m known condition i) (conditions-literals m known conditions i)

named-literals : (order : List ℕ) (m : ℕ) → ((v : ℕ) → 1 ≤ v → v < m → Names order v) → (clauses : List Clause) → LiteralsBelow m clauses → NamesAll order clauses
named-literals order m names [] i = tt
named-literals order m names (clause ∷ clauses) i =
    (λ l h. let w = held-wire m clause l i.0 h in let low = w.0 in let high = w.1 in names (variable_of l) (omega arith) (omega arith), named-literals order m names clauses i.1)

-- ---- all of it

module _ (conditions : List Condition) (draws : List Bool) (first : Option Term) (proper : AreProper draws conditions) (least : CanBeLeast draws first) where
  ranges : Ranges draws (built conditions draws first)
  ranges = all_ranged conditions draws first (in_order draws conditions first proper least)

  pub two_first : 2 ≤ (built conditions draws first).circuit.first
  two_first = subst (λ (n : ℕ). 2 ≤ n) (sym ranges.starts) (end_later 2 draws)

  pub below_next : (v : ℕ) → v ≤ (formula conditions draws first).vars → v < next_of (built conditions draws first).circuit
  below_next v h = let two = two_first in omega arith

  pub formula_length : length (formula conditions draws first).order ≡ (formula conditions draws first).vars
  formula_length = order_length (built conditions draws first) two_first (all_last conditions draws first)

  pub formula_names : (v : ℕ) → 1 ≤ v → v ≤ (formula conditions draws first).vars → Names (formula conditions draws first).order v
  formula_names v low high =
      let two = two_first in
      order_names (built conditions draws first) two_first (all_last conditions draws first) v low (omega arith)

  pub formula_only : (v : ℕ) → Names (formula conditions draws first).order v → (1 ≤ v) × (v ≤ (formula conditions draws first).vars)
  formula_only v h =
      let r = order_only (built conditions draws first) two_first (all_last conditions draws first) v h in
      let low = r.0 in
      let high = r.1 in
      (low, omega arith)

  pub formula_literals : NamesAll (formula conditions draws first).order (formula conditions draws first).clauses
  formula_literals =
      let two = two_first in
      named-literals (formula conditions draws first).order (next_of (built conditions draws first).circuit)
      (order_names (built conditions draws first) two_first (all_last conditions draws first)) (formula conditions draws first).clauses (
        (true-wire (next_of (built conditions draws first).circuit) (omega arith), tt),
        literals-append (next_of (built conditions draws first).circuit) (clauses_from (built conditions draws first).circuit.first (built conditions draws first).circuit.gates)
            (flat_map (condition_clauses (built conditions draws first).result.known) conditions)
            (gates-literals (built conditions draws first).circuit.first (built conditions draws first).circuit.gates (next_of (built conditions draws first).circuit) (omega arith) (omega arith) ranges.ranged)
            (conditions-literals (next_of (built conditions draws first).circuit) (built conditions draws first).result.known conditions ranges.known),
      )
