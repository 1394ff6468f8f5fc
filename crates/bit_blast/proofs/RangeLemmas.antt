-- Each gate is over wires of earlier variables.
use Rattle.std.proofs.Common.{◌≡◌, ℕ, zero, suc, ◌+◌, ◌-◌, ◌*◌, ◌<◌, ◌≤◌, Bool, true, false, if◌then◌else◌, ⊎_elim, List, [], ◌∷◌, ◌++◌, length, map, zip, take, drop, replicate, reverse, refl, sym, ap, ◌∙◌, subst, arith}
use Rattle.std.proofs.lemmas.List.{reverse-append}
use Rattle.refute_check.specs.Clauses.{positive, negative, variable_of}
use Rattle.bit_blast.specs.declared.gates.Gate.{Gate}
use Rattle.bit_blast.specs.declared.gates.Gate.TheVariants.{And, Xor, Mux, Maj, Same}
use Rattle.bit_blast.specs.declared.blocks.Division.{Division}
use Rattle.bit_blast.specs.declared.blocks.Shift.{Shift}
use Rattle.bit_blast.specs.declared.blocks.Shift.TheVariants.{Left, Right, RightSigned, RotateLeft, RotateRight}
use Rattle.bit_blast.specs.Gates.{Wires, true_wire, false_wire, negation, number_wires, Circuit, next_of}
use Rattle.bit_blast.specs.Blocks.{put, put_all, each, each_two, add, less_after, zeros_after, zeros, highest_or, highest, none, negate_if, count_after, count, divide_bit, divide_from, divide, times, add_rows, multiply, moved, shift_by, choose}
use Rattle.bit_blast.proofs.WireLemmas.{either_wire, negation_positive, negation_negative}

-- ---- wires of the variables from 1 to one below a bound

abbrev pub IsWire : ℕ → ℕ → Type 0
IsWire m w = (2 ≤ w) × (w < 2 * m)

abbrev pub AreWires : ℕ → Wires → Type 0
AreWires m [] = Unit {0}
AreWires m (w ∷ ws) = IsWire m w × AreWires m ws

abbrev pub GateWires : ℕ → Gate → Type 0
GateWires m (And a b) = IsWire m a × IsWire m b
GateWires m (Xor a b) = IsWire m a × IsWire m b
GateWires m (Mux s a b) = IsWire m s × IsWire m a × IsWire m b
GateWires m (Maj a b c) = IsWire m a × IsWire m b × IsWire m c
GateWires m (Same a) = IsWire m a

-- each gate is over wires of variables before its own
abbrev pub IsRanged : ℕ → List Gate → Type 0
IsRanged first [] = Unit {0}
IsRanged first (gate ∷ earlier) = GateWires (first + length earlier) gate × IsRanged first earlier

pub wire-later : (m n : ℕ) → m ≤ n → (w : ℕ) → IsWire m w → IsWire n w
wire-later m n h w i = let a = i.0 in let b = i.1 in (omega arith, omega arith)

pub wires-later : (m n : ℕ) → m ≤ n → (ws : Wires) → AreWires m ws → AreWires n ws
wires-later m n h [] i = tt
wires-later m n h (w ∷ ws) i = (wire-later m n h w i.0, wires-later m n h ws i.1)

pub wire-negation : (m w : ℕ) → IsWire m w → IsWire m (negation w)
wire-negation m w i = ⊎_elim up down (either_wire w)
  where
    v : ℕ
    v = variable_of w

    up : w ≡ positive (variable_of w) → IsWire m (negation w)
    up e =
        let a = i.0 in
        let b = i.1 in
        let f : negation w ≡ negative (variable_of w) = ap negation e ∙ negation_positive (variable_of w) in
        subst (λ (u : ℕ). IsWire m u) (sym f) (omega arith, omega arith)

    down : w ≡ negative (variable_of w) → IsWire m (negation w)
    down e =
        let a = i.0 in
        let b = i.1 in
        let f : negation w ≡ positive (variable_of w) = ap negation e ∙ negation_negative (variable_of w) in
        subst (λ (u : ℕ). IsWire m u) (sym f) (omega arith, omega arith)

pub true-wire : (m : ℕ) → 2 ≤ m → IsWire m true_wire
true-wire m h = (omega arith, omega arith)

pub false-wire : (m : ℕ) → 2 ≤ m → IsWire m false_wire
false-wire m h = (omega arith, omega arith)

pub wires-negations : (m : ℕ) (ws : Wires) → AreWires m ws → AreWires m (map negation ws)
wires-negations m [] i = tt
wires-negations m (w ∷ ws) i = (wire-negation m w i.0, wires-negations m ws i.1)

pub wires-append : (m : ℕ) (vs ws : Wires) → AreWires m vs → AreWires m ws → AreWires m (vs ++ ws)
wires-append m [] ws i j = j
wires-append m (v ∷ vs) ws i j = (i.0, wires-append m vs ws i.1 j)

pub wires-take : (m k : ℕ) (ws : Wires) → AreWires m ws → AreWires m (take k ws)
wires-take m zero ws i = tt
wires-take m (suc k) [] i = tt
wires-take m (suc k) (w ∷ ws) i = (i.0, wires-take m k ws i.1)

pub wires-drop : (m k : ℕ) (ws : Wires) → AreWires m ws → AreWires m (drop k ws)
wires-drop m zero ws i = i
wires-drop m (suc k) [] i = tt
wires-drop m (suc k) (w ∷ ws) i = wires-drop m k ws i.1

pub wires-copies : (m k w : ℕ) → IsWire m w → AreWires m (replicate k w)
wires-copies m zero w i = tt
wires-copies m (suc k) w i = (i, wires-copies m k w i)

pub wires-reverse : (m : ℕ) (ws : Wires) → AreWires m ws → AreWires m (reverse ws)
wires-reverse m [] i = tt
wires-reverse m (w ∷ ws) i =
    subst (λ (vs : Wires). AreWires m vs) (sym (reverse-append (w ∷ []) ws)) (wires-append m (reverse ws) (w ∷ []) (wires-reverse m ws i.1) (i.0, tt))

pub wire-highest_or : (m w : ℕ) (ws : Wires) → IsWire m w → AreWires m ws → IsWire m (highest_or w ws)
wire-highest_or m w [] i j = i
wire-highest_or m w (v ∷ ws) i j = wire-highest_or m v ws j.0 j.1

pub wire-highest : (m : ℕ) (ws : Wires) → 2 ≤ m → AreWires m ws → IsWire m (highest ws)
wire-highest m ws h i = wire-highest_or m false_wire ws (false-wire m h) i

pub wires-number : (m count n : ℕ) → 2 ≤ m → AreWires m (number_wires count n)
wires-number m zero n h = tt
wires-number m (suc count) n h = (either _, wires-number m count _ h)
  where
    either : (b : Bool) → IsWire m (if b then false_wire else true_wire)
    either true = false-wire m h
    either false = true-wire m h

-- ---- a circuit that goes on from another

pub record Goes (c d : Circuit) : Type 0 where
  pub first : d.first ≡ c.first
  pub more : next_of c ≤ next_of d
  pub ranged : IsRanged c.first c.gates → IsRanged d.first d.gates

pub stays : (c : Circuit) → Goes c c
stays c = record { first = refl; more = omega arith; ranged = λ h. h }

pub then_goes : (c d e : Circuit) → Goes c d → Goes d e → Goes c e
then_goes c d e g h =
    let a = g.more in
    let b = h.more in
    record { first = h.first ∙ g.first; more = omega arith; ranged = λ r. h.ranged (g.ranged r) }

pub put_goes : (gate : Gate) (c : Circuit) → 2 ≤ next_of c → GateWires (next_of c) gate → Goes c (put gate c).circuit × IsWire (next_of (put gate c).circuit) (put gate c).result
put_goes gate c some i = (record { first = refl; more = omega arith; ranged = λ r. (i, r) }, (omega arith, omega arith))

abbrev AreGates : ℕ → List Gate → Type 0
AreGates m [] = Unit {0}
AreGates m (gate ∷ gates) = GateWires m gate × AreGates m gates

pub gate-later : (m n : ℕ) → m ≤ n → (gate : Gate) → GateWires m gate → GateWires n gate
gate-later m n h (And a b) i = (wire-later m n h a i.0, wire-later m n h b i.1)
gate-later m n h (Xor a b) i = (wire-later m n h a i.0, wire-later m n h b i.1)
gate-later m n h (Mux s a b) i = (wire-later m n h s i.0, wire-later m n h a i.1, wire-later m n h b i.2)
gate-later m n h (Maj a b c) i = (wire-later m n h a i.0, wire-later m n h b i.1, wire-later m n h c i.2)
gate-later m n h (Same a) i = wire-later m n h a i

gates-later : (m n : ℕ) → m ≤ n → (gates : List Gate) → AreGates m gates → AreGates n gates
gates-later m n h [] i = tt
gates-later m n h (gate ∷ gates) i = (gate-later m n h gate i.0, gates-later m n h gates i.1)

put_all_goes : (gates : List Gate) (c : Circuit) → 2 ≤ next_of c → AreGates (next_of c) gates → Goes c (put_all gates c).circuit × AreWires (next_of (put_all gates c).circuit) (put_all gates c).result
put_all_goes [] c some i = (stays c, tt)
put_all_goes (gate ∷ gates) c some i =
    let next = (put gate c).circuit in
    let here = put_goes gate c some i.0 in
    let more = here.0.more in
    let rest = put_all_goes gates next (omega arith) (gates-later (next_of c) (next_of next) more gates i.1) in (
      then_goes c next (put_all gates next).circuit here.0 rest.0,
      (wire-later (next_of next) (next_of (put_all gates next).circuit) rest.0.more (put gate c).result here.1, rest.1),
    )

pub each_goes : (gate : ℕ → Gate) (xs : Wires) (c : Circuit) → 2 ≤ next_of c → ((w : ℕ) → IsWire (next_of c) w → GateWires (next_of c) (gate w)) → AreWires (next_of c) xs
    → Goes c (each gate xs c).circuit × AreWires (next_of (each gate xs c).circuit) (each gate xs c).result
each_goes gate xs c some ok i = put_all_goes (map gate xs) c some (along xs i)
  where
    along : (xs : Wires) → AreWires (next_of c) xs → AreGates (next_of c) (map gate xs)
    along [] i = tt
    along (x ∷ xs) i = (ok x i.0, along xs i.1)

pub each_two_goes : (gate : ℕ → ℕ → Gate) (xs ys : Wires) (c : Circuit) → 2 ≤ next_of c
    → ((v w : ℕ) → IsWire (next_of c) v → IsWire (next_of c) w → GateWires (next_of c) (gate v w)) → AreWires (next_of c) xs → AreWires (next_of c) ys
    → Goes c (each_two gate xs ys c).circuit × AreWires (next_of (each_two gate xs ys c).circuit) (each_two gate xs ys c).result
each_two_goes gate xs ys c some ok i j = put_all_goes (map (λ p. gate p.0 p.1) (zip xs ys)) c some (along xs ys i j)
  where
    along : (xs ys : Wires) → AreWires (next_of c) xs → AreWires (next_of c) ys → AreGates (next_of c) (map (λ p. gate p.0 p.1) (zip xs ys))
    along [] ys i j = tt
    along (x ∷ xs) [] i j = tt
    along (x ∷ xs) (y ∷ ys) i j = (ok x y i.0 j.0, along xs ys i.1 j.1)

pub mux_goes : (choice : ℕ) (xs ys : Wires) (c : Circuit) → 2 ≤ next_of c → IsWire (next_of c) choice → AreWires (next_of c) xs → AreWires (next_of c) ys
    → Goes c (each_two (Mux choice) xs ys c).circuit × AreWires (next_of (each_two (Mux choice) xs ys c).circuit) (each_two (Mux choice) xs ys c).result
mux_goes choice xs ys c some h i j = each_two_goes (Mux choice) xs ys c some (λ v w a b. (h, a, b)) i j

-- ---- blocks

pub add_goes : (xs ys : Wires) (carry : ℕ) (c : Circuit) → 2 ≤ next_of c → AreWires (next_of c) xs → AreWires (next_of c) ys → IsWire (next_of c) carry
    → Goes c (add xs ys carry c).circuit × AreWires (next_of (add xs ys carry c).circuit) (add xs ys carry c).result.sums × IsWire (next_of (add xs ys carry c).circuit) (add xs ys carry c).result.carry
add_goes [] ys carry c some i j k = (stays c, tt, k)
add_goes (x ∷ xs) [] carry c some i j k = (stays c, tt, k)
add_goes (x ∷ xs) (y ∷ ys) carry c some i j k =
    let first = put (Xor x y) c in
    let second = put (Xor first.result carry) first.circuit in
    let third = put (Maj x y carry) second.circuit in
    let a = put_goes (Xor x y) c some (i.0, j.0) in
    let am = a.0.more in
    let b = put_goes (Xor first.result carry) first.circuit (omega arith) (a.1, wire-later (next_of c) (next_of first.circuit) am carry k) in
    let bm = b.0.more in
    let to_second : next_of c ≤ next_of second.circuit = omega arith in
    let d = put_goes (Maj x y carry) second.circuit (omega arith)
    (wire-later (next_of c) (next_of second.circuit) to_second x i.0, wire-later (next_of c) (next_of second.circuit) to_second y j.0, wire-later (next_of c) (next_of second.circuit) to_second carry k) in
    let dm = d.0.more in
    let to_third : next_of c ≤ next_of third.circuit = omega arith in
    let rest = add_goes xs ys third.result third.circuit (omega arith)
    (wires-later (next_of c) (next_of third.circuit) to_third xs i.1) (wires-later (next_of c) (next_of third.circuit) to_third ys j.1) d.1 in
    let rm = rest.0.more in
    let from_second : next_of second.circuit ≤ next_of (add xs ys third.result third.circuit).circuit = omega arith in (
      then_goes c first.circuit (add xs ys third.result third.circuit).circuit a.0
          (then_goes first.circuit second.circuit (add xs ys third.result third.circuit).circuit b.0 (then_goes second.circuit third.circuit (add xs ys third.result third.circuit).circuit d.0 rest.0)),
      (wire-later (next_of second.circuit) (next_of (add xs ys third.result third.circuit).circuit) from_second second.result b.1, rest.1),
      rest.2,
    )

pub less_goes : (lower : ℕ) (xs ys : Wires) (c : Circuit) → 2 ≤ next_of c → IsWire (next_of c) lower → AreWires (next_of c) xs → AreWires (next_of c) ys
    → Goes c (less_after lower xs ys c).circuit × IsWire (next_of (less_after lower xs ys c).circuit) (less_after lower xs ys c).result
less_goes lower [] ys c some k i j = (stays c, k)
less_goes lower (x ∷ xs) [] c some k i j = (stays c, k)
less_goes lower (x ∷ xs) (y ∷ ys) c some k i j =
    let first = put (Maj (negation x) y lower) c in
    let a = put_goes (Maj (negation x) y lower) c some (wire-negation (next_of c) x i.0, j.0, k) in
    let am = a.0.more in
    let rest = less_goes first.result xs ys first.circuit (omega arith) a.1 (wires-later (next_of c) (next_of first.circuit) am xs i.1) (wires-later (next_of c) (next_of first.circuit) am ys j.1) in
    (then_goes c first.circuit (less_after first.result xs ys first.circuit).circuit a.0 rest.0, rest.1)

pub zeros_after_goes : (before : ℕ) (ds : Wires) (c : Circuit) → 2 ≤ next_of c → IsWire (next_of c) before → AreWires (next_of c) ds
    → Goes c (zeros_after before ds c).circuit × AreWires (next_of (zeros_after before ds c).circuit) (zeros_after before ds c).result
zeros_after_goes before [] c some k i = (stays c, tt)
zeros_after_goes before (d ∷ ds) c some k i =
    let first = put (And before (negation d)) c in
    let a = put_goes (And before (negation d)) c some (k, wire-negation (next_of c) d i.0) in
    let am = a.0.more in
    let rest = zeros_after_goes first.result ds first.circuit (omega arith) a.1 (wires-later (next_of c) (next_of first.circuit) am ds i.1) in
    let last = (zeros_after first.result ds first.circuit).circuit in
    (then_goes c first.circuit last a.0 rest.0, (wire-later (next_of first.circuit) (next_of last) rest.0.more first.result a.1, rest.1))

pub zeros_goes : (ds : Wires) (c : Circuit) → 2 ≤ next_of c → AreWires (next_of c) ds → Goes c (zeros ds c).circuit × AreWires (next_of (zeros ds c).circuit) (zeros ds c).result
zeros_goes [] c some i = (stays c, tt)
zeros_goes (d ∷ ds) c some i =
    let rest = zeros_after_goes (negation d) ds c some (wire-negation (next_of c) d i.0) i.1 in
    (rest.0, (wire-later (next_of c) (next_of (zeros_after (negation d) ds c).circuit) rest.0.more (negation d) (wire-negation (next_of c) d i.0), rest.1))

pub none_goes : (ds : Wires) (c : Circuit) → 2 ≤ next_of c → AreWires (next_of c) ds → Goes c (none ds c).circuit × IsWire (next_of (none ds c).circuit) (none ds c).result
none_goes ds c some i =
    let all = zeros_goes ds c some i in
    let m = all.0.more in
    (all.0, wire-highest (next_of (zeros ds c).circuit) (zeros ds c).result (omega arith) all.1)

pub negate_if_goes : (sign : ℕ) (xs : Wires) (c : Circuit) → 2 ≤ next_of c → IsWire (next_of c) sign → AreWires (next_of c) xs
    → Goes c (negate_if sign xs c).circuit × AreWires (next_of (negate_if sign xs c).circuit) (negate_if sign xs c).result
negate_if_goes sign xs c some k i =
    let turned = each (λ x. Xor x sign) xs c in
    let a = each_goes (λ x. Xor x sign) xs c some (λ w h. (h, k)) i in
    let am = a.0.more in
    let b = add_goes turned.result (replicate (length xs) false_wire) sign turned.circuit (omega arith) a.1
    (wires-copies (next_of turned.circuit) (length xs) false_wire (false-wire (next_of turned.circuit) (omega arith))) (wire-later (next_of c) (next_of turned.circuit) am sign k) in
    (then_goes c turned.circuit (negate_if sign xs c).circuit a.0 b.0, b.1)

pub count_after_goes : (sum wires : Wires) (c : Circuit) → 2 ≤ next_of c → AreWires (next_of c) sum → AreWires (next_of c) wires
    → Goes c (count_after sum wires c).circuit × AreWires (next_of (count_after sum wires c).circuit) (count_after sum wires c).result
count_after_goes sum [] c some i j = (stays c, i)
count_after_goes sum (w ∷ wires) c some i j =
    let first = add sum (w ∷ replicate 6 false_wire) false_wire c in
    let a = add_goes sum (w ∷ replicate 6 false_wire) false_wire c some i (j.0, wires-copies (next_of c) 6 false_wire (false-wire (next_of c) some)) (false-wire (next_of c) some) in
    let am = a.0.more in
    let rest = count_after_goes first.result.sums wires first.circuit (omega arith) a.1 (wires-later (next_of c) (next_of first.circuit) am wires j.1) in
    (then_goes c first.circuit (count_after first.result.sums wires first.circuit).circuit a.0 rest.0, rest.1)

pub count_goes : (wires : Wires) (c : Circuit) → 2 ≤ next_of c → AreWires (next_of c) wires
    → Goes c (count wires c).circuit × AreWires (next_of (count wires c).circuit) (count wires c).result
count_goes wires c some j = count_after_goes (replicate 7 false_wire) wires c some (wires-copies (next_of c) 7 false_wire (false-wire (next_of c) some)) j

divide_bit_goes : (ys : Wires) (x : ℕ) (above : Division) (c : Circuit) → 2 ≤ next_of c → AreWires (next_of c) ys → IsWire (next_of c) x
    → AreWires (next_of c) above.quotient → AreWires (next_of c) above.remainder
    → Goes c (divide_bit ys x above c).circuit × AreWires (next_of (divide_bit ys x above c).circuit) (divide_bit ys x above c).result.quotient
    × AreWires (next_of (divide_bit ys x above c).circuit) (divide_bit ys x above c).result.remainder
divide_bit_goes ys x above c some i k q r =
    let shifted = x ∷ take (length ys) above.remainder in
    let divisor = map negation ys ++ true_wire ∷ [] in
    let sum = add shifted divisor true_wire c in
    let shifted_ok : AreWires (next_of c) shifted = (k, wires-take (next_of c) (length ys) above.remainder r) in
    let a = add_goes shifted divisor true_wire c some shifted_ok
    (wires-append (next_of c) (map negation ys) (true_wire ∷ []) (wires-negations (next_of c) ys i) (true-wire (next_of c) some, tt)) (true-wire (next_of c) some) in
    let am = a.0.more in
    let b = mux_goes sum.result.carry sum.result.sums shifted sum.circuit (omega arith) a.2 a.1 (wires-later (next_of c) (next_of sum.circuit) am shifted shifted_ok) in
    let bm = b.0.more in
    let last = (divide_bit ys x above c).circuit in (
      then_goes c sum.circuit last a.0 b.0,
      (wire-later (next_of sum.circuit) (next_of last) bm sum.result.carry a.2, wires-later (next_of c) (next_of last) (omega arith) above.quotient q),
      b.1,
    )

pub divide_from_goes : (ys xs : Wires) (c : Circuit) → 2 ≤ next_of c → AreWires (next_of c) ys → AreWires (next_of c) xs
    → Goes c (divide_from ys xs c).circuit × AreWires (next_of (divide_from ys xs c).circuit) (divide_from ys xs c).result.quotient
    × AreWires (next_of (divide_from ys xs c).circuit) (divide_from ys xs c).result.remainder
divide_from_goes ys [] c some i j = (stays c, tt, wires-copies (next_of c) (suc (length ys)) false_wire (false-wire (next_of c) some))
divide_from_goes ys (x ∷ higher) c some i j =
    let above = divide_from ys higher c in
    let a = divide_from_goes ys higher c some i j.1 in
    let am = a.0.more in
    let b = divide_bit_goes ys x above.result above.circuit (omega arith) (wires-later (next_of c) (next_of above.circuit) am ys i) (wire-later (next_of c) (next_of above.circuit) am x j.0) a.1 a.2 in
    (then_goes c above.circuit (divide_bit ys x above.result above.circuit).circuit a.0 b.0, b.1, b.2)

pub divide_goes : (xs ys : Wires) (c : Circuit) → 2 ≤ next_of c → AreWires (next_of c) xs → AreWires (next_of c) ys
    → Goes c (divide xs ys c).circuit × AreWires (next_of (divide xs ys c).circuit) (divide xs ys c).result.quotient
    × AreWires (next_of (divide xs ys c).circuit) (divide xs ys c).result.remainder
divide_goes xs ys c some i j =
    let a = divide_from_goes ys xs c some j i in
    (a.0, a.1, wires-take (next_of (divide_from ys xs c).circuit) (length ys) (divide_from ys xs c).result.remainder a.2)

pub times_goes : (xs : Wires) (y : ℕ) (c : Circuit) → 2 ≤ next_of c → AreWires (next_of c) xs → IsWire (next_of c) y
    → Goes c (times xs y c).circuit × AreWires (next_of (times xs y c).circuit) (times xs y c).result
times_goes xs y c some i k = each_goes (λ x. And x y) xs c some (λ w h. (h, k)) i

pub add_rows_goes : (xs ys sum : Wires) (c : Circuit) → 2 ≤ next_of c → AreWires (next_of c) xs → AreWires (next_of c) ys → AreWires (next_of c) sum
    → Goes c (add_rows xs ys sum c).circuit × AreWires (next_of (add_rows xs ys sum c).circuit) (add_rows xs ys sum c).result
add_rows_goes xs [] sum c some i j k = (stays c, k)
add_rows_goes xs (y ∷ ys) [] c some i j k = (stays c, tt)
add_rows_goes xs (y ∷ ys) (lowest ∷ sum) c some i j k =
    let row = times (take (length sum) xs) y c in
    let next = add sum row.result false_wire row.circuit in
    let last = (add_rows xs ys next.result.sums next.circuit).circuit in
    let a = times_goes (take (length sum) xs) y c some (wires-take (next_of c) (length sum) xs i) j.0 in
    let am = a.0.more in
    let b = add_goes sum row.result false_wire row.circuit (omega arith) (wires-later (next_of c) (next_of row.circuit) am sum k.1) a.1 (false-wire (next_of row.circuit) (omega arith)) in
    let bm = b.0.more in
    let to_next : next_of c ≤ next_of next.circuit = omega arith in
    let d = add_rows_goes xs ys next.result.sums next.circuit (omega arith) (wires-later (next_of c) (next_of next.circuit) to_next xs i) (wires-later (next_of c) (next_of next.circuit) to_next ys j.1) b.1 in
    let dm = d.0.more in
    (then_goes c row.circuit last a.0 (then_goes row.circuit next.circuit last b.0 d.0), (wire-later (next_of c) (next_of last) (omega arith) lowest k.0, d.1))

pub multiply_goes : (xs ys : Wires) (c : Circuit) → 2 ≤ next_of c → AreWires (next_of c) xs → AreWires (next_of c) ys
    → Goes c (multiply xs ys c).circuit × AreWires (next_of (multiply xs ys c).circuit) (multiply xs ys c).result
multiply_goes xs [] c some i j = (stays c, tt)
multiply_goes xs (y ∷ ys) c some i j =
    let row = times xs y c in
    let a = times_goes xs y c some i j.0 in
    let am = a.0.more in
    let b = add_rows_goes xs ys row.result row.circuit (omega arith) (wires-later (next_of c) (next_of row.circuit) am xs i) (wires-later (next_of c) (next_of row.circuit) am ys j.1) a.1 in
    (then_goes c row.circuit (add_rows xs ys row.result row.circuit).circuit a.0 b.0, b.1)

pub moved_wires : (m : ℕ) (kind : Shift) (k : ℕ) (ws : Wires) → 2 ≤ m → AreWires m ws → AreWires m (moved kind k ws)
moved_wires m Left k ws h i = wires-append m (replicate k false_wire) (take (length ws - k) ws) (wires-copies m k false_wire (false-wire m h)) (wires-take m (length ws - k) ws i)
moved_wires m Right k ws h i = wires-append m (drop k ws) (replicate k false_wire) (wires-drop m k ws i) (wires-copies m k false_wire (false-wire m h))
moved_wires m RightSigned k ws h i = wires-append m (drop k ws) (replicate k (highest ws)) (wires-drop m k ws i) (wires-copies m k (highest ws) (wire-highest m ws h i))
moved_wires m RotateLeft k ws h i = wires-append m (drop (length ws - k) ws) (take (length ws - k) ws) (wires-drop m (length ws - k) ws i) (wires-take m (length ws - k) ws i)
moved_wires m RotateRight k ws h i = wires-append m (drop k ws) (take k ws) (wires-drop m k ws i) (wires-take m k ws i)

pub shift_goes : (kind : Shift) (places : ℕ) (ys xs : Wires) (c : Circuit) → 2 ≤ next_of c → AreWires (next_of c) ys → AreWires (next_of c) xs
    → Goes c (shift_by kind places ys xs c).circuit × AreWires (next_of (shift_by kind places ys xs c).circuit) (shift_by kind places ys xs c).result
shift_goes kind places [] xs c some i j = (stays c, j)
shift_goes kind places (y ∷ ys) xs c some i j =
    let first = each_two (Mux y) (moved kind places xs) xs c in
    let a = mux_goes y (moved kind places xs) xs c some i.0 (moved_wires (next_of c) kind places xs some j) j in
    let am = a.0.more in
    let b = shift_goes kind (2 * places) ys first.result first.circuit (omega arith) (wires-later (next_of c) (next_of first.circuit) am ys i.1) a.1 in
    (then_goes c first.circuit (shift_by kind (2 * places) ys first.result first.circuit).circuit a.0 b.0, b.1)

pub choose_goes : (condition xs ys : Wires) (c : Circuit) → 2 ≤ next_of c → AreWires (next_of c) condition → AreWires (next_of c) xs → AreWires (next_of c) ys
    → Goes c (choose condition xs ys c).circuit × AreWires (next_of (choose condition xs ys c).circuit) (choose condition xs ys c).result
choose_goes condition xs ys c some k i j =
    let test = none condition c in
    let a = none_goes condition c some k in
    let am = a.0.more in
    let b = mux_goes (negation test.result) xs ys test.circuit (omega arith) (wire-negation (next_of test.circuit) test.result a.1)
    (wires-later (next_of c) (next_of test.circuit) am xs i) (wires-later (next_of c) (next_of test.circuit) am ys j) in
    (then_goes c test.circuit (choose condition xs ys c).circuit a.0 b.0, b.1)
