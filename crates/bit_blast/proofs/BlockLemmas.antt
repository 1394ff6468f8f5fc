-- What the wires of blocks are under an assignment that gives each gate its value.
use Rattle.std.proofs.Common.{◌≡◌, ℕ, ◌<◌, Bool, true, false, not, ◌==◌, ◌&&◌, cond, if◌then◌else◌, List, [], ◌∷◌, length, map, zip, replicate, refl, sym, ap, ◌∙◌, arith, ap₂}
use Rattle.refute_check.specs.Clauses.{Assignment}
use Rattle.bit_blast.specs.declared.gates.Gate.{Gate}
use Rattle.bit_blast.specs.declared.gates.Gate.TheVariants.{And, Xor, Mux, Maj}
use Rattle.bit_blast.specs.Gates.{Wires, false_wire, negation, Circuit, next_of}
use Rattle.bit_blast.specs.Blocks.{put, put_all, each, each_two, add, less_after, zeros_after, zeros, highest_or, none, negate_if, count_after, count}
use Rattle.bit_blast.specs.Meanings.{holds, differ, gate_value, HaveValues}
use Rattle.bit_blast.proofs.SumLemmas.{majority, sums, carried, less, either_bits, negated_if}
use Rattle.bit_blast.proofs.SumLemmas as bits
use Rattle.bit_blast.proofs.WireLemmas.{read, holds_positive, holds_negation, read_falses, holds_false, length_read}
use Rattle.bit_blast.proofs.BitNumbers.{number}
use Rattle.bit_blast.proofs.CountLemmas.{clear_so_far, counted, seven_zeros}

-- each gate of a circuit has its value
abbrev pub Valued : Assignment → Circuit → Type 0
Valued s c = HaveValues s c.first c.gates

-- a gate's wire
pub put_reads : (s : Assignment) (gate : Gate) (c : Circuit) → Valued s (put gate c).circuit → Valued s c × (holds s (put gate c).result ≡ gate_value s gate)
put_reads s gate c h = (h.1, holds_positive s (next_of c) ∙ h.0)

pub put_all_reads : (s : Assignment) (gates : List Gate) (c : Circuit) → Valued s (put_all gates c).circuit
    → Valued s c × (read s (put_all gates c).result ≡ map (gate_value s) gates)
put_all_reads s [] c h = (h, refl)
put_all_reads s (gate ∷ gates) c h =
    let rest = put_all_reads s gates (put gate c).circuit h in
    let here = put_reads s gate c rest.0 in
    (here.0, ap₂ (λ (b : Bool) (bs : List Bool). b ∷ bs) here.1 rest.1)

-- ---- ADD

pub add_reads : (s : Assignment) (xs ys : Wires) (carry : ℕ) (c : Circuit) → Valued s (add xs ys carry c).circuit
    → Valued s c × (read s (add xs ys carry c).result.sums ≡ sums (read s xs) (read s ys) (holds s carry))
    × (holds s (add xs ys carry c).result.carry ≡ carried (read s xs) (read s ys) (holds s carry))
add_reads s [] ys carry c h = (h, refl, refl)
add_reads s (x ∷ xs) [] carry c h = (h, refl, refl)
add_reads s (x ∷ xs) (y ∷ ys) carry c h =
    let first = put (Xor x y) c in
    let second = put (Xor first.result carry) first.circuit in
    let third = put (Maj x y carry) second.circuit in
    let rest = add_reads s xs ys third.result third.circuit h in
    let next = put_reads s (Maj x y carry) second.circuit rest.0 in
    let wire = put_reads s (Xor first.result carry) first.circuit next.0 in
    let apart = put_reads s (Xor x y) c wire.0 in (
      apart.0,
      ap₂ (λ (b : Bool) (bs : List Bool). b ∷ bs) (wire.1 ∙ ap (λ (b : Bool). differ b (holds s carry)) apart.1)
          (rest.1 ∙ ap (λ (b : Bool). sums (read s xs) (read s ys) b) next.1),
      rest.2 ∙ ap (λ (b : Bool). carried (read s xs) (read s ys) b) next.1,
    )

-- ---- LESS

pub less_reads : (s : Assignment) (lower : ℕ) (xs ys : Wires) (c : Circuit) → Valued s (less_after lower xs ys c).circuit
    → Valued s c × (holds s (less_after lower xs ys c).result ≡ less (read s xs) (read s ys) (holds s lower))
less_reads s lower [] ys c h = (h, refl)
less_reads s lower (x ∷ xs) [] c h = (h, refl)
less_reads s lower (x ∷ xs) (y ∷ ys) c h =
    let first = put (Maj (negation x) y lower) c in
    let rest = less_reads s first.result xs ys first.circuit h in
    let next = put_reads s (Maj (negation x) y lower) c rest.0 in (
      next.0,
      rest.1 ∙ ap (λ (b : Bool). less (read s xs) (read s ys) b) (next.1 ∙ ap (λ (b : Bool). majority b (holds s y) (holds s lower)) (holds_negation s x)),
    )

-- ---- NONE

pub zeros_after_reads : (s : Assignment) (before : ℕ) (ds : Wires) (c : Circuit) → Valued s (zeros_after before ds c).circuit
    → Valued s c × (read s (zeros_after before ds c).result ≡ clear_so_far (holds s before) (read s ds))
zeros_after_reads s before [] c h = (h, refl)
zeros_after_reads s before (d ∷ ds) c h =
    let first = put (And before (negation d)) c in
    let rest = zeros_after_reads s first.result ds first.circuit h in
    let next = put_reads s (And before (negation d)) c rest.0 in
    let here = next.1 ∙ ap (λ (b : Bool). holds s before && b) (holds_negation s d) in (
      next.0,
      ap₂ (λ (b : Bool) (bs : List Bool). b ∷ bs) here (rest.1 ∙ ap (λ (b : Bool). clear_so_far b (read s ds)) here),
    )

pub zeros_reads : (s : Assignment) (ds : Wires) (c : Circuit) → Valued s (zeros ds c).circuit
    → Valued s c × (read s (zeros ds c).result ≡ clear_so_far true (read s ds))
zeros_reads s [] c h = (h, refl)
zeros_reads s (d ∷ ds) c h =
    let rest = zeros_after_reads s (negation d) ds c h in (
      rest.0,
      ap₂ (λ (b : Bool) (bs : List Bool). b ∷ bs) (holds_negation s d) (rest.1 ∙ ap (λ (b : Bool). clear_so_far b (read s ds)) (holds_negation s d)),
    )

-- the last of some bits
abbrev pub last_or : Bool → List Bool → Bool
last_or b [] = b
last_or b (x ∷ xs) = last_or x xs

pub highest_or_reads : (s : Assignment) (w : ℕ) (ws : Wires) → holds s (highest_or w ws) ≡ last_or (holds s w) (read s ws)
highest_or_reads s w [] = refl
highest_or_reads s w (v ∷ ws) = highest_or_reads s v ws

pub last_clear : (e : Bool) (xs : List Bool) → last_or e (clear_so_far e xs) ≡ bits.none e xs
last_clear e [] = refl
last_clear e (x ∷ xs) = last_clear (e && not x) xs

clear_last : (x : Bool) (xs : List Bool) → last_or false (clear_so_far true (x ∷ xs)) ≡ bits.none true (x ∷ xs)
clear_last x xs = last_clear (not x) xs

-- of at least one wire
pub none_reads : (s : Assignment) (ds : Wires) (c : Circuit) → s 1 ≡ true → 0 < length ds → Valued s (none ds c).circuit
    → Valued s c × (holds s (none ds c).result ≡ (number (read s ds) == 0))
none_reads s [] c one some h = absurd (omega arith)
none_reads s (d ∷ ds) c one some h =
    let all = zeros_reads s (d ∷ ds) c h in (
      all.0,
      highest_or_reads s false_wire (zeros (d ∷ ds) c).result ∙ ap₂ (λ (b : Bool) (bs : List Bool). last_or b bs) (holds_false s one) all.1
          ∙ clear_last (holds s d) (read s ds) ∙ bits.none_is (read s (d ∷ ds)),
    )

-- ---- a gate for each wire

pub each_reads : (s : Assignment) (gate : ℕ → Gate) (value : Bool → Bool) → ((w : ℕ) → gate_value s (gate w) ≡ value (holds s w))
    → (xs : Wires) (c : Circuit) → Valued s (each gate xs c).circuit → Valued s c × (read s (each gate xs c).result ≡ map value (read s xs))
each_reads s gate value is xs c h =
    let all = put_all_reads s (map gate xs) c h in
    (all.0, all.1 ∙ along xs)
  where
    along : (xs : Wires) → map (gate_value s) (map gate xs) ≡ map value (read s xs)
    along [] = refl
    along (x ∷ xs) = ap₂ (λ (b : Bool) (bs : List Bool). b ∷ bs) (is x) (along xs)

-- two bits at each place
abbrev pub both : (Bool → Bool → Bool) → List Bool → List Bool → List Bool
both value [] ys = []
both value (x ∷ xs) [] = []
both value (x ∷ xs) (y ∷ ys) = value x y ∷ both value xs ys

pub each_two_reads : (s : Assignment) (gate : ℕ → ℕ → Gate) (value : Bool → Bool → Bool) → ((v w : ℕ) → gate_value s (gate v w) ≡ value (holds s v) (holds s w))
    → (xs ys : Wires) (c : Circuit) → Valued s (each_two gate xs ys c).circuit
    → Valued s c × (read s (each_two gate xs ys c).result ≡ both value (read s xs) (read s ys))
each_two_reads s gate value is xs ys c h =
    let all = put_all_reads s (map (λ p. gate p.0 p.1) (zip xs ys)) c h in
    (all.0, all.1 ∙ along xs ys)
  where
    along : (xs ys : Wires) → map (gate_value s) (map (λ p. gate p.0 p.1) (zip xs ys)) ≡ both value (read s xs) (read s ys)
    along [] ys = refl
    along (x ∷ xs) [] = refl
    along (x ∷ xs) (y ∷ ys) = ap₂ (λ (b : Bool) (bs : List Bool). b ∷ bs) (is x y) (along xs ys)

pub mux_reads : (s : Assignment) (choice : ℕ) (xs ys : Wires) (c : Circuit) → Valued s (each_two (Mux choice) xs ys c).circuit
    → Valued s c × (read s (each_two (Mux choice) xs ys c).result ≡ either_bits (holds s choice) (read s xs) (read s ys))
mux_reads s choice xs ys c h =
    let all = each_two_reads s (Mux choice) (λ x y. if holds s choice then x else y) (λ v w. refl) xs ys c h in
    (all.0, all.1 ∙ same (holds s choice) (read s xs) (read s ys))
  where
    same : (b : Bool) (xs ys : List Bool) → both (λ x y. if b then x else y) xs ys ≡ either_bits b xs ys
    same b [] ys = refl
    same b (x ∷ xs) [] = refl
    same b (x ∷ xs) (y ∷ ys) = ap (λ (bs : List Bool). cond b x y ∷ bs) (same b xs ys)

-- ---- NEGIF

pub negate_if_reads : (s : Assignment) → s 1 ≡ true → (sign : ℕ) (xs : Wires) (c : Circuit) → Valued s (negate_if sign xs c).circuit
    → Valued s c × (read s (negate_if sign xs c).result ≡ negated_if (holds s sign) (read s xs))
negate_if_reads s one sign xs c h =
    let turned = each (λ x. Xor x sign) xs c in
    let sum = add_reads s turned.result (replicate (length xs) false_wire) sign turned.circuit h in
    let all = each_reads s (λ x. Xor x sign) (λ x. differ x (holds s sign)) (λ w. refl) xs c sum.0 in (
      all.0,
      sum.1 ∙ ap₂ (λ (bs zs : List Bool). sums bs zs (holds s sign)) all.1 (read_falses s one (length xs) ∙ ap (λ (n : ℕ). replicate n false) (sym (length_read s xs))),
    )

-- ---- COUNT

pub count_after_reads : (s : Assignment) → s 1 ≡ true → (sum wires : Wires) (c : Circuit) → Valued s (count_after sum wires c).circuit
    → Valued s c × (read s (count_after sum wires c).result ≡ counted (read s sum) (read s wires))
count_after_reads s one sum [] c h = (h, refl)
count_after_reads s one sum (w ∷ wires) c h =
    let first = add sum (w ∷ replicate 6 false_wire) false_wire c in
    let rest = count_after_reads s one first.result.sums wires first.circuit h in
    let here = add_reads s sum (w ∷ replicate 6 false_wire) false_wire c rest.0 in
    let added : read s first.result.sums ≡ sums (read s sum) (holds s w ∷ replicate 6 false) false =
    here.1 ∙ ap₂ (λ (bs : List Bool) (b : Bool). sums (read s sum) (holds s w ∷ bs) b) (read_falses s one 6) (holds_false s one) in
    (here.0, rest.1 ∙ ap (λ (bs : List Bool). counted bs (read s wires)) added)

pub count_reads : (s : Assignment) → s 1 ≡ true → (wires : Wires) (c : Circuit) → Valued s (count wires c).circuit
    → Valued s c × (read s (count wires c).result ≡ counted seven_zeros (read s wires))
count_reads s one wires c h =
    let all = count_after_reads s one (replicate 7 false_wire) wires c h in
    (all.0, all.1 ∙ ap (λ (bs : List Bool). counted bs (read s wires)) (read_falses s one 7))
