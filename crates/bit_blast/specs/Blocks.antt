-- Blocks of gates. (Kroening and Strichman, Decision Procedures, the chapter on bit vectors: flattening.)
--
-- A building goes on from the gates so far: it puts gates after them and gives a result over their wires. The wires of an
-- integer are listed from the lowest bit on.
use Rattle.std.specs.Prelude.{◌≡◌, ℕ, suc, ◌-◌, ◌*◌, List, [], ◌∷◌, ◌++◌, length, map, zip, take, drop, replicate}
use Rattle.refute_check.specs.Clauses.{positive}
use Rattle.bit_blast.specs.declared.gates.Gate.{Gate}
use Rattle.bit_blast.specs.declared.gates.Gate.TheVariants.{And, Xor, Mux, Maj}
use Rattle.bit_blast.specs.declared.blocks.Sum.{Sum}
use Rattle.bit_blast.specs.declared.blocks.Division.{Division}
use Rattle.bit_blast.specs.declared.blocks.Shift.{Shift}
use Rattle.bit_blast.specs.declared.blocks.Shift.TheVariants.{Left, Right, RightSigned, RotateLeft, RotateRight}
use Rattle.bit_blast.specs.Gates.{Wires, true_wire, false_wire, negation, Circuit, next_of}

-- ---- buildings

pub record Built (A : Type 0) : Type 0 where
  pub circuit : Circuit
  pub result : A

abbrev pub Building : Type 0 → Type 0
Building A = Circuit → Built A

-- no gate
abbrev pub give : {A : Type 0} → A → Building A
give x circuit = record { circuit = circuit; result = x }

abbrev pub go_on : {A B : Type 0} → Built A → (A → Building B) → Built B
go_on built f = f built.result built.circuit

-- a building, and then one over its result
infixl 10 ◌>>=◌
abbrev pub ◌>>=◌ : {A B : Type 0} → Building A → (A → Building B) → Building B
◌>>=◌ p f circuit = go_on (p circuit) f

-- the building goes on from the old circuit to the new one, and has this result
pub record Builds {A : Type 0} (building : Building A) (old : Circuit) (result : A) (new : Circuit) : Type 0 where
  pub circuit : new ≡ (building old).circuit
  pub result_is : result ≡ (building old).result

-- one gate, and its wire
abbrev pub put : Gate → Building ℕ
put gate circuit = record {
  circuit = record { first = circuit.first; gates = gate ∷ circuit.gates };
  result = positive (next_of circuit);
}

-- gates one after another, and their wires
abbrev pub put_all : List Gate → Building Wires
put_all [] = give []
put_all (gate ∷ gates) = do
  wire ← put gate
  wires ← put_all gates
  give (wire ∷ wires)

-- a gate for each wire, or for each two wires at one place
abbrev pub each : (ℕ → Gate) → Wires → Building Wires
each gate xs = put_all (map gate xs)

abbrev pub each_two : (ℕ → ℕ → Gate) → Wires → Wires → Building Wires
each_two gate xs ys = put_all (map (λ p. gate p.0 p.1) (zip xs ys))

-- ---- ADD: the sums of two integers and a carry, and the last carry

abbrev pub with_sum : ℕ → Sum → Sum
with_sum wire sum = record { sums = wire ∷ sum.sums; carry = sum.carry }

abbrev pub add : Wires → Wires → ℕ → Building Sum
add [] ys carry = give (record { sums = []; carry = carry })
add (x ∷ xs) [] carry = give (record { sums = []; carry = carry })
add (x ∷ xs) (y ∷ ys) carry = do
  differ ← put (Xor x y)
  wire ← put (Xor differ carry)
  next ← put (Maj x y carry)
  sum ← add xs ys next
  give (with_sum wire sum)

-- ---- LESS: whether the first is below the second, where the lower bits say so by a wire

abbrev pub less_after : ℕ → Wires → Wires → Building ℕ
less_after lower [] ys = give lower
less_after lower (x ∷ xs) [] = give lower
less_after lower (x ∷ xs) (y ∷ ys) = do
  next ← put (Maj (negation x) y lower)
  less_after next xs ys

abbrev pub less : Wires → Wires → Building ℕ
less xs ys = less_after false_wire xs ys

-- ---- NONE: whether all wires are false

-- for each wire, whether it and those before it are all false, where a wire says it of those before the first
abbrev pub zeros_after : ℕ → Wires → Building Wires
zeros_after before [] = give []
zeros_after before (d ∷ ds) = do
  next ← put (And before (negation d))
  rest ← zeros_after next ds
  give (next ∷ rest)

abbrev pub zeros : Wires → Building Wires
zeros [] = give []
zeros (d ∷ ds) = do
  rest ← zeros_after (negation d) ds
  give (negation d ∷ rest)

-- the highest wire
abbrev pub highest_or : ℕ → Wires → ℕ
highest_or wire [] = wire
highest_or wire (x ∷ xs) = highest_or x xs

abbrev pub highest : Wires → ℕ
highest xs = highest_or false_wire xs

abbrev pub none : Wires → Building ℕ
none ds = do
  all ← zeros ds
  give (highest all)

-- ---- NEGIF: the negation of an integer where a wire is true, else the integer

abbrev pub negate_if : ℕ → Wires → Building Wires
negate_if sign xs = do
  turned ← each (λ x. Xor x sign) xs
  sum ← add turned (replicate (length xs) false_wire) sign
  give sum.sums

-- ---- COUNT: how many wires are true, in seven bits

abbrev pub count_after : Wires → Wires → Building Wires
count_after bits [] = give bits
count_after bits (wire ∷ wires) = do
  sum ← add bits (wire ∷ replicate 6 false_wire) false_wire
  count_after sum.sums wires

abbrev pub count : Wires → Building Wires
count wires = count_after (replicate 7 false_wire) wires

-- ---- DIVIDE: quotient and remainder, from the highest bit of the dividend down

-- With one bit more of the dividend below what was divided: where the divisor fits into the remainder, it is taken off.
abbrev pub divide_bit : Wires → ℕ → Division → Building Division
divide_bit ys x above = do
  let shifted = x ∷ take (length ys) above.remainder
  sum ← add shifted (map negation ys ++ true_wire ∷ []) true_wire
  remainder ← each_two (Mux sum.carry) sum.sums shifted
  give (record { quotient = sum.carry ∷ above.quotient; remainder = remainder })

abbrev pub divide_from : Wires → Wires → Building Division
divide_from ys [] = give (record { quotient = []; remainder = replicate (suc (length ys)) false_wire })
divide_from ys (x ∷ higher) = do
  above ← divide_from ys higher
  divide_bit ys x above

abbrev pub divide : Wires → Wires → Building Division
divide xs ys = do
  divided ← divide_from ys xs
  give (record { quotient = divided.quotient; remainder = take (length ys) divided.remainder })

-- ---- products

-- the first integer where a wire is true, else 0
abbrev pub times : Wires → ℕ → Building Wires
times xs y = each (λ x. And x y) xs

-- one more row, of the lowest bits of the first integer, is added to a sum
abbrev pub add_row : Wires → ℕ → Wires → Building Wires
add_row xs y sum = do
  row ← times (take (length sum) xs) y
  next ← add sum row false_wire
  give next.sums

-- The rows of the bits y_i, y_(i+1) and so on are added to a sum, which is there from its bit i - 1 on.
abbrev pub add_rows : Wires → Wires → Wires → Building Wires
add_rows xs [] sum = give sum
add_rows xs (y ∷ ys) [] = give []
add_rows xs (y ∷ ys) (lowest ∷ sum) = do
  next ← add_row xs y sum
  rest ← add_rows xs ys next
  give (lowest ∷ rest)

abbrev pub multiply : Wires → Wires → Building Wires
multiply xs [] = give []
multiply xs (y ∷ ys) = do
  row ← times xs y
  add_rows xs ys row

-- ---- shifts and rotations

-- the wires moved by so many places
abbrev pub moved : Shift → ℕ → Wires → Wires
moved Left places xs = replicate places false_wire ++ take (length xs - places) xs
moved Right places xs = drop places xs ++ replicate places false_wire
moved RightSigned places xs = drop places xs ++ replicate places (highest xs)
moved RotateLeft places xs = drop (length xs - places) xs ++ take (length xs - places) xs
moved RotateRight places xs = drop places xs ++ take places xs

-- by so many places where the first wire is true, by twice as many more where the second is, and so on
abbrev pub shift_by : Shift → ℕ → Wires → Wires → Building Wires
shift_by kind places [] xs = give xs
shift_by kind places (y ∷ ys) xs = do
  next ← each_two (Mux y) (moved kind places xs) xs
  shift_by kind (2 * places) ys next

-- ---- choices: the wires of the first where the condition isn't 0, else of the second

abbrev pub choose : Wires → Wires → Wires → Building Wires
choose condition xs ys = do
  zero_wire ← none condition
  each_two (Mux (negation zero_wire)) xs ys
