-- How many wires blocks give.
use Rattle.std.proofs.Common.{◌≡◌, ℕ, zero, suc, ◌+◌, ◌-◌, ◌<◌, ◌≤◌, List, [], ◌∷◌, ◌++◌, length, map, zip, take, drop, replicate, refl, sym, ap, ◌∙◌, arith, ap₂, length-append, length-take, length-drop, ◌*◌, ◌^◌, subst, pow-suc, mul-le-mul_left, mul_assoc}
use Rattle.std.proofs.lemmas.Nat.{pow_pos}
use Rattle.bit_blast.specs.declared.gates.Gate.{Gate}
use Rattle.bit_blast.specs.declared.gates.Gate.TheVariants.{And, Xor, Mux}
use Rattle.bit_blast.specs.declared.blocks.Division.{Division}
use Rattle.bit_blast.specs.declared.blocks.Shift.{Shift}
use Rattle.bit_blast.specs.declared.blocks.Shift.TheVariants.{Left, Right, RightSigned, RotateLeft, RotateRight}
use Rattle.bit_blast.specs.Gates.{Wires, true_wire, false_wire, negation, number_wires, Circuit}
use Rattle.bit_blast.specs.Blocks.{put, put_all, each, each_two, add, zeros_after, zeros, highest, negate_if, count_after, count, divide_bit, divide_from, divide, times, add_rows, multiply, moved, shift_by, choose, none}

pub length_map : {A B : Type 0} (f : A → B) (xs : List A) → length (map f xs) ≡ length xs
length_map f [] = refl
length_map f (x ∷ xs) = ap suc (length_map f xs)

pub length_copies : {A : Type 0} (n : ℕ) (x : A) → length (replicate n x) ≡ n
length_copies zero x = refl
length_copies (suc n) x = ap suc (length_copies n x)

pub length_zip : (xs ys : Wires) → length xs ≡ length ys → length (zip xs ys) ≡ length ys
length_zip [] [] h = refl
length_zip [] (y ∷ ys) h = absurd (omega arith)
length_zip (x ∷ xs) [] h = absurd (omega arith)
length_zip (x ∷ xs) (y ∷ ys) h = ap suc (length_zip xs ys (omega arith))

pub length_number : (bits n : ℕ) → length (number_wires bits n) ≡ bits
length_number zero n = refl
length_number (suc bits) n = ap suc (length_number bits _)

pub length_put_all : (gates : List Gate) (c : Circuit) → length (put_all gates c).result ≡ length gates
length_put_all [] c = refl
length_put_all (gate ∷ gates) c = ap suc (length_put_all gates (put gate c).circuit)

pub length_each : (gate : ℕ → Gate) (xs : Wires) (c : Circuit) → length (each gate xs c).result ≡ length xs
length_each gate xs c = length_put_all (map gate xs) c ∙ length_map gate xs

pub length_each_two : (gate : ℕ → ℕ → Gate) (xs ys : Wires) (c : Circuit) → length xs ≡ length ys → length (each_two gate xs ys c).result ≡ length ys
length_each_two gate xs ys c h = length_put_all (map (λ p. gate p.0 p.1) (zip xs ys)) c ∙ length_map (λ p. gate p.0 p.1) (zip xs ys) ∙ length_zip xs ys h

pub length_add : (xs ys : Wires) (carry : ℕ) (c : Circuit) → length xs ≡ length ys → length (add xs ys carry c).result.sums ≡ length xs
length_add [] ys carry c h = refl
length_add (x ∷ xs) [] carry c h = absurd (omega arith)
length_add (x ∷ xs) (y ∷ ys) carry c h = ap suc (length_add xs ys _ _ (omega arith))

pub length_zeros_after : (before : ℕ) (ds : Wires) (c : Circuit) → length (zeros_after before ds c).result ≡ length ds
length_zeros_after before [] c = refl
length_zeros_after before (d ∷ ds) c = ap suc (length_zeros_after (put (And before (negation d)) c).result ds (put (And before (negation d)) c).circuit)

pub length_zeros : (ds : Wires) (c : Circuit) → length (zeros ds c).result ≡ length ds
length_zeros [] c = refl
length_zeros (d ∷ ds) c = ap suc (length_zeros_after (negation d) ds c)

pub length_negate_if : (sign : ℕ) (xs : Wires) (c : Circuit) → length (negate_if sign xs c).result ≡ length xs
length_negate_if sign xs c =
    let turned = each (λ x. Xor x sign) xs c in
    let long = length_each (λ x. Xor x sign) xs c in
    length_add turned.result (replicate (length xs) false_wire) sign turned.circuit (long ∙ sym (length_copies (length xs) false_wire)) ∙ long

pub length_count_after : (bits wires : Wires) (c : Circuit) → length bits ≡ 7 → length (count_after bits wires c).result ≡ 7
length_count_after bits [] c h = h
length_count_after bits (w ∷ wires) c h = length_count_after (add bits (w ∷ replicate 6 false_wire) false_wire c).result.sums wires (add bits (w ∷ replicate 6 false_wire) false_wire c).circuit (length_add bits (w ∷ replicate 6 false_wire) false_wire c h ∙ h)

pub length_count : (wires : Wires) (c : Circuit) → length (count wires c).result ≡ 7
length_count wires c = length_count_after (replicate 7 false_wire) wires c refl

pub length_divide_bit : (ys : Wires) (x : ℕ) (c : Circuit) (above : Division) → length above.remainder ≡ suc (length ys) → length (divide_bit ys x above c).result.remainder ≡ suc (length ys)
length_divide_bit ys x c above h =
    let long : length (x ∷ take (length ys) above.remainder) ≡ suc (length ys) = ap suc (length-take (length ys) above.remainder ∙ omega arith) in
    let same : length (x ∷ take (length ys) above.remainder) ≡ length (map negation ys ++ true_wire ∷ []) = long ∙ sym (length-append (map negation ys) (true_wire ∷ []) ∙ ap (λ (n : ℕ). n + 1) (length_map negation ys) ∙ omega arith) in
    let sum = add (x ∷ take (length ys) above.remainder) (map negation ys ++ true_wire ∷ []) true_wire c in
    length_each_two (Mux sum.result.carry) sum.result.sums (x ∷ take (length ys) above.remainder) sum.circuit (length_add (x ∷ take (length ys) above.remainder) (map negation ys ++ true_wire ∷ []) true_wire c same) ∙ long

pub length_divide_from : (ys xs : Wires) (c : Circuit) → (length (divide_from ys xs c).result.quotient ≡ length xs) × (length (divide_from ys xs c).result.remainder ≡ suc (length ys))
length_divide_from ys [] c = (refl, length_copies (suc (length ys)) false_wire)
length_divide_from ys (x ∷ higher) c =
    let above = length_divide_from ys higher c in
    (ap suc above.0, length_divide_bit ys x (divide_from ys higher c).circuit (divide_from ys higher c).result above.1)

pub length_divide : (xs ys : Wires) (c : Circuit) → (length (divide xs ys c).result.quotient ≡ length xs) × (length (divide xs ys c).result.remainder ≡ length ys)
length_divide xs ys c =
    let all = length_divide_from ys xs c in
    (all.0, length-take (length ys) (divide_from ys xs c).result.remainder ∙ omega arith)

pub length_add_rows : (xs ys sum : Wires) (c : Circuit) → length ys < length sum → length sum ≤ suc (length xs) → length (add_rows xs ys sum c).result ≡ length sum
length_add_rows xs [] sum c h k = refl
length_add_rows xs (y ∷ ys) [] c h k = absurd (omega arith)
length_add_rows xs (y ∷ ys) (lowest ∷ sum) c h k =
    let row = times (take (length sum) xs) y c in
    let long : length row.result ≡ length sum = length_each (λ x. And x y) (take (length sum) xs) c ∙ length-take (length sum) xs ∙ omega arith in
    let next = length_add sum row.result false_wire row.circuit (sym long) in
    ap suc (length_add_rows xs ys (add sum row.result false_wire row.circuit).result.sums (add sum row.result false_wire row.circuit).circuit (omega arith) (omega arith) ∙ next)

pub length_multiply : (xs ys : Wires) (c : Circuit) → length xs ≡ length ys → length (multiply xs ys c).result ≡ length ys
length_multiply xs [] c h = refl
length_multiply xs (y ∷ ys) c h =
    let row = times xs y c in
    let long = length_each (λ x. And x y) xs c in
    length_add_rows xs ys row.result row.circuit (omega arith) (omega arith) ∙ long ∙ h

pub length_moved : (kind : Shift) (k : ℕ) (xs : Wires) → k ≤ length xs → length (moved kind k xs) ≡ length xs
length_moved Left k xs h = length-append (replicate k false_wire) (take (length xs - k) xs) ∙ ap₂ (λ (m n : ℕ). m + n) (length_copies k false_wire) (length-take (length xs - k) xs) ∙ omega arith
length_moved Right k xs h = length-append (drop k xs) (replicate k false_wire) ∙ ap₂ (λ (m n : ℕ). m + n) (length-drop k xs) (length_copies k false_wire) ∙ omega arith
length_moved RightSigned k xs h = length-append (drop k xs) (replicate k (highest xs)) ∙ ap₂ (λ (m n : ℕ). m + n) (length-drop k xs) (length_copies k (highest xs)) ∙ omega arith
length_moved RotateLeft k xs h = length-append (drop (length xs - k) xs) (take (length xs - k) xs) ∙ ap₂ (λ (m n : ℕ). m + n) (length-drop (length xs - k) xs) (length-take (length xs - k) xs) ∙ omega arith
length_moved RotateRight k xs h = length-append (drop k xs) (take k xs) ∙ ap₂ (λ (m n : ℕ). m + n) (length-drop k xs) (length-take k xs) ∙ omega arith

pub length_shift_by : (kind : Shift) (places : ℕ) (ys xs : Wires) (c : Circuit) → places * 2 ^ length ys ≤ length xs → length (shift_by kind places ys xs c).result ≡ length xs
length_shift_by kind places [] xs c h = refl
length_shift_by kind places (y ∷ ys) xs c h =
    let double : places * 2 ^ length (y ∷ ys) ≡ 2 * places * 2 ^ length ys = ap (λ (n : ℕ). places * n) (pow-suc 2 (length ys)) ∙ omega arith in
    let small : places ≤ length xs = smaller places (2 ^ length ys) (length xs) (pow_pos (length ys)) (subst (λ (n : ℕ). n ≤ length xs) double h) in
    let first = each_two (Mux y) (moved kind places xs) xs c in
    let long : length first.result ≡ length xs = length_each_two (Mux y) (moved kind places xs) xs c (length_moved kind places xs small) in
    length_shift_by kind (2 * places) ys first.result first.circuit (subst (λ (n : ℕ). 2 * places * 2 ^ length ys ≤ n) (sym long) (subst (λ (n : ℕ). n ≤ length xs) double h)) ∙ long
  where
    smaller : (p q n : ℕ) → 0 < q → 2 * p * q ≤ n → p ≤ n
    smaller p q n more fit =
        let one_of : p * 1 ≤ p * q = mul-le-mul_left p more in
        let turn : 2 * p * q ≡ 2 * (p * q) = mul_assoc 2 p q in
        omega arith

pub length_choose : (condition xs ys : Wires) (c : Circuit) → length xs ≡ length ys → length (choose condition xs ys c).result ≡ length ys
length_choose condition xs ys c h = length_each_two (Mux (negation (none condition c).result)) xs ys (none condition c).circuit h
