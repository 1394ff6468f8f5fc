-- The input that the values of variables spell.
use Rattle.std.proofs.Common.{◌≡◌, ℕ, zero, suc, ◌+◌, ◌-◌, ◌*◌, ◌^◌, ◌<◌, ◌≤◌, Bool, true, false, List, [], ◌∷◌, ◌++◌, length, map, take, drop, get_or, refl, sym, ap, ◌∙◌, arith, ap₂, length-append, pow-suc, pow_mono, slice_get, unwrap_or, take-append-drop, length-take}
use Rattle.std.proofs.lemmas.List.{take_more}
use Rattle.wasm_rules.specs.Words.{bits_where}
use Rattle.refute_check.specs.Clauses.{Assignment}
use Rattle.clause_solver.specs.Answers.{assignment_of}
use Rattle.bit_blast.specs.Formulas.{symbols_end, falling_wires, variables_from}
use Rattle.bit_blast.specs.Meanings.{bit, value_of_wires, input_from}
use mir.Val.{bool_byte}
use Rattle.bit_blast.proofs.LengthLemmas.{length_map}
use Rattle.bit_blast.proofs.CountLemmas.{number_down}
use Rattle.bit_blast.proofs.LeastLemmas.{symbol-number}
use Rattle.bit_blast.proofs.TermRanges.{end_later}
use Rattle.path_ask.specs.Reading.{spelled_down}

-- ---- bits

pub spelled_is : (xs : List Bool) → spelled_down xs ≡ number_down xs
spelled_is [] = refl
spelled_is (x ∷ xs) = ap (λ (n : ℕ). bit x * 2 ^ length xs + n) (spelled_is xs)

pub spelled-last : (xs : List Bool) (x : Bool) → spelled_down (xs ++ x ∷ []) ≡ 2 * spelled_down xs + bit x
spelled-last [] x = omega arith
spelled-last (y ∷ xs) x =
    let rest = spelled-last xs x in
    let long : length (xs ++ x ∷ []) ≡ suc (length xs) = length-append xs (x ∷ []) ∙ omega arith in
    rw (rest, long, pow-suc) (omega arith)

pub spelled-below : (xs : List Bool) → spelled_down xs < 2 ^ length xs
spelled-below [] = omega arith
spelled-below (true ∷ xs) = let rest = spelled-below xs in rw pow-suc (omega arith)
spelled-below (false ∷ xs) = let rest = spelled-below xs in rw pow-suc (omega arith)

-- one more bit fits into 64
pub bit-fits : (xs : List Bool) (n : ℕ) → length xs < 64 → n ≡ spelled_down xs → 2 * n + 1 < 2 ^ 64
bit-fits xs n few e =
    let below = spelled-below xs in
    let few_left : length xs ≤ 63 = omega arith in
    let most : 2 ^ length xs ≤ 2 ^ 63 = pow_mono few_left in
    omega arith

-- ---- symbols

input-last : (s : Assignment) (first : ℕ) (draws : List Bool) (wide : Bool)
    → input_from s first (draws ++ wide ∷ []) ≡ input_from s first draws ++ value_of_wires s (falling_wires (symbols_end first draws) (bits_where wide)) ∷ []
input-last s first [] wide = refl
input-last s first (w ∷ draws) wide = ap (λ (ns : List ℕ). value_of_wires s (falling_wires first (bits_where w)) ∷ ns) (input-last s (first + bits_where w) draws wide)

end-last : (first : ℕ) (draws : List Bool) (wide : Bool) → symbols_end first (draws ++ wide ∷ []) ≡ symbols_end first draws + bits_where wide
end-last first [] wide = refl
end-last first (w ∷ draws) wide = end-last (first + bits_where w) draws wide

end-append : (first : ℕ) (draws more : List Bool) → symbols_end first draws ≤ symbols_end first (draws ++ more)
end-append first [] more = end_later first more
end-append first (w ∷ draws) more = end-append (first + bits_where w) draws more

-- the values of variables one after another
get-at : (values : List Bool) (at : ℕ) → at < length values → drop at values ≡ unwrap_or (slice_get values at) false ∷ drop (suc at) values
get-at [] at h = absurd (omega arith)
get-at (x ∷ values) zero h = refl
get-at (x ∷ values) (suc at) h = get-at values at (omega arith)

pub values-from : (values : List Bool) (at count : ℕ) → at + count ≤ length values → map (assignment_of values) (variables_from (at + 1) count) ≡ take count (drop at values)
values-from values at zero h = refl
values-from values at (suc count) h =
    let back : at + 1 - 1 ≡ at = omega arith in
    let up : suc (at + 1) ≡ suc at + 1 = omega arith in
    ap₂ (λ (b : Bool) (bs : List Bool). b ∷ bs) (ap (λ (n : ℕ). unwrap_or (slice_get values n) false) back)
    (ap (λ (n : ℕ). map (assignment_of values) (variables_from n count)) up ∙ values-from values (suc at) count (omega arith))
    ∙ sym (ap (λ (bs : List Bool). take (suc count) bs) (get-at values at (omega arith)))

-- the number of a symbol
pub symbol-is : (values : List Bool) (at count n : ℕ) → at + count ≤ length values → n ≡ spelled_down (take count (drop at values)) → n ≡ value_of_wires (assignment_of values) (falling_wires (at + 1) count)
symbol-is values at count n h e =
    e ∙ spelled_is (take count (drop at values)) ∙ ap number_down (sym (values-from values at count h)) ∙ sym (symbol-number (assignment_of values) (at + 1) count)

pub part_long : (at b w : ℕ) → b ≡ w → at + b - at ≡ w
part_long at b w e = omega arith

-- one symbol more
pub one-symbol : (values draws : List Bool) (i at at' n : ℕ) (wide : Bool) (input input' : List ℕ) → i < length draws → wide ≡ get_or draws i false
    → at + 1 ≡ symbols_end 2 (take i draws) → input ≡ input_from (assignment_of values) 2 (take i draws)
    → at + bits_where wide ≤ length values → n ≡ spelled_down (take (bits_where wide) (drop at values))
    → at' ≡ at + bits_where wide → input' ≡ input ++ n ∷ []
    → (at' + 1 ≡ symbols_end 2 (take (i + 1) draws)) × (input' ≡ input_from (assignment_of values) 2 (take (i + 1) draws))
one-symbol values draws i at at' n wide input input' h w place so_far room number next pushed =
    let more : take (i + 1) draws ≡ take i draws ++ wide ∷ [] = take_more draws i false h ∙ ap (λ (b : Bool). take i draws ++ b ∷ []) (sym w) in (
      ap (λ (k : ℕ). k + 1) next ∙ turn at (bits_where wide) ∙ ap (λ (k : ℕ). k + bits_where wide) place ∙ sym (end-last 2 (take i draws) wide)
          ∙ sym (ap (λ (ds : List Bool). symbols_end 2 ds) more),
      pushed ∙ ap₂ (λ (ns : List ℕ) (k : ℕ). ns ++ k ∷ []) so_far (symbol-is values at (bits_where wide) n room number ∙ ap (λ (k : ℕ). value_of_wires (assignment_of values) (falling_wires k (bits_where wide))) place)
          ∙ sym (input-last (assignment_of values) 2 (take i draws) wide) ∙ sym (ap (λ (ds : List Bool). input_from (assignment_of values) 2 ds) more),
    )
  where
    turn : (a b : ℕ) → a + b + 1 ≡ a + 1 + b
    turn a b = omega arith

-- the next symbol's bits are there
pub next-room : (draws : List Bool) (i at : ℕ) (wide : Bool) (most : ℕ) → i < length draws → wide ≡ get_or draws i false → at + 1 ≡ symbols_end 2 (take i draws) → symbols_end 2 draws ≤ most + 1
    → at + bits_where wide ≤ most
next-room draws i at wide most h w place room =
    let more : take (i + 1) draws ≡ take i draws ++ wide ∷ [] = take_more draws i false h ∙ ap (λ (b : Bool). take i draws ++ b ∷ []) (sym w) in
    let all : take (i + 1) draws ++ drop (i + 1) draws ≡ draws = take-append-drop (i + 1) draws in
    let within = end-append 2 (take (i + 1) draws) (drop (i + 1) draws) in
    let whole : symbols_end 2 (take (i + 1) draws ++ drop (i + 1) draws) ≡ symbols_end 2 draws = ap (λ (ds : List Bool). symbols_end 2 ds) all in
    let here : symbols_end 2 (take (i + 1) draws) ≡ symbols_end 2 (take i draws) + bits_where wide = ap (λ (ds : List Bool). symbols_end 2 ds) more ∙ end-last 2 (take i draws) wide in
    omega arith

-- ---- as the code reads them

bool_bit : (b : Bool) → bool_byte b ≡ bit b
bool_bit true = refl
bool_bit false = refl

bit-most : (b : Bool) → bit b ≤ 1
bit-most true = omega arith
bit-most false = omega arith

part_few : (xs : List Bool) (i : ℕ) → i < length xs → length xs ≤ 64 → length (take i xs) < 64
part_few xs i h few = let long = length-take i xs in omega arith

pub number-fits : (xs : List Bool) (i n : ℕ) → i < length xs → length xs ≤ 64 → n ≡ spelled_down (take i xs) → 2 * n < 2 ^ 64
number-fits xs i n h few e = let f = bit-fits (take i xs) n (part_few xs i h few) e in omega arith

pub next-fits : (xs : List Bool) (i n m : ℕ) → i < length xs → length xs ≤ 64 → n ≡ spelled_down (take i xs) → m ≡ bool_byte (get_or xs i false) → 2 * n + m < 2 ^ 64
next-fits xs i n m h few e g =
    let f = bit-fits (take i xs) n (part_few xs i h few) e in
    let is : m ≡ bit (get_or xs i false) = g ∙ bool_bit (get_or xs i false) in
    let most = bit-most (get_or xs i false) in
    omega arith

pub next-spelled : (xs : List Bool) (i n m : ℕ) → i < length xs → n ≡ spelled_down (take i xs) → m ≡ bool_byte (get_or xs i false) → 2 * n + m ≡ spelled_down (take (i + 1) xs)
next-spelled xs i n m h e g =
    ap₂ (λ (a b : ℕ). 2 * a + b) e (g ∙ bool_bit (get_or xs i false)) ∙ sym (spelled-last (take i xs) (get_or xs i false))
    ∙ ap (λ (ys : List Bool). spelled_down ys) (sym (take_more xs i false h))

-- the values of a list of variables
length-map-take : (f : ℕ → Bool) (i : ℕ) (xs : List ℕ) → i < length xs → length (map f (take i xs)) ≡ i
length-map-take f i xs h = length_map f (take i xs) ∙ length-take i xs ∙ omega arith

pub number-fits-at : (values : List Bool) (xs : List ℕ) (i n : ℕ) → i < length xs → length xs ≤ 64 → n ≡ spelled_down (map (assignment_of values) (take i xs)) → 2 * n < 2 ^ 64
number-fits-at values xs i n h few e =
    let long = length-map-take (assignment_of values) i xs h in
    let f = bit-fits (map (assignment_of values) (take i xs)) n (omega arith) e in
    omega arith

pub next-fits-at : (values : List Bool) (xs : List ℕ) (i n m : ℕ) → i < length xs → length xs ≤ 64 → n ≡ spelled_down (map (assignment_of values) (take i xs))
    → m ≡ bool_byte (get_or values (get_or xs i 0 - 1) false) → 2 * n + m < 2 ^ 64
next-fits-at values xs i n m h few e g =
    let long = length-map-take (assignment_of values) i xs h in
    let f = bit-fits (map (assignment_of values) (take i xs)) n (omega arith) e in
    let is : m ≡ bit (get_or values (get_or xs i 0 - 1) false) = g ∙ bool_bit (get_or values (get_or xs i 0 - 1) false) in
    let most = bit-most (get_or values (get_or xs i 0 - 1) false) in
    omega arith

assigned-at : (values : List Bool) (v : ℕ) → get_or values (v - 1) false ≡ assignment_of values v
assigned-at values v = go values (v - 1)
  where
    go : (values : List Bool) (k : ℕ) → get_or values k false ≡ unwrap_or (slice_get values k) false
    go [] k = refl
    go (x ∷ values) zero = refl
    go (x ∷ values) (suc k) = go values k

map-take-more : (f : ℕ → Bool) (xs : List ℕ) (i : ℕ) → i < length xs → map f (take (i + 1) xs) ≡ map f (take i xs) ++ f (get_or xs i 0) ∷ []
map-take-more f xs i h = ap (map f) (take_more xs i 0 h) ∙ map-last f (take i xs) (get_or xs i 0)
  where
    map-last : (f : ℕ → Bool) (xs : List ℕ) (x : ℕ) → map f (xs ++ x ∷ []) ≡ map f xs ++ f x ∷ []
    map-last f [] x = refl
    map-last f (y ∷ xs) x = ap (λ (bs : List Bool). f y ∷ bs) (map-last f xs x)

pub next-spelled-at : (values : List Bool) (xs : List ℕ) (i n m : ℕ) → i < length xs → n ≡ spelled_down (map (assignment_of values) (take i xs))
    → m ≡ bool_byte (get_or values (get_or xs i 0 - 1) false) → 2 * n + m ≡ spelled_down (map (assignment_of values) (take (i + 1) xs))
next-spelled-at values xs i n m h e g =
    ap₂ (λ (a b : ℕ). 2 * a + b) e (g ∙ bool_bit (get_or values (get_or xs i 0 - 1) false) ∙ ap bit (assigned-at values (get_or xs i 0)))
    ∙ sym (spelled-last (map (assignment_of values) (take i xs)) (assignment_of values (get_or xs i 0)))
    ∙ ap (λ (ys : List Bool). spelled_down ys) (sym (map-take-more (assignment_of values) xs i h))
