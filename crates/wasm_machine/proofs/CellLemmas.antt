-- Lists of cells: their parts, and what is written over them.
use Rattle.std.proofs.Common.{◌≡◌, ℕ, ◌+◌, ◌≤◌, ◌<◌, List, [], ◌∷◌, ◌++◌, length, take, drop, map, set, get_or, All, Some, slice_get, refl, sym, ap, ap₂, ◌∙◌, arith}
use Rattle.std.proofs.lemmas.List.{append-nil, map-append, take-map, drop-map, length-map, length-append, length-drop, length-take-le, take-append-drop, get_or-drop, append_assoc, drop_more, set_at, take_more, take_more_set}
use Rattle.std.proofs.lemmas.List.Elements.{All-append, All-take, All-drop, All-head, All-tail, All-weaker}
use Rattle.std.proofs.lemmas.Option.{get_or_from_slice_get}
use Rattle.wasm_rules.specs.declared.accesses.Access.{Access}
use Rattle.wasm_rules.specs.Words.{Kept}
use Rattle.wasm_rules.specs.Accesses.{load_of, store_of, load_bytes}
use Rattle.wasm_rules.proofs.AccessLemmas.{load_row, load_bytes-is, store_row}
use Rattle.wasm_rules.proofs.StoredLemmas.{count_small, count_some}
use Rattle.wasm_reduction.specs.Combinators.{written, part}

-- ---- parts, and lists written over others

module _ {X Y : Type 0} (f : X → Y) where
  pub map-part : (place n : ℕ) (xs : List X) → map f (part place n xs) ≡ part place n (map f xs)
  map-part place n xs = sym (ap (take n) (drop-map f place xs) ∙ take-map f n (drop place xs))

  pub map-written : (place : ℕ) (xs list : List X) → map f (written place xs list) ≡ written place (map f xs) (map f list)
  map-written place xs list =
      map-append f (take place list ++ xs) (drop (place + length xs) list)
      ∙ ap₂ (λ a b. a ++ b)
      (map-append f (take place list) xs ∙ ap (λ t. t ++ map f xs) (sym (take-map f place list)))
      (sym (drop-map f (place + length xs) list) ∙ ap (λ n. drop (place + n) (map f list)) (sym (length-map xs f)))

module _ {X : Type 0} (P : X → Type 0) where
  pub All-written : (place : ℕ) (xs list : List X) → All P xs → All P list → All P (written place xs list)
  All-written place xs list new old =
      All-append P (take place list ++ xs) (drop (place + length xs) list)
      (All-append P (take place list) xs (All-take P place list old) new) (All-drop P (place + length xs) list old)

  pub All-part : (place n : ℕ) (xs : List X) → All P xs → All P (part place n xs)
  All-part place n xs each = All-take P n (drop place xs) (All-drop P place xs each)

pub length-part : {X : Type 0} → (place n : ℕ) (xs : List X) → place + n ≤ length xs → length (part place n xs) ≡ n
length-part place n xs within = length-take-le n (drop place xs) (omega (arith, within, length-drop place xs))

pub length-written : {X : Type 0} → (place : ℕ) (xs list : List X) → place + length xs ≤ length list → length (written place xs list) ≡ length list
length-written place xs list within =
    omega (
      arith,
      within,
      length-append (take place list ++ xs) (drop (place + length xs) list),
      length-append (take place list) xs,
      length-take-le place list (omega (arith, within)),
      length-drop (place + length xs) list,
    )

pub written-nothing : {X : Type 0} → (place : ℕ) (list : List X) → written place [] list ≡ list
written-nothing place list = ap (λ xs. xs ++ drop (place + 0) list) (append-nil (take place list)) ∙ ap (λ n. take place list ++ drop n list) (omega arith) ∙ take-append-drop place list

-- ---- words that are kept

module _ {A W M : Type 0} (holds : A → W → Type 0) (means : A → W → M) where
  pub map-kept : (a b : A) (words : List W) → Kept holds means a b → All (holds a) words → map (means b) words ≡ map (means a) words
  map-kept a b [] kept each = refl
  map-kept a b (w ∷ rest) kept each =
      ap₂ (λ x xs. x ∷ xs) (kept w (All-head (holds a) w rest each)).1 (map-kept a b rest kept (All-tail (holds a) w rest each))

  pub All-kept : (a b : A) (words : List W) → Kept holds means a b → All (holds a) words → All (holds b) words
  All-kept a b words kept each = All-weaker (holds a) (holds b) (λ w h. (kept w h).0) words each

  -- words whose meanings are these are written over words that were held before
  pub means-written : (a b : A) (place : ℕ) (words cells : List W) (now : List M) → Kept holds means a b → All (holds a) cells → map (means b) words ≡ now
      → map (means b) (written place words cells) ≡ written place now (map (means a) cells)
  means-written a b place words cells now kept each is =
      map-written (means b) place words cells
      ∙ ap₂ (λ xs list. written place xs list) is (map-kept a b cells kept each)

-- ---- reading one word after another

pub read_more : {X : Type 0} → (cells out : List X) (at i : ℕ) (w : X) → at + length out ≤ length cells → i < length out → slice_get cells (at + i) ≡ Some w
    → take i out ≡ take i (drop at cells) → take (i + 1) (set out i w) ≡ take (i + 1) (drop at cells)
read_more cells out at i w within below got so_far =
    take_more_set out i w below
    ∙ ap₂ (λ xs x. xs ++ x ∷ []) so_far (sym (get_or_from_slice_get cells (at + i) w w got) ∙ sym (get_or-drop at cells i w))
    ∙ sym (take_more (drop at cells) i w (omega (arith, within, below, length-drop at cells)))

-- ---- one word more is written
pub written_more : {X : Type 0} → (at i : ℕ) (words list : List X) (d : X) → at + length words ≤ length list → i < length words
    → set (written at (take i words) list) (at + i) (get_or words i d) ≡ written at (take (i + 1) words) list
written_more at i words list d within below =
    let w = get_or words i d in
    let so_far = take at list ++ take i words in
    let counted : length (take i words) ≡ i = length-take-le i words (omega (arith, below)) in
    let long : length so_far ≡ at + i = omega (arith, counted, length-append (take at list) (take i words), length-take-le at list (omega (arith, within))) in
    let next : drop (at + length (take i words)) list ≡ get_or list (at + i) d ∷ drop (at + i + 1) list =
    ap (λ n. drop (at + n) list) counted ∙ drop_more list (at + i) d (omega (arith, within, below)) in
    ap (λ rest. set (so_far ++ rest) (at + i) w) next
    ∙ set_at so_far (get_or list (at + i) d) (drop (at + i + 1) list) w (at + i) long
    ∙ sym (append_assoc so_far (w ∷ []) (drop (at + i + 1) list))
    ∙ ap₂ (λ xs n. xs ++ drop n list)
    (append_assoc (take at list) (take i words) (w ∷ []) ∙ ap (λ xs. take at list ++ xs) (sym (take_more words i d below)))
    (omega (arith, counted, length-take-le (i + 1) words (omega (arith, below))))

-- ---- how many bytes

module _ (op : ℕ) (access : Access) where
  pub load_small : Some access ≡ load_of op → access.bytes ≤ 8
  load_small is = count_small access.wide access.bytes (load_row op access is).count

  -- some byte is loaded
  pub load_some : Some access ≡ load_of op → 0 < load_bytes op
  load_some is = rw (load_bytes-is op access is) (count_some access.wide access.bytes (load_row op access is).count)

  pub store_small : Some access ≡ store_of op → access.bytes ≤ 8
  store_small is = count_small access.wide access.bytes (store_row op access is).count
