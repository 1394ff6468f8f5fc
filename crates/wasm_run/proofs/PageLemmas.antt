-- Pages side by side.
use Rattle.std.proofs.Common.{◌≡◌, ℕ, zero, suc, ◌+◌, ◌*◌, ◌≤◌, ◌<◌, List, [], ◌∷◌, ◌++◌, length, take, drop, set, get_or, Some, slice_get, true, ◌/◌, ◌%◌, ◌-◌, replicate, subst, refl, sym, ap, ap₂, ◌∙◌, arith, length-append}
use Rattle.std.specs.List.{AllByRecursion, flat_map}
use Rattle.std.proofs.lemmas.List.{append_assoc, drop-drop, drop_all, take-take, length-take, length-take-le, length-drop, length-replicate, take-replicate, drop-replicate, replicate-append-replicate, append-nil}
use Rattle.std.proofs.lemmas.Grind.{flat_map-append}
use Rattle.wasm_run.proofs.ZeroLemmas.{zeros-are, zeros-length, page-with, held-block}
use Rattle.std.proofs.lemmas.Slice.{take-put_mid}
use borrow.Rule.Slice.PartMut.{put_mid, post_of}
use Rattle.wasm_reduction.specs.Combinators.{written, part}
use Rattle.wasm_reduction.specs.Memories.{page_bytes}
use Rattle.wasm_run.specs.code.Pages.{Page, fresh, page_of, AreWhole, AreHeld, Writes, cells_of, held_of}
use Rattle.wasm_run.proofs.WrittenLemmas.{written-left, written-right, written-past, written-before, part-left, part-right, part-past, part-before, part-more, take_piece}
use Rattle.wasm_machine.proofs.CellLemmas.{length-written}

module _ {P : Type 0} (f : P → List ℕ) (n : ℕ) where
  abbrev pub Whole : List P → Type 0
  Whole ps = AllByRecursion (λ p. length (f p) ≡ n) ps

  pub cells-length : (ps : List P) → Whole ps → length (flat_map f ps) ≡ n * length ps
  cells-length [] w = omega arith
  cells-length (p ∷ ps) w = omega (arith, length-append (f p) (flat_map f ps), w.0, cells-length ps w.1)

  pub whole-get : (ps : List P) (k : ℕ) (d : P) → Whole ps → k < length ps → length (f (get_or ps k d)) ≡ n
  whole-get [] k d w h = absurd (omega (arith, h))
  whole-get (p ∷ ps) zero d w h = w.0
  whole-get (p ∷ ps) (suc k) d w h = whole-get ps k d w.1 (omega (arith, h))

  pub whole-set : (ps : List P) (k : ℕ) (p : P) → Whole ps → length (f p) ≡ n → Whole (set ps k p)
  whole-set [] k p w h = tt
  whole-set (q ∷ ps) zero p w h = (h, w.1)
  whole-set (q ∷ ps) (suc k) p w h = (w.0, whole-set ps k p w.1 h)

  -- a page is written
  pub cells-set : (ps : List P) (k : ℕ) (d p : P) (at : ℕ) (xs : List ℕ) → Whole ps → k < length ps → f p ≡ written at xs (f (get_or ps k d)) → at + length xs ≤ n
      → flat_map f (set ps k p) ≡ written (n * k + at) xs (flat_map f ps)
  cells-set [] k d p at xs w h is within = absurd (omega (arith, h))
  cells-set (q ∷ ps) zero d p at xs w h is within =
      ap (λ b. b ++ flat_map f ps) is
      ∙ sym (written-left at xs (f q) (flat_map f ps) (omega (arith, within, w.0)))
      ∙ ap (λ m. written m xs (f q ++ flat_map f ps)) (omega arith)
  cells-set (q ∷ ps) (suc k) d p at xs w h is within =
      ap (λ l. f q ++ l) (cells-set ps k d p at xs w.1 (omega (arith, h)) is within)
      ∙ sym (written-right (n * k + at) xs (f q) (flat_map f ps))
      ∙ ap (λ m. written m xs (f q ++ flat_map f ps)) (ap (λ m. m + (n * k + at)) w.0 ∙ next)
    where
      next : n + (n * k + at) ≡ n * suc k + at
      next = omega arith

  -- a part of a page
  pub cells-part : (ps : List P) (k : ℕ) (d : P) (at m : ℕ) → Whole ps → k < length ps → at + m ≤ n
      → part (n * k + at) m (flat_map f ps) ≡ part at m (f (get_or ps k d))
  cells-part [] k d at m w h within = absurd (omega (arith, h))
  cells-part (q ∷ ps) zero d at m w h within =
      ap (λ j. part j m (f q ++ flat_map f ps)) (omega arith)
      ∙ part-left at m (f q) (flat_map f ps) (omega (arith, within, w.0))
  cells-part (q ∷ ps) (suc k) d at m w h within =
      ap (λ j. part j m (f q ++ flat_map f ps)) (next ∙ ap (λ j. j + (n * k + at)) (sym w.0))
      ∙ part-right (n * k + at) m (f q) (flat_map f ps)
      ∙ cells-part ps k d at m w.1 (omega (arith, h)) within
    where
      next : n * suc k + at ≡ n + (n * k + at)
      next = omega arith

  -- one byte of a page
  pub cells-get : (ps : List P) (k : ℕ) (d : P) (at : ℕ) → Whole ps → k < length ps → at < n → slice_get (flat_map f ps) (n * k + at) ≡ slice_get (f (get_or ps k d)) at
  cells-get [] k d at w h within = absurd (omega (arith, h))
  cells-get (q ∷ ps) zero d at w h within =
      ap (λ j. slice_get (f q ++ flat_map f ps) j) (omega arith) ∙ get-left (f q) (flat_map f ps) at (omega (arith, within, w.0))
    where
      get-left : (a c : List ℕ) (j : ℕ) → j < length a → slice_get (a ++ c) j ≡ slice_get a j
      get-left [] c j h = absurd (omega (arith, h))
      get-left (x ∷ a) c zero h = refl
      get-left (x ∷ a) c (suc j) h = get-left a c j (omega (arith, h))
  cells-get (q ∷ ps) (suc k) d at w h within =
      ap (λ j. slice_get (f q ++ flat_map f ps) j) (next ∙ ap (λ j. j + (n * k + at)) (sym w.0))
      ∙ get-right (f q) (flat_map f ps) (n * k + at)
      ∙ cells-get ps k d at w.1 (omega (arith, h)) within
    where
      next : n * suc k + at ≡ n + (n * k + at)
      next = omega arith

      get-right : (a c : List ℕ) (j : ℕ) → slice_get (a ++ c) (length a + j) ≡ slice_get c j
      get-right [] c j = let e : 0 + j ≡ j = omega arith in rw e refl
      get-right (x ∷ a) c j = let e : suc (length a) + j ≡ suc (length a + j) = omega arith in rw e (get-right a c j)

  -- a page of the same bytes
  pub cells-same : (ps : List P) (k : ℕ) (d p : P) → f p ≡ f (get_or ps k d) → flat_map f (set ps k p) ≡ flat_map f ps
  cells-same [] k d p is = refl
  cells-same (q ∷ ps) zero d p is = ap (λ b. b ++ flat_map f ps) is
  cells-same (q ∷ ps) (suc k) d p is = ap (λ l. f q ++ l) (cells-same ps k d p is)

-- ---- pages

abbrev bytes_in : Page → List ℕ
bytes_in p = p.bytes

-- how many bytes there are
pub cells_long : (ps : List Page) → AreWhole ps → length (cells_of ps) ≡ page_bytes * length ps
cells_long ps w = cells-length bytes_in page_bytes ps w

-- where a place is
module _ (at : ℕ) where
  pub place_is : page_bytes * (at / page_bytes) + at % page_bytes ≡ at
  place_is = omega arith

  pub place_within : at % page_bytes < page_bytes
  place_within = omega arith

  pub page_within : (count : ℕ) → at < page_bytes * count → at / page_bytes < count
  page_within count within = omega (arith, within)

-- the byte at a place
pub cell_at : (ps : List Page) (at : ℕ) (d : Page) (byte : ℕ) → AreWhole ps → at < page_bytes * length ps
    → slice_get (get_or ps (at / page_bytes) d).bytes (at % page_bytes) ≡ Some byte → slice_get (cells_of ps) at ≡ Some byte
cell_at ps at d byte w within is =
    ap (λ j. slice_get (cells_of ps) j) (sym (place_is at))
    ∙ cells-get bytes_in page_bytes ps (at / page_bytes) d (at % page_bytes) w (page_within at (length ps) within) (place_within at)
    ∙ is

-- ---- blocks

pub held-at : (ps : List Page) (k : ℕ) (d : Page) → slice_get (held_of ps) k ≡ Some true → (get_or ps k d).held ≡ true
held-at [] k d is = absurd cc
held-at (p ∷ ps) zero d is = cc
held-at (p ∷ ps) (suc k) d is = held-at ps k d is

pub held-set : (ps : List Page) (k : ℕ) (d p : Page) → p.held ≡ (get_or ps k d).held → held_of (set ps k p) ≡ held_of ps
held-set [] k d p is = refl
held-set (q ∷ ps) zero d p is = ap (λ b. b ∷ held_of ps) is
held-set (q ∷ ps) (suc k) d p is = ap (λ l. q.held ∷ l) (held-set ps k d p is)

-- a page of a range has a block
pub held-in : (ps : List Page) (at count place : ℕ) (d : Page) → AreHeld (held_of ps) at count → at ≤ place → place < at + count → (get_or ps (place / page_bytes) d).held ≡ true
held-in ps at count place d h from to =
    held-at ps (place / page_bytes) d (h.each (place / page_bytes) (omega (arith, from, to)) (omega (arith, from)) (omega (arith, to)))

-- ---- pages that are written

-- one piece more is written, in a page
pub page-written : (old now : List Page) (at done count : ℕ) (xs piece : List ℕ) (d page : Page)
    → AreWhole old → at + length xs ≤ page_bytes * length old → length now ≡ length old → done < length xs → done + count ≤ length xs
    → (at + done) % page_bytes + count ≤ page_bytes
    → piece ≡ take count (drop done xs)
    → page.bytes ≡ written ((at + done) % page_bytes) piece (get_or now ((at + done) / page_bytes) d).bytes
    → page.held ≡ (get_or now ((at + done) / page_bytes) d).held
    → Writes old at (take done xs) now → Writes old at (take (done + count) xs) (set now ((at + done) / page_bytes) page)
page-written old now at done count xs piece d page sound within long some more room cut bytes held so_far =
    let k = (at + done) / page_bytes in
    let start = (at + done) % page_bytes in
    let below : k < length now = page_within (at + done) (length now) (omega (arith, within, long, some)) in
    let pieces : length piece ≡ count = ap (λ l. length l) cut ∙ length-take-le count (drop done xs) (omega (arith, more, length-drop done xs)) in
    let fits : start + length piece ≤ page_bytes = omega (arith, room, pieces) in
    let counted : length (take done xs) ≡ done = length-take-le done xs (omega (arith, some)) in
    let before : length (get_or now k d).bytes ≡ page_bytes = whole-get bytes_in page_bytes now k d so_far.whole below in
    let all : length (cells_of old) ≡ page_bytes * length old = cells_long old sound in
    record {
      cells =
          cells-set bytes_in page_bytes now k d page start piece so_far.whole below bytes fits
          ∙ ap₂ (λ m l. written m piece l) (place_is (at + done) ∙ ap (λ m. at + m) (sym counted)) so_far.cells
          ∙ written-past at (take done xs) piece (cells_of old) (omega (arith, within, all, counted, pieces, more))
          ∙ ap (λ l. written at l (cells_of old)) (ap (λ l. take done xs ++ l) cut ∙ take_piece done count xs);
      whole = whole-set bytes_in page_bytes now k page so_far.whole (ap (λ l. length l) bytes ∙ length-written start piece (get_or now k d).bytes (omega (arith, fits, before)) ∙ before);
      held = held-set now k d page held ∙ so_far.held;
    }

-- the same, where all bytes are one
pub page-filled : (old now : List Page) (at count done piece byte : ℕ) (d page : Page)
    → AreWhole old → at + count ≤ page_bytes * length old → length now ≡ length old → done < count → done + piece ≤ count
    → (at + done) % page_bytes + piece ≤ page_bytes
    → page.bytes ≡ written ((at + done) % page_bytes) (replicate piece byte) (get_or now ((at + done) / page_bytes) d).bytes
    → page.held ≡ (get_or now ((at + done) / page_bytes) d).held
    → Writes old at (replicate done byte) now → Writes old at (replicate (done + piece) byte) (set now ((at + done) / page_bytes) page)
page-filled old now at count done piece byte d page sound within long some more room bytes held so_far =
    let xs = replicate count byte in
    let counted : length xs ≡ count = length-replicate count byte in
    subst (λ ys. Writes old at ys (set now ((at + done) / page_bytes) page)) (take-replicate (done + piece) count byte more)
    (page-written old now at done piece xs (replicate piece byte) d page sound (omega (arith, within, counted)) long (omega (arith, some, counted)) (omega (arith, more, counted)) room
    (sym (ap (λ l. take piece l) (drop-replicate done count byte) ∙ take-replicate piece (count - done) byte (omega (arith, more))))
    bytes held
    (subst (λ ys. Writes old at ys now) (sym (take-replicate done count byte (omega (arith, some)))) so_far))

-- ---- bytes that are read

pub cells_part : (ps : List Page) (at n : ℕ) (d : Page) → AreWhole ps → at < page_bytes * length ps → at % page_bytes + n ≤ page_bytes
    → part (at % page_bytes) n (get_or ps (at / page_bytes) d).bytes ≡ part at n (cells_of ps)
cells_part ps at n d w within room =
    sym (cells-part bytes_in page_bytes ps (at / page_bytes) d (at % page_bytes) n w (page_within at (length ps) within) room)
    ∙ ap (λ j. part j n (cells_of ps)) (place_is at)

module _ (out new : List ℕ) (done count : ℕ) (more : done + count ≤ length out) (counted : length new ≡ count) where
  pub put-long : length (put_mid done (done + count - done) out new) ≡ length out
  put-long =
      omega (
        arith,
        more,
        counted,
        length-append (take done out) (new ++ drop (done + count - done) (drop done out)),
        length-append new (drop (done + count - done) (drop done out)),
        length-take-le done out (omega (arith, more)),
        length-drop (done + count - done) (drop done out),
        length-drop done out,
      )

  pub read_on : (at : ℕ) (cells : List ℕ) → new ≡ part (at + done) count cells → take done out ≡ take done (drop at cells)
      → take (done + count) (put_mid done (done + count - done) out new) ≡ take (done + count) (drop at cells)
  read_on at cells is so_far =
      take-put_mid done (done + count - done) out new (done + count) (omega (arith, counted)) (omega (arith, more))
      ∙ ap₂ (λ a b. a ++ b) so_far is
      ∙ part-more at done count cells

-- what is read from a page
pub page-read : (ps : List Page) (at done count m : ℕ) (new : List ℕ) (d : Page) → AreWhole ps → at + done + count ≤ page_bytes * length ps → 0 < count
    → (at + done) % page_bytes + count ≤ page_bytes → m ≡ count
    → new ≡ part ((at + done) % page_bytes) m (get_or ps ((at + done) / page_bytes) d).bytes → new ≡ part (at + done) count (cells_of ps)
page-read ps at done count m new d w within some room same is =
    is ∙ ap (λ j. part ((at + done) % page_bytes) j (get_or ps ((at + done) / page_bytes) d).bytes) same
    ∙ cells_part ps (at + done) count d w (omega (arith, within, some)) room

pub mid-long : (i n : ℕ) (xs : List ℕ) → i + n ≤ length xs → length (take (i + n - i) (drop i xs)) ≡ n
mid-long i n xs h = length-take-le (i + n - i) (drop i xs) (omega (arith, h, length-drop i xs)) ∙ omega arith

pub cut_is : (i n : ℕ) (xs : List ℕ) → take (i + n - i) (drop i xs) ≡ take n (drop i xs)
cut_is i n xs = ap (λ m. take m (drop i xs)) (omega arith)

-- ---- pages that get blocks

-- the pages from `first` to k have blocks, and all bytes are as they were
pub record HeldSoFar (old : List Page) (first k : ℕ) (now : List Page) : Type 0 where
  pub same : cells_of now ≡ cells_of old
  pub whole : AreWhole now
  pub each : (j : ℕ) → first ≤ j → j < k → slice_get (held_of now) j ≡ Some true

pub page-held : (old : List Page) (first k : ℕ) (now : List Page) (d page : Page) → k < length now
    → page.bytes ≡ (get_or now k d).bytes → page.held ≡ true → HeldSoFar old first k now → HeldSoFar old first (k + 1) (set now k page)
page-held old first k now d page below same held so_far = record {
  same = cells-same bytes_in page_bytes now k d page same ∙ so_far.same;
  whole = whole-set bytes_in page_bytes now k page so_far.whole (ap (λ l. length l) same ∙ whole-get bytes_in page_bytes now k d so_far.whole below);
  each = λ j from to. held-next now k page j below held (λ h. so_far.each j from h) to;
}
  where
    held-next : (now : List Page) (k : ℕ) (page : Page) (j : ℕ) → k < length now → page.held ≡ true → (j < k → slice_get (held_of now) j ≡ Some true) → j < k + 1
        → slice_get (held_of (set now k page)) j ≡ Some true
    held-next [] k page j below held before to = absurd (omega (arith, below))
    held-next (p ∷ now) zero page zero below held before to = ap Some held
    held-next (p ∷ now) zero page (suc j) below held before to = absurd (omega (arith, to))
    held-next (p ∷ now) (suc k) page zero below held before to = before (omega arith)
    held-next (p ∷ now) (suc k) page (suc j) below held before to = held-next now k page j (omega (arith, below)) held (λ h. before (omega (arith, h))) (omega (arith, to))

-- a page that gets no block keeps its bytes
pub page-same : (old : List Page) (first k : ℕ) (now : List Page) (d page : Page) → k < length now
    → page.bytes ≡ (get_or now k d).bytes → HeldSoFar old first k now → (cells_of (set now k page) ≡ cells_of old) × AreWhole (set now k page)
page-same old first k now d page below same so_far = (
  cells-same bytes_in page_bytes now k d page same ∙ so_far.same,
  whole-set bytes_in page_bytes now k page so_far.whole (ap (λ l. length l) same ∙ whole-get bytes_in page_bytes now k d so_far.whole below),
)

-- ---- copies

-- one piece more is copied, from the front on
pub copied-up : (old mid now : List Page) (to from done piece : ℕ) (count : ℕ) → AreWhole old → from + count ≤ page_bytes * length old → to ≤ from → done + piece ≤ count
    → Writes old to (part from done (cells_of old)) mid → Writes mid (to + done) (part (from + done) piece (cells_of mid)) now
    → Writes old to (part from (done + piece) (cells_of old)) now
copied-up old mid now to from done piece count sound within low more so_far next =
    let o = cells_of old in
    let all : length o ≡ page_bytes * length old = cells_long old sound in
    let xs = part from done o in
    let counted : length xs ≡ done = length-take-le done (drop from o) (omega (arith, within, all, more, length-drop from o)) in
    let untouched : part (from + done) piece (cells_of mid) ≡ part (from + done) piece o =
    ap (λ l. part (from + done) piece l) so_far.cells ∙ part-past to xs o (from + done) piece (omega (arith, counted, low, within, all, more)) (omega (arith, counted, low)) in
    let pieces : length (part (from + done) piece o) ≡ piece = length-take-le piece (drop (from + done) o) (omega (arith, within, all, more, length-drop (from + done) o)) in
    record {
      cells =
          next.cells
          ∙ ap₂ (λ p l. written (to + done) p l) untouched so_far.cells
          ∙ ap (λ m. written (to + m) (part (from + done) piece o) (written to xs o)) (sym counted)
          ∙ written-past to xs (part (from + done) piece o) o (omega (arith, counted, pieces, low, within, all, more))
          ∙ ap (λ l. written to l o) (part-more from done piece o);
      whole = next.whole;
      held = next.held ∙ so_far.held;
    }

-- one piece more is copied, from the end on
pub copied-down : (old mid now : List Page) (to from left piece : ℕ) (count : ℕ) → AreWhole old → to + count ≤ page_bytes * length old → from ≤ to → left + piece ≤ count
    → Writes old (to + (left + piece)) (part (from + (left + piece)) (count - (left + piece)) (cells_of old)) mid → Writes mid (to + left) (part (from + left) piece (cells_of mid)) now
    → Writes old (to + left) (part (from + left) (count - left) (cells_of old)) now
copied-down old mid now to from left piece count sound within low more so_far next =
    let o = cells_of old in
    let all : length o ≡ page_bytes * length old = cells_long old sound in
    let done = count - (left + piece) in
    let ys = part (from + (left + piece)) done o in
    let xs = part (from + left) piece o in
    let counted : length ys ≡ done = length-take-le done (drop (from + (left + piece)) o) (omega (arith, within, all, more, low, length-drop (from + (left + piece)) o)) in
    let pieces : length xs ≡ piece = length-take-le piece (drop (from + left) o) (omega (arith, within, all, more, low, length-drop (from + left) o)) in
    let untouched : part (from + left) piece (cells_of mid) ≡ xs =
    ap (λ l. part (from + left) piece l) so_far.cells ∙ part-before (to + (left + piece)) ys o (from + left) piece (omega (arith, low, within, all, more)) (omega (arith, low)) in
    let there : to + (left + piece) ≡ to + left + length xs = omega (arith, pieces) in
    record {
      cells =
          next.cells
          ∙ ap₂ (λ p l. written (to + left) p l) untouched (so_far.cells ∙ ap (λ m. written m ys o) there)
          ∙ written-before (to + left) xs ys o (omega (arith, counted, pieces, low, within, all, more))
          ∙ ap (λ l. written (to + left) l o)
          (ap (λ m. xs ++ part m done o) (omega arith) ∙ part-more (from + left) piece done o ∙ ap (λ m. part (from + left) m o) (omega (arith, more)));
      whole = next.whole;
      held = next.held ∙ so_far.held;
    }

pub long-read : (ps : List Page) (at count : ℕ) (new : List ℕ) → AreWhole ps → at + count ≤ page_bytes * length ps → new ≡ part at count (cells_of ps) → length new ≡ count
long-read ps at count new w within is =
    ap (λ l. length l) is ∙ length-take-le count (drop at (cells_of ps)) (omega (arith, within, cells_long ps w, length-drop at (cells_of ps)))

-- ---- a whole memory

-- how long it is
pub memory-long : (ps : List Page) (cells : List ℕ) (n : ℕ) → AreWhole ps → cells_of ps ≡ cells → n ≡ length ps → n * page_bytes ≡ length cells
memory-long ps cells n w is counted = omega (arith, counted, cells_long ps w, ap (λ l. length l) is)

-- what lies within it lies in its pages
pub within-pages : (ps seen : List Page) (cells : List ℕ) (end : ℕ) → AreWhole ps → cells_of ps ≡ cells → seen ≡ ps → end ≤ length cells → end ≤ page_bytes * length seen
within-pages ps seen cells end w is same within = omega (arith, within, cells_long ps w, ap (λ l. length l) is, ap (λ l. length l) same)

-- the byte at a place of it
pub cell-read : (ps seen : List Page) (cells : List ℕ) (at : ℕ) (page : Page) (byte b : ℕ) → AreWhole ps → cells_of ps ≡ cells → seen ≡ ps → at < length cells
    → page ≡ get_or seen (at / page_bytes) page → slice_get page.bytes (at % page_bytes) ≡ Some byte → b ≡ byte → slice_get cells at ≡ Some b
cell-read ps seen cells at page byte b w is same within there got b_is =
    ap (λ l. slice_get l at) (sym is)
    ∙ cell_at ps at page byte w (omega (arith, within, cells_long ps w, ap (λ l. length l) is))
    (ap (λ p. slice_get p.bytes (at % page_bytes)) (sym (there ∙ ap (λ l. get_or l (at / page_bytes) page) same)) ∙ got)
    ∙ ap Some (sym b_is)

-- pages that are added
pub whole-added : (ps : List Page) (n : ℕ) → AreWhole ps → AreWhole (ps ++ replicate n fresh)
whole-added [] zero w = tt
whole-added [] (suc n) w = (zeros-length, whole-added [] n tt)
whole-added (p ∷ ps) n w = (w.0, whole-added ps n w.1)

-- the cells of pages that are added
cells-repeat : {P : Type 0} (f : P → List ℕ) (p : P) (m : ℕ) → f p ≡ replicate m 0 → (n : ℕ) → flat_map f (replicate n p) ≡ replicate (n * m) 0
cells-repeat f p m is zero = ap (λ k. replicate {A = ℕ} k 0) (let none : 0 ≡ 0 * m = omega arith in none)
cells-repeat f p m is (suc n) =
    ap₂ (λ a b. a ++ b) is (cells-repeat f p m is n)
    ∙ replicate-append-replicate m (n * m) 0
    ∙ ap (λ k. replicate {A = ℕ} k 0) (let next : m + n * m ≡ suc n * m = omega arith in next)

pub cells-added : (ps : List Page) (n : ℕ) → cells_of (ps ++ replicate n fresh) ≡ cells_of ps ++ replicate (n * page_bytes) 0
cells-added ps n = flat_map-append bytes_in ps (replicate n fresh) ∙ ap (λ l. cells_of ps ++ l) (cells-repeat bytes_in fresh page_bytes zeros-are n)

-- a page is written as a whole piece
pub page-stored : (old : List Page) (at : ℕ) (xs : List ℕ) (d page : Page) → AreWhole old → at < page_bytes * length old → at % page_bytes + length xs ≤ page_bytes
    → page.bytes ≡ written (at % page_bytes) xs (get_or old (at / page_bytes) d).bytes
    → (cells_of (set old (at / page_bytes) page) ≡ written at xs (cells_of old)) × AreWhole (set old (at / page_bytes) page)
page-stored old at xs d page w within room is =
    let k = at / page_bytes in
    let below : k < length old = page_within at (length old) within in
    let before : length (get_or old k d).bytes ≡ page_bytes = whole-get bytes_in page_bytes old k d w below in (
      cells-set bytes_in page_bytes old k d page (at % page_bytes) xs w below is room ∙ ap (λ m. written m xs (cells_of old)) (place_is at),
      whole-set bytes_in page_bytes old k page w (ap (λ l. length l) is ∙ length-written (at % page_bytes) xs (get_or old k d).bytes (omega (arith, room, before)) ∙ before),
    )

-- a block in which bytes were written
pub stored-page : (block seen new rest xs : List ℕ) (p : Page) (at n : ℕ) → page_of block ≡ p → p.held ≡ true → length (page_of block).bytes ≡ page_bytes → seen ≡ block → at + 8 ≤ page_bytes
    → length xs ≡ n → n ≤ 8 → new ≡ xs ++ drop n rest → rest ≡ drop at seen
    → (length (take at seen ++ (new ++ post_of at (length seen - at) seen)) ≡ length seen) × (page_of (take at seen ++ (new ++ post_of at (length seen - at) seen)) ≡ record { bytes = written at xs p.bytes; held = true })
stored-page block seen new rest xs p at n is held whole same room long few put front =
    let out = take at seen ++ (new ++ post_of at (length seen - at) seen) in
    let there : page_of block ≡ record { bytes = block; held = true } = page-with block (held-block block (ap (λ q. q.held) is ∙ held)) in
    let size : length seen ≡ page_bytes = ap (λ l. length l) (same ∙ ap (λ q. q.bytes) (sym there)) ∙ whole in
    let bytes : seen ≡ p.bytes = same ∙ ap (λ q. q.bytes) (sym there ∙ is) in
    let none : post_of at (length seen - at) seen ≡ [] = drop-drop (length seen - at) at seen ∙ drop_all (at + (length seen - at)) seen (omega arith) in
    let out_is : out ≡ written at xs seen =
    ap (λ r. take at seen ++ r) (ap₂ (λ a b. a ++ b) (put ∙ ap (λ r. xs ++ drop n r) front) none ∙ append-nil (xs ++ drop n (drop at seen)))
    ∙ sym (append_assoc (take at seen) xs (drop n (drop at seen)))
    ∙ ap (λ d. take at seen ++ xs ++ d) (drop-drop n at seen ∙ ap (λ k. drop k seen) (omega (arith, long))) in
    let counted : length out ≡ length seen = ap (λ l. length l) out_is ∙ length-written at xs seen (omega (arith, long, few, room, size)) in (
      counted,
      page-with out (omega (arith, counted, size)) ∙ ap (λ b. record { bytes = b; held = true }) (out_is ∙ ap (λ l. written at xs l) bytes),
    )

-- the first bytes of those that were read
pub read-front : (ps : List Page) (at m n : ℕ) (out : List ℕ) → n ≤ m → out ≡ part at m (cells_of ps) → take n out ≡ part at n (cells_of ps)
read-front ps at m n out few is = ap (λ l. take n l) is ∙ take-take n m (drop at (cells_of ps)) few

pub room_in : (n few : ℕ) (xs : List ℕ) → few ≤ n → few ≤ length xs → few ≤ length (take n xs)
room_in n few xs a b = omega (arith, length-take n xs, a, b)

-- so many bytes were read
pub long-enough : (ps : List Page) (at m n : ℕ) (out : List ℕ) → AreWhole ps → at + n ≤ page_bytes * length ps → n ≤ m → out ≡ part at m (cells_of ps) → n ≤ length out
long-enough ps at m n out w within few is =
    omega (arith, length-take n out, ap (λ l. length l) (read-front ps at m n out few is), length-take-le n (drop at (cells_of ps)) (omega (arith, within, cells_long ps w, length-drop at (cells_of ps))))
