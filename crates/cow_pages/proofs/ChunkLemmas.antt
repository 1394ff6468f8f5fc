-- Chunks side by side.
use Rattle.std.proofs.Common.{◌≡◌, ℕ, zero, suc, ◌+◌, ◌*◌, ◌≤◌, ◌<◌, List, [], ◌∷◌, ◌++◌, length, take, drop, set, get_or, Some, slice_get, ◌/◌, ◌%◌, ◌-◌, replicate, subst, refl, sym, ap, ap₂, ◌∙◌, ◌⊎◌, ⊎_elim, arith, length-append}
use Rattle.std.specs.List.{AllByRecursion, flat_map}
use Rattle.std.proofs.lemmas.List.{take_all, drop_all, drop_at, append_assoc, take-append-drop, length-take-le, length-drop, length-replicate, take-replicate, drop-replicate}
use Rattle.std.proofs.lemmas.Slice.{take-put_mid}
use borrow.Rule.Slice.PartMut.{put_mid, post_of}
use Rattle.cow_pages.specs.Cells.{written, part}
use Rattle.cow_pages.specs.declared.ranges.Source.{Source}
use Rattle.cow_pages.specs.declared.ranges.Source.TheVariants.{Cell, Cells, Place}
use Rattle.cow_pages.specs.code.Chunks.{chunk_cells, AreWhole, FitsSource, Writes, cells_of, source_cells}
use Rattle.cow_pages.proofs.WrittenLemmas.{written-left, written-right, written-past, written-nothing, part-left, part-right, part-more, part-part, part-all, take_piece, length-part, length-written, set-past, get-past, set-written, written-before, take-at}

-- chunks of n cells each
module _ (n : ℕ) where
  abbrev Whole : List (List ℕ) → Type 0
  Whole cs = AllByRecursion (λ c. length c ≡ n) cs

  abbrev flat : List (List ℕ) → List ℕ
  flat cs = flat_map (λ c. c) cs

  pub cells-length : (cs : List (List ℕ)) → Whole cs → length (flat cs) ≡ n * length cs
  cells-length [] w = omega arith
  cells-length (c ∷ cs) w = omega (arith, length-append c (flat cs), w.0, cells-length cs w.1)

  pub whole-get : (cs : List (List ℕ)) (k : ℕ) (d : List ℕ) → Whole cs → k < length cs → length (get_or cs k d) ≡ n
  whole-get [] k d w h = absurd (omega (arith, h))
  whole-get (c ∷ cs) zero d w h = w.0
  whole-get (c ∷ cs) (suc k) d w h = whole-get cs k d w.1 (omega (arith, h))

  pub whole-set : (cs : List (List ℕ)) (k : ℕ) (c : List ℕ) → Whole cs → length c ≡ n → Whole (set cs k c)
  whole-set [] k c w h = tt
  whole-set (q ∷ cs) zero c w h = (h, w.1)
  whole-set (q ∷ cs) (suc k) c w h = (w.0, whole-set cs k c w.1 h)

  -- a chunk is written
  pub cells-set : (cs : List (List ℕ)) (k : ℕ) (d c : List ℕ) (at : ℕ) (xs : List ℕ) → Whole cs → k < length cs → c ≡ written at xs (get_or cs k d) → at + length xs ≤ n
      → flat (set cs k c) ≡ written (n * k + at) xs (flat cs)
  cells-set [] k d c at xs w h is within = absurd (omega (arith, h))
  cells-set (q ∷ cs) zero d c at xs w h is within =
      ap (λ b. b ++ flat cs) is
      ∙ sym (written-left at xs q (flat cs) (omega (arith, within, w.0)))
      ∙ ap (λ m. written m xs (q ++ flat cs)) (omega arith)
  cells-set (q ∷ cs) (suc k) d c at xs w h is within =
      ap (λ l. q ++ l) (cells-set cs k d c at xs w.1 (omega (arith, h)) is within)
      ∙ sym (written-right (n * k + at) xs q (flat cs))
      ∙ ap (λ m. written m xs (q ++ flat cs)) (ap (λ m. m + (n * k + at)) w.0 ∙ next)
    where
      next : n + (n * k + at) ≡ n * suc k + at
      next = omega arith

  -- a part of a chunk
  pub cells-part : (cs : List (List ℕ)) (k : ℕ) (d : List ℕ) (at m : ℕ) → Whole cs → k < length cs → at + m ≤ n
      → part (n * k + at) m (flat cs) ≡ part at m (get_or cs k d)
  cells-part [] k d at m w h within = absurd (omega (arith, h))
  cells-part (q ∷ cs) zero d at m w h within =
      ap (λ j. part j m (q ++ flat cs)) (omega arith)
      ∙ part-left at m q (flat cs) (omega (arith, within, w.0))
  cells-part (q ∷ cs) (suc k) d at m w h within =
      ap (λ j. part j m (q ++ flat cs)) (next ∙ ap (λ j. j + (n * k + at)) (sym w.0))
      ∙ part-right (n * k + at) m q (flat cs)
      ∙ cells-part cs k d at m w.1 (omega (arith, h)) within
    where
      next : n * suc k + at ≡ n + (n * k + at)
      next = omega arith

  -- one cell of a chunk
  pub cells-get : (cs : List (List ℕ)) (k : ℕ) (d : List ℕ) (at : ℕ) → Whole cs → k < length cs → at < n → slice_get (flat cs) (n * k + at) ≡ slice_get (get_or cs k d) at
  cells-get [] k d at w h within = absurd (omega (arith, h))
  cells-get (q ∷ cs) zero d at w h within =
      ap (λ j. slice_get (q ++ flat cs) j) (omega arith) ∙ get-left q (flat cs) at (omega (arith, within, w.0))
    where
      get-left : (a c : List ℕ) (j : ℕ) → j < length a → slice_get (a ++ c) j ≡ slice_get a j
      get-left [] c j h = absurd (omega (arith, h))
      get-left (x ∷ a) c zero h = refl
      get-left (x ∷ a) c (suc j) h = get-left a c j (omega (arith, h))
  cells-get (q ∷ cs) (suc k) d at w h within =
      ap (λ j. slice_get (q ++ flat cs) j) (next ∙ ap (λ j. j + (n * k + at)) (sym w.0))
      ∙ get-right q (flat cs) (n * k + at)
      ∙ cells-get cs k d at w.1 (omega (arith, h)) within
    where
      next : n * suc k + at ≡ n + (n * k + at)
      next = omega arith

      get-right : (a c : List ℕ) (j : ℕ) → slice_get (a ++ c) (length a + j) ≡ slice_get c j
      get-right [] c j = let e : 0 + j ≡ j = omega arith in rw e refl
      get-right (x ∷ a) c j = let e : suc (length a) + j ≡ suc (length a + j) = omega arith in rw e (get-right a c j)

-- how many cells there are
pub cells_long : (cs : List (List ℕ)) → AreWhole cs → length (cells_of cs) ≡ chunk_cells * length cs
cells_long cs w = cells-length chunk_cells cs w

-- where a place is
module _ (at : ℕ) where
  pub place_is : chunk_cells * (at / chunk_cells) + at % chunk_cells ≡ at
  place_is = omega arith

  pub place_within : at % chunk_cells < chunk_cells
  place_within = omega arith

  pub chunk_within : (count : ℕ) → at < chunk_cells * count → at / chunk_cells < count
  chunk_within count within = omega (arith, within)

-- the cell at a place
pub cell_at : (cs : List (List ℕ)) (at : ℕ) (d : List ℕ) (cell : ℕ) → AreWhole cs → at < chunk_cells * length cs
    → slice_get (get_or cs (at / chunk_cells) d) (at % chunk_cells) ≡ Some cell → slice_get (cells_of cs) at ≡ Some cell
cell_at cs at d cell w within is =
    ap (λ j. slice_get (cells_of cs) j) (sym (place_is at))
    ∙ cells-get chunk_cells cs (at / chunk_cells) d (at % chunk_cells) w (chunk_within at (length cs) within) (place_within at)
    ∙ is

-- a part in one chunk
pub cells_part : (cs : List (List ℕ)) (at n : ℕ) (d : List ℕ) → AreWhole cs → at < chunk_cells * length cs → at % chunk_cells + n ≤ chunk_cells
    → part (at % chunk_cells) n (get_or cs (at / chunk_cells) d) ≡ part at n (cells_of cs)
cells_part cs at n d w within room =
    sym (cells-part chunk_cells cs (at / chunk_cells) d (at % chunk_cells) n w (chunk_within at (length cs) within) room)
    ∙ ap (λ j. part j n (cells_of cs)) (place_is at)

-- one chunk is written
pub chunk_written : (cs : List (List ℕ)) (at : ℕ) (xs d c : List ℕ) → AreWhole cs → at < chunk_cells * length cs → at % chunk_cells + length xs ≤ chunk_cells
    → c ≡ written (at % chunk_cells) xs (get_or cs (at / chunk_cells) d) → Writes cs at xs (set cs (at / chunk_cells) c)
chunk_written cs at xs d c w within room is =
    let k = at / chunk_cells in
    let below : k < length cs = chunk_within at (length cs) within in
    let before : length (get_or cs k d) ≡ chunk_cells = whole-get chunk_cells cs k d w below in
    record {
      cells = cells-set chunk_cells cs k d c (at % chunk_cells) xs w below is room ∙ ap (λ m. written m xs (cells_of cs)) (place_is at);
      whole = whole-set chunk_cells cs k c w (ap (λ l. length l) is ∙ length-written (at % chunk_cells) xs (get_or cs k d) (omega (arith, room, before)) ∙ before);
    }

-- ---- chunks that are made aside

-- Where the cells that are done are written, these chunks have been made, and the next cell lies in the chunk past them.
pub record Made (old : List (List ℕ)) (at : ℕ) (xs : List ℕ) (done : ℕ) (made : List (List ℕ)) : Type 0 where
  pub writes : Writes old at (take done xs) (written (at / chunk_cells) made old)
  pub fits : at / chunk_cells + length made ≤ length old
  pub next : done < length xs → (at + done) / chunk_cells ≡ at / chunk_cells + length made

pub made-none : (old : List (List ℕ)) (at : ℕ) (xs : List ℕ) → AreWhole old → at + length xs ≤ chunk_cells * length old → Made old at xs 0 []
made-none old at xs w within = record {
  writes = record {
    cells = ap (λ cs. cells_of cs) none ∙ sym (written-nothing at (cells_of old));
    whole = subst (λ cs. AreWhole cs) (sym none) w;
  };
  fits = omega (arith, within);
  next = λ _. omega arith;
}
  where
    none : written (at / chunk_cells) [] old ≡ old
    none = written-nothing (at / chunk_cells) old

-- one chunk more is made
pub made-more : (old made : List (List ℕ)) (at done count : ℕ) (xs piece d c : List ℕ)
    → AreWhole old → at + length xs ≤ chunk_cells * length old → done < length xs → 0 < count
    → ((done + count ≡ length xs) × ((at + done) % chunk_cells + count ≤ chunk_cells)) ⊎ ((done + count ≤ length xs) × ((at + done) % chunk_cells + count ≡ chunk_cells))
    → piece ≡ take count (drop done xs)
    → c ≡ written ((at + done) % chunk_cells) piece (get_or old ((at + done) / chunk_cells) d)
    → Made old at xs done made → Made old at xs (done + count) (made ++ c ∷ [])
made-more old made at done count xs piece d c sound within some step ends cut is so_far =
    let first = at / chunk_cells in
    let k = (at + done) / chunk_cells in
    let start = (at + done) % chunk_cells in
    let now = written first made old in
    let here : k ≡ first + length made = so_far.next some in
    let more : done + count ≤ length xs = ⊎_elim (λ e. omega (arith, e.0)) (λ e. e.0) ends in
    let room : start + count ≤ chunk_cells = ⊎_elim (λ e. e.1) (λ e. omega (arith, e.1)) ends in
    let below : first + length made < length old = omega (arith, here, within, some) in
    let long : length now ≡ length old = length-written first made old (omega (arith, below)) in
    let there : get_or now k d ≡ get_or old k d = ap (λ j. get_or now j d) here ∙ get-past first made old d (omega (arith, below)) ∙ ap (λ j. get_or old j d) (sym here) in
    let set_is : set now k c ≡ written first (made ++ c ∷ []) old = ap (λ j. set now j c) here ∙ set-past first made old c below in
    let pieces : length piece ≡ count = ap (λ l. length l) cut ∙ length-take-le count (drop done xs) (omega (arith, more, length-drop done xs)) in
    let counted : length (take done xs) ≡ done = length-take-le done xs (omega (arith, some)) in
    let all : length (cells_of old) ≡ chunk_cells * length old = cells_long old sound in
    let one : Writes now (at + done) piece (set now k c) =
    chunk_written now (at + done) piece d c so_far.writes.whole (omega (arith, within, some, long)) (omega (arith, room, pieces)) (is ∙ ap (λ l. written start piece l) (sym there)) in
    record {
      writes = subst (λ cs. Writes old at (take (done + count) xs) cs) set_is (record {
        cells =
            one.cells
            ∙ ap₂ (λ m l. written m piece l) (ap (λ m. at + m) (sym counted)) so_far.writes.cells
            ∙ written-past at (take done xs) piece (cells_of old) (omega (arith, within, all, counted, pieces, more))
            ∙ ap (λ l. written at l (cells_of old)) (ap (λ l. take done xs ++ l) cut ∙ take_piece done count xs);
        whole = one.whole;
      });
      fits = omega (arith, below, length-append made (c ∷ []));
      next = λ less. ⊎_elim (λ e. absurd (omega (arith, e.0, less))) (λ e. omega (arith, e.1, here, length-append made (c ∷ []))) ends;
    }

-- all are made
pub made-all : (old made : List (List ℕ)) (at done : ℕ) (xs : List ℕ) → length xs ≤ done → Made old at xs done made → Writes old at xs (written (at / chunk_cells) made old)
made-all old made at done xs past so_far =
    subst (λ ys. Writes old at ys (written (at / chunk_cells) made old)) (take_all done xs past) so_far.writes

-- ---- chunks that take the places of others

-- the chunks past those that wait have their places
pub record Committed (old all : List (List ℕ)) (first : ℕ) (made now : List (List ℕ)) : Type 0 where
  pub front : take (length made) all ≡ made
  pub few : length made ≤ length all
  pub chunks : now ≡ written (first + length made) (drop (length made) all) old

pub committed-none : (old all : List (List ℕ)) (first : ℕ) → Committed old all first all old
committed-none old all first = record {
  front = take_all (length all) all (omega arith);
  few = omega arith;
  chunks = sym (ap (λ l. written (first + length all) l old) (drop_all (length all) all (omega arith)) ∙ written-nothing (first + length all) old);
}

pub committed-more : (old all made rest now : List (List ℕ)) (first : ℕ) (x : List ℕ) → first + length all ≤ length old → made ≡ rest ++ x ∷ []
    → Committed old all first made now → Committed old all first rest (set now (first + length rest) x)
committed-more old all made rest now first x within is so_far =
    let n = length rest in
    let ys = drop (length made) all in
    let one : length made ≡ n + 1 = ap (λ l. length l) is ∙ length-append rest (x ∷ []) in
    let whole : all ≡ rest ++ x ∷ ys = sym (take-append-drop (length made) all) ∙ ap (λ l. l ++ ys) (so_far.front ∙ is) ∙ append_assoc rest (x ∷ []) ys in
    let past : length (x ∷ ys) ≡ length all - n = omega (arith, length-append rest (x ∷ ys), ap (λ l. length l) whole) in
    let long : length now ≡ length old = ap (λ l. length l) so_far.chunks ∙ length-written (first + length made) ys old (omega (arith, within, past, one, so_far.few)) in
    record {
      front = ap (λ l. take n l) whole ∙ take-at rest (x ∷ ys) n refl;
      few = omega (arith, one, so_far.few);
      chunks =
          set-written now (first + n) x (omega (arith, long, within, one, so_far.few))
          ∙ ap (λ l. written (first + n) (x ∷ []) l) (so_far.chunks ∙ ap (λ k. written k ys old) (omega (arith, one)))
          ∙ written-before (first + n) (x ∷ []) ys old (omega (arith, within, past, one, so_far.few))
          ∙ ap (λ l. written (first + n) l old) (sym (ap (λ l. drop n l) whole ∙ drop_at rest (x ∷ ys) n refl));
    }

pub committed-all : (old all made now : List (List ℕ)) (first : ℕ) → length made ≡ 0 → Committed old all first made now → now ≡ written first all old
committed-all old all made now first none so_far = so_far.chunks ∙ ap₂ (λ k n. written k (drop n all) old) (omega (arith, none)) none

-- ---- sources

-- a source has as many cells as it says
pub source_long : (cs : List (List ℕ)) (count : ℕ) (s : Source) → AreWhole cs → FitsSource cs count s → length (source_cells cs count s) ≡ count
source_long cs count (Cell cell) w fits = length-replicate count cell
source_long cs count (Cells cells) w fits = fits
source_long cs count (Place from) w fits = length-part from count (cells_of cs) (omega (arith, fits.0, cells_long cs w))

-- a part of cells that are all one
pub part-replicate : (count done n cell : ℕ) → done + n ≤ count → replicate n cell ≡ part done n (replicate {A = ℕ} count cell)
part-replicate count done n cell within = sym (ap (λ l. take n l) (drop-replicate done count cell) ∙ take-replicate n (count - done) cell (omega (arith, within)))

-- ---- cells that are read

module _ (out new : List ℕ) (done count : ℕ) (more : done + count ≤ length out) (counted : length new ≡ count) where
  pub put-long : length (put_mid done (done + count - done) out new) ≡ length out
  put-long =
      omega (
        arith,
        more,
        counted,
        length-append (take done out) (new ++ drop (done + count - done) (drop done out)),
        length-append new (drop (done + count - done) (drop done out)),
        length-take-le done out (omega (arith, more)),
        length-drop (done + count - done) (drop done out),
        length-drop done out,
      )

  pub read_on : (at : ℕ) (cells : List ℕ) → new ≡ part (at + done) count cells → take done out ≡ take done (drop at cells)
      → take (done + count) (put_mid done (done + count - done) out new) ≡ take (done + count) (drop at cells)
  read_on at cells is so_far =
      take-put_mid done (done + count - done) out new (done + count) (omega (arith, counted)) (omega (arith, more))
      ∙ ap₂ (λ a b. a ++ b) so_far is
      ∙ part-more at done count cells

-- what is read from a chunk
pub chunk-read : (cs : List (List ℕ)) (at done count m : ℕ) (new d : List ℕ) → AreWhole cs → at + done + count ≤ chunk_cells * length cs → 0 < count
    → (at + done) % chunk_cells + count ≤ chunk_cells → m ≡ count
    → new ≡ part ((at + done) % chunk_cells) m (get_or cs ((at + done) / chunk_cells) d) → new ≡ part (at + done) count (cells_of cs)
chunk-read cs at done count m new d w within some room same is =
    is ∙ ap (λ j. part ((at + done) % chunk_cells) j (get_or cs ((at + done) / chunk_cells) d)) same
    ∙ cells_part cs (at + done) count d w (omega (arith, within, some)) room

pub long-read : (cs : List (List ℕ)) (at count : ℕ) (new : List ℕ) → AreWhole cs → at + count ≤ chunk_cells * length cs → new ≡ part at count (cells_of cs) → length new ≡ count
long-read cs at count new w within is = ap (λ l. length l) is ∙ length-part at count (cells_of cs) (omega (arith, within, cells_long cs w))
