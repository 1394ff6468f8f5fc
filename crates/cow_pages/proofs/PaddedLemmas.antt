-- Chunks whose last cells are past the end of the list, and zeros.
use Rattle.std.proofs.Common.{◌≡◌, ℕ, zero, suc, ◌+◌, ◌*◌, ◌≤◌, ◌<◌, List, [], ◌∷◌, ◌++◌, length, take, drop, Some, slice_get, ◌/◌, ◌%◌, ◌-◌, get_or, replicate, refl, sym, subst, ap, ap₂, ◌∙◌, arith, length-append}
use Rattle.std.specs.List.{AllByRecursion, flat_map}
use Rattle.std.proofs.lemmas.Grind.{flat_map-append}
use Rattle.std.proofs.lemmas.List.{append-nil, length-take-le, length-drop, length-replicate, take-replicate, drop-replicate, replicate-append-replicate, take-append-drop, append_assoc, drop_at, take-append-le, drop-drop, get_or-take}
use Rattle.std.proofs.lemmas.Option.{slice_get-get_or, get_or_from_slice_get}
use Rattle.cow_pages.specs.Cells.{written, part}
use Rattle.cow_pages.specs.code.Chunks.{chunk_cells, AreWhole, Writes, IsPadded, ZerosAdded, cells_of}
use Rattle.cow_pages.proofs.WrittenLemmas.{written-left, length-written, take_after, drop_after, part-left, take-at}
use Rattle.cow_pages.proofs.ChunkLemmas.{cells_long, cell_at}

-- ---- zeros

module _ (n : ℕ) (z : List ℕ) (is : z ≡ replicate n 0) where
  zeros-flat : (k : ℕ) → flat_map (λ c. c) (replicate k z) ≡ replicate (n * k) 0
  zeros-flat zero = ap (λ m. replicate {A = ℕ} m 0) (let none : 0 ≡ n * 0 = omega arith in none)
  zeros-flat (suc k) =
      ap₂ (λ a b. a ++ b) is (zeros-flat k)
      ∙ replicate-append-replicate n (n * k) 0
      ∙ ap (λ m. replicate {A = ℕ} m 0) (let next : n + n * k ≡ n * suc k = omega arith in next)

  zeros-whole : (cs : List (List ℕ)) (k : ℕ) → AllByRecursion (λ c. length c ≡ n) cs → AllByRecursion (λ c. length c ≡ n) (cs ++ replicate k z)
  zeros-whole [] zero w = tt
  zeros-whole [] (suc k) w = (ap (λ l. length l) is ∙ length-replicate {A = ℕ} n 0, zeros-whole [] k tt)
  zeros-whole (c ∷ cs) k w = (w.0, zeros-whole cs k w.1)

-- ---- the list

-- how long it is
pub list-long : (cs : List (List ℕ)) (n : ℕ) → IsPadded cs n → length (take n (cells_of cs)) ≡ n
list-long cs n p = length-take-le n (cells_of cs) (omega (arith, p.within, cells_long cs p.whole))

-- the cell at a place of it
pub list-get : (cs : List (List ℕ)) (n at : ℕ) (d : List ℕ) (cell : ℕ) → IsPadded cs n → at < n
    → slice_get (get_or cs (at / chunk_cells) d) (at % chunk_cells) ≡ Some cell → slice_get (take n (cells_of cs)) at ≡ Some cell
list-get cs n at d cell p below is =
    let there : slice_get (cells_of cs) at ≡ Some cell = cell_at cs at d cell p.whole (omega (arith, below, p.within)) is in
    slice_get-get_or (take n (cells_of cs)) at 0 (omega (arith, below, list-long cs n p))
    ∙ ap (λ x. Some x) (get_or-take n (cells_of cs) at 0 below ∙ get_or_from_slice_get (cells_of cs) at cell 0 there)

-- a list without cells
pub padded-none : IsPadded [] 0
padded-none = record {
  whole = tt;
  within = omega arith;
  padded = refl;
}

-- cells of it are written
module _ (old new : List (List ℕ)) (n at : ℕ) (xs : List ℕ) (p : IsPadded old n) (within : at + length xs ≤ n) (w : Writes old at xs new) where
  private-is : cells_of new ≡ written at xs (take n (cells_of old)) ++ drop n (cells_of old)
  private-is =
      w.cells
      ∙ ap (λ l. written at xs l) (sym (take-append-drop n (cells_of old)))
      ∙ written-left at xs (take n (cells_of old)) (drop n (cells_of old)) (omega (arith, within, list-long old n p))

  private-long : length (written at xs (take n (cells_of old))) ≡ n
  private-long = length-written at xs (take n (cells_of old)) (omega (arith, within, list-long old n p)) ∙ list-long old n p

  pub list-written : take n (cells_of new) ≡ written at xs (take n (cells_of old))
  list-written = ap (λ l. take n l) private-is ∙ take-at (written at xs (take n (cells_of old))) (drop n (cells_of old)) n private-long

  pub padded-written : length new ≡ length old → IsPadded new n
  padded-written long = record {
    whole = w.whole;
    within = omega (arith, long, p.within);
    padded = ap (λ l. drop n l) private-is ∙ drop_at (written at xs (take n (cells_of old))) (drop n (cells_of old)) n private-long ∙ p.padded ∙ ap (λ m. replicate {A = ℕ} (chunk_cells * m - n) 0) (sym long);
  }

-- zeros are added to it
module _ (old new : List (List ℕ)) (n m : ℕ) (p : IsPadded old n) (z : ZerosAdded old new) (within : n + m ≤ chunk_cells * length new) where
  grown-long : length new ≡ length old + z.more
  grown-long = ap (λ l. length l) z.added ∙ length-append old (replicate z.more (replicate chunk_cells 0)) ∙ ap (λ k. length old + k) (length-replicate z.more (replicate chunk_cells 0))

  grown-is : cells_of new ≡ take n (cells_of old) ++ replicate (chunk_cells * length new - n) 0
  grown-is =
      ap (λ l. cells_of l) z.added
      ∙ flat_map-append (λ c. c) old (replicate z.more (replicate chunk_cells 0))
      ∙ ap₂ (λ a b. a ++ b) (sym (take-append-drop n (cells_of old)) ∙ ap (λ l. take n (cells_of old) ++ l) p.padded) (zeros-flat chunk_cells (replicate chunk_cells 0) refl z.more)
      ∙ append_assoc (take n (cells_of old)) (replicate (chunk_cells * length old - n) 0) (replicate (chunk_cells * z.more) 0)
      ∙ ap (λ l. take n (cells_of old) ++ l)
      (replicate-append-replicate (chunk_cells * length old - n) (chunk_cells * z.more) 0 ∙ ap (λ k. replicate {A = ℕ} k 0) (omega (arith, grown-long, p.within)))

  pub list-grown : take (n + m) (cells_of new) ≡ take n (cells_of old) ++ replicate m 0
  list-grown =
      ap (λ l. take (n + m) l) grown-is
      ∙ ap (λ k. take (k + m) (take n (cells_of old) ++ replicate (chunk_cells * length new - n) 0)) (sym (list-long old n p))
      ∙ take_after (take n (cells_of old)) (replicate (chunk_cells * length new - n) 0) m
      ∙ ap (λ l. take n (cells_of old) ++ l) (take-replicate m (chunk_cells * length new - n) 0 (omega (arith, within)))

  pub padded-grown : IsPadded new (n + m)
  padded-grown = record {
    whole = rw z.added (zeros-whole chunk_cells (replicate chunk_cells 0) refl old z.more p.whole);
    within = within;
    padded =
        ap (λ l. drop (n + m) l) grown-is
        ∙ ap (λ k. drop (k + m) (take n (cells_of old) ++ replicate (chunk_cells * length new - n) 0)) (sym (list-long old n p))
        ∙ drop_after (take n (cells_of old)) (replicate (chunk_cells * length new - n) 0) m
        ∙ drop-replicate m (chunk_cells * length new - n) 0
        ∙ ap (λ k. replicate {A = ℕ} k 0) (omega (arith, within));
  }

-- zeros are added past the end of the list
module _ (old new : List (List ℕ)) (n : ℕ) (p : IsPadded old n) (z : ZerosAdded old new) where
  still-within : n + 0 ≤ chunk_cells * length new
  still-within =
      omega (arith, p.within, ap (λ l. length l) z.added, length-append old (replicate z.more (replicate chunk_cells 0)))

  pub grown-none : IsPadded new n
  grown-none = subst (λ k. IsPadded new k) (let none : n + 0 ≡ n = omega arith in none) (padded-grown old new n 0 p z still-within)

  pub list-same : take n (cells_of new) ≡ take n (cells_of old)
  list-same =
      ap (λ k. take k (cells_of new)) (let none : n ≡ n + 0 = omega arith in none)
      ∙ list-grown old new n 0 p z still-within
      ∙ append-nil (take n (cells_of old))

-- ---- a source that is written over the list

-- The chunks `seen` are those of the list, which are borrowed and come back as `new`.
module _ (chunks seen new : List (List ℕ)) (len n at : ℕ) (xs cells : List ℕ)
    (p : IsPadded chunks n) (view : take n (cells_of chunks) ≡ cells) (same : seen ≡ chunks) (counted : length seen ≡ len) (long : length new ≡ length seen)
    (within : at + length xs ≤ length cells) (w : Writes seen at xs new) where
  put-back : new ≡ take len (new ++ drop (length new) chunks)
  put-back = sym (take-at new (drop (length new) chunks) len (long ∙ counted))

  put-within : at + length xs ≤ n
  put-within = omega (arith, within, ap (λ l. length l) view, list-long chunks n p)

  put-writes : Writes chunks at xs new
  put-writes = subst (λ cs. Writes cs at xs new) same w

  pub put-padded : IsPadded (take len (new ++ drop (length new) chunks)) n
  put-padded = subst (λ cs. IsPadded cs n) put-back (padded-written chunks new n at xs p put-within put-writes (long ∙ ap (λ l. length l) same))

  pub put-list : take n (cells_of (take len (new ++ drop (length new) chunks))) ≡ written at xs cells
  put-list =
      ap (λ cs. take n (cells_of cs)) (sym put-back)
      ∙ list-written chunks new n at xs p put-within put-writes
      ∙ ap (λ l. written at xs l) view

-- a part of the list is a part of the cells of its chunks
pub list-part : (chunks seen : List (List ℕ)) (n from count : ℕ) (cells : List ℕ) → IsPadded chunks n → take n (cells_of chunks) ≡ cells → seen ≡ chunks
    → from + count ≤ length cells → part from count (cells_of seen) ≡ part from count cells
list-part chunks seen n from count cells p view same within =
    ap (λ cs. part from count (cells_of cs)) same
    ∙ ap (λ l. part from count l) (sym (take-append-drop n (cells_of chunks)))
    ∙ part-left from count (take n (cells_of chunks)) (drop n (cells_of chunks)) (omega (arith, within, ap (λ l. length l) view))
    ∙ ap (λ l. part from count l) view
