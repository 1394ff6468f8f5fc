-- Cells of a memory as words.
use Rattle.std.proofs.Common.{◌≡◌, ℕ, zero, suc, ◌+◌, ◌*◌, ◌<◌, ◌≤◌, List, [], ◌∷◌, ◌++◌, length, map, take, get_or, refl, sym, ap, ◌∙◌, arith}
use Rattle.std.specs.Prelude.{slice_set, replicate}
use Rattle.std.proofs.lemmas.List.{map-append, length-map, length-take-le}
use Rattle.wasm_reduction.specs.Combinators.{written, part}
use Rattle.wasm_reduction.specs.Memories.{page_bytes}
use Rattle.wasm_machine.proofs.CellLemmas.{length-written, map-part, map-written, written-nothing, written_more}
use Rattle.bv_terms.specs.declared.words.Word.{Word}
use Rattle.sym_state.specs.Fields.{cell_word, words_of_cells}

pub map-replicate : {A B : Type 0} (f : A → B) (n : ℕ) (x : A) → map f (replicate n x) ≡ replicate n (f x)
map-replicate f zero x = refl
map-replicate f (suc n) x = ap (λ l. f x ∷ l) (map-replicate f n x)

map-set : {A B : Type 0} (f : A → B) (at : ℕ) (x : A) (xs : List A) → map f (slice_set xs at x) ≡ slice_set (map f xs) at (f x)
map-set f at x [] = refl
map-set f zero x (y ∷ xs) = refl
map-set f (suc at) x (y ∷ xs) = ap (λ l. f y ∷ l) (map-set f at x xs)

-- ---- what the calls of a list of cells make of its words

pub set-words : (at cell : ℕ) (w : Word) (old new : List ℕ) → new ≡ slice_set old at cell → cell_word cell ≡ w → words_of_cells new ≡ slice_set (words_of_cells old) at w
set-words at cell w old new is word = ap (map cell_word) is ∙ map-set cell_word at cell old ∙ ap (slice_set (words_of_cells old) at) word

pub grown-words : (cells pages : ℕ) (old new : List ℕ) → new ≡ old ++ replicate cells 0 → cells ≡ pages * page_bytes → words_of_cells new ≡ words_of_cells old ++ replicate (pages * page_bytes) (cell_word 0)
grown-words cells pages old new is count =
    ap (map cell_word) is ∙ map-append cell_word old (replicate cells 0) ∙ ap (λ l. words_of_cells old ++ l) (map-replicate cell_word cells 0 ∙ ap (λ n. replicate n (cell_word 0)) count)

pub filled-words : (at count cell : ℕ) (w : Word) (old new : List ℕ) → new ≡ written at (replicate count cell) old → cell_word cell ≡ w → words_of_cells new ≡ written at (replicate count w) (words_of_cells old)
filled-words at count cell w old new is word =
    ap (map cell_word) is ∙ map-written cell_word at (replicate count cell) old ∙ ap (λ l. written at l (words_of_cells old)) (map-replicate cell_word count cell ∙ ap (replicate count) word)

pub copied-words : (to from count : ℕ) (old new : List ℕ) → new ≡ written to (part from count old) old → words_of_cells new ≡ written to (part from count (words_of_cells old)) (words_of_cells old)
copied-words to from count old new is =
    ap (map cell_word) is ∙ map-written cell_word to (part from count old) old ∙ ap (λ l. written to l (words_of_cells old)) (map-part cell_word from count old)

-- ---- one word after another

-- so many words are written over the cells that were there
abbrev pub WordsSoFar : List ℕ → ℕ → List Word → ℕ → List ℕ → Type 0
WordsSoFar old at words i now = words_of_cells now ≡ written at (take i words) (words_of_cells old)

pub words-none : (old : List ℕ) (at : ℕ) (words : List Word) → WordsSoFar old at words 0 old
words-none old at words = sym (written-nothing at (words_of_cells old))

module _ (old : List ℕ) (at : ℕ) (words : List Word) (within : at + length words ≤ length old) where
  there : at + length words ≤ length (words_of_cells old)
  there = omega (arith, within, length-map old cell_word)

  pub words-long : (i : ℕ) (now : List ℕ) → i ≤ length words → WordsSoFar old at words i now → length now ≡ length old
  words-long i now below so_far =
      let long : length (words_of_cells now) ≡ length (words_of_cells old) =
      ap (λ l. length l) so_far ∙ length-written at (take i words) (words_of_cells old) (omega (arith, there, below, length-take-le i words below)) in
      omega (arith, long, length-map now cell_word, length-map old cell_word)

  pub words-more : (i cell : ℕ) (d : Word) (now new : List ℕ) → i < length words → WordsSoFar old at words i now → new ≡ slice_set now (at + i) cell → cell_word cell ≡ get_or words i d → WordsSoFar old at words (i + 1) new
  words-more i cell d now new below so_far is word =
      set-words (at + i) cell (get_or words i d) now new is word
      ∙ ap (λ l. slice_set l (at + i) (get_or words i d)) so_far
      ∙ written_more at i words (words_of_cells old) d there below

map-get_or : {A B : Type 0} (f : A → B) (xs : List A) (i : ℕ) (d : A) → f (get_or xs i d) ≡ get_or (map f xs) i (f d)
map-get_or f [] i d = refl
map-get_or f (x ∷ xs) zero d = refl
map-get_or f (x ∷ xs) (suc i) d = map-get_or f xs i d

pub bytes-more : (old : List ℕ) (at : ℕ) (bytes : List ℕ) → at + length bytes ≤ length old → (i d : ℕ) (now new : List ℕ) → i < length bytes → WordsSoFar old at (map cell_word bytes) i now → new ≡ slice_set now (at + i) (get_or bytes i d)
    → WordsSoFar old at (map cell_word bytes) (i + 1) new
bytes-more old at bytes within i d now new below so_far is =
    words-more old at (map cell_word bytes) (omega (arith, within, length-map bytes cell_word)) i (get_or bytes i d) (cell_word d) now new (omega (arith, below, length-map bytes cell_word)) so_far is
    (map-get_or cell_word bytes i d)

pub bytes-long : (old : List ℕ) (at : ℕ) (bytes : List ℕ) → at + length bytes ≤ length old → (i : ℕ) (now : List ℕ) → i ≤ length bytes → WordsSoFar old at (map cell_word bytes) i now → length now ≡ length old
bytes-long old at bytes within i now below so_far =
    words-long old at (map cell_word bytes) (omega (arith, within, length-map bytes cell_word)) i now (omega (arith, below, length-map bytes cell_word)) so_far
