-- The pages that have no block.
use Rattle.std.proofs.Common.{◌≡◌, ℕ, zero, suc, ◌+◌, ◌-◌, ◌≤◌, ◌<◌, Bool, true, false, List, [], ◌∷◌, ◌++◌, length, take, replicate, Some, slice_get, ◌⊎◌, ⊎_elim, ◌==◌, nat_lt, refl, sym, ap, ap₂, ◌∙◌, arith}
use Rattle.std.proofs.lemmas.List.{length-replicate, get_or-replicate, take-replicate, drop-replicate, replicate-append-replicate}
use Rattle.std.proofs.lemmas.Option.{slice_get-get_or}
use Rattle.std.proofs.lemmas.Bool.Decides.{nat_tests}
use Rattle.wasm_reduction.specs.Combinators.{written, part}
use Rattle.wasm_reduction.specs.Memories.{page_bytes}
use Rattle.wasm_run.specs.code.Pages.{zeros, fresh, page_of}

pub zeros-are : zeros ≡ replicate page_bytes 0
unfolding zeros
zeros-are = refl

pub zeros-length : length zeros ≡ page_bytes
zeros-length = ap (λ l. length l) zeros-are ∙ length-replicate {A = ℕ} page_bytes 0

-- zeros, as many as n
module _ (n : ℕ) where
  pub zero-get : (at : ℕ) → at < n → slice_get (replicate {A = ℕ} n 0) at ≡ Some 0
  zero-get at within = slice_get-get_or (replicate n 0) at 0 (omega (arith, within, length-replicate {A = ℕ} n 0)) ∙ ap Some (get_or-replicate n at 0 0 within)

  pub zero-part : (at m : ℕ) → at + m ≤ n → part at m (replicate {A = ℕ} n 0) ≡ replicate m 0
  zero-part at m within = ap (λ l. take m l) (drop-replicate at n 0) ∙ take-replicate m (n - at) 0 (omega (arith, within))

  pub zero-written : (at m : ℕ) → at + m ≤ n → written at (replicate m 0) (replicate {A = ℕ} n 0) ≡ replicate n 0
  zero-written at m within =
      ap₂ (λ t d. t ++ replicate m 0 ++ d)
      (take-replicate at n 0 (omega (arith, within)))
      (drop-replicate (at + length (replicate {A = ℕ} m 0)) n 0)
      ∙ ap (λ t. t ++ replicate (n - (at + length (replicate {A = ℕ} m 0))) 0) (replicate-append-replicate at m 0)
      ∙ replicate-append-replicate (at + m) (n - (at + length (replicate {A = ℕ} m 0))) 0
      ∙ ap (λ k. replicate {A = ℕ} k 0) (omega (arith, within, length-replicate {A = ℕ} m 0))

pub zeros-get : (at : ℕ) → at < page_bytes → slice_get zeros at ≡ Some 0
zeros-get at within = ap (λ l. slice_get l at) zeros-are ∙ zero-get page_bytes at within

pub zeros-part : (at m : ℕ) → at + m ≤ page_bytes → part at m zeros ≡ replicate m 0
zeros-part at m within = ap (λ l. part at m l) zeros-are ∙ zero-part page_bytes at m within

pub zeros-written : (at m : ℕ) → at + m ≤ page_bytes → written at (replicate m 0) zeros ≡ zeros
zeros-written at m within = ap (λ l. written at (replicate m 0) l) zeros-are ∙ zero-written page_bytes at m within ∙ sym zeros-are

-- ---- the page of a block

pub page-without : (block : List ℕ) → length block ≡ 0 → page_of block ≡ fresh
page-without [] e = refl
page-without (x ∷ xs) e = absurd (omega (arith, e))

pub page-with : (block : List ℕ) → 0 < length block → page_of block ≡ record { bytes = block; held = true }
page-with [] h = absurd (omega (arith, h))
page-with (x ∷ xs) h = refl

-- a page that has a block
pub held-block : (block : List ℕ) → (page_of block).held ≡ true → 0 < length block
held-block [] e = absurd cc
held-block (x ∷ xs) e = omega arith

-- past the block there are zeros
pub get-past : (block : List ℕ) (at : ℕ) → length (page_of block).bytes ≡ page_bytes → at < page_bytes → length block ≤ at → slice_get (page_of block).bytes at ≡ Some 0
get-past [] at whole within past = zeros-get at within
get-past (x ∷ xs) at whole within past = absurd (omega (arith, whole, within, past))

-- a block of zeros
pub held-fresh : (old new : List ℕ) → length old ≡ 0 → new ≡ replicate page_bytes 0 → (page_of new).bytes ≡ (page_of old).bytes
held-fresh old new none is =
    let e : new ≡ zeros = is ∙ sym zeros-are in
    ap (λ p. p.bytes) (page-with new (omega (arith, ap (λ l. length l) e, zeros-length))) ∙ e ∙ ap (λ p. p.bytes) (sym (page-without old none))

-- zeros over a page that was never written
pub fill-fresh : (at count byte : ℕ) → (fresh.held ≡ true) ⊎ (byte ≡ 0) → at + count ≤ page_bytes
    → fresh ≡ record { bytes = written at (replicate count byte) zeros; held = false }
fill-fresh at count byte plain within =
    let is : byte ≡ 0 = ⊎_elim (λ e. absurd cc) (λ e. e) plain in
    ap (λ b. record { bytes = b; held = false }) (sym (ap (λ b. written at (replicate count b) zeros) is ∙ zeros-written at count within))

-- ---- tests

pub zero_of : (n : ℕ) → (n == 0) ≡ true → n ≡ 0
zero_of n test = grind (arith, nat_tests)

pub past_of : (at n : ℕ) → false ≡ nat_lt at n → n ≤ at
past_of at n test = grind (arith, nat_tests)

-- that a block is seen to be empty
pub none_of : (seen block : List ℕ) (r : Bool) → seen ≡ block → r ≡ (length seen == 0) → r ≡ true → length block ≡ 0
none_of seen block r same is test = ap (λ l. length l) (sym same) ∙ zero_of (length seen) (sym is ∙ test)

-- a block that has grown from nothing
pub resized : (n len : ℕ) (old new : List ℕ) → length old ≡ 0 → len ≡ length old → new ≡ take n old ++ replicate (n - len) 0 → new ≡ replicate n 0
resized n len [] new none long is =
    is ∙ ap (λ l. l ++ replicate (n - len) 0) (take-nothing n) ∙ ap (λ k. replicate {A = ℕ} k 0) (omega (arith, none, long))
  where
    take-nothing : (n : ℕ) → take {A = ℕ} n [] ≡ []
    take-nothing zero = refl
    take-nothing (suc n) = refl
resized n len (x ∷ old) new none long is = absurd (omega (arith, none))
