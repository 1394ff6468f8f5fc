-- Lists that are written over others, and parts of them.
use Rattle.std.proofs.Common.{◌≡◌, ℕ, suc, ◌+◌, ◌-◌, ◌≤◌, List, [], ◌∷◌, ◌++◌, length, take, drop, refl, sym, ap, ap₂, ◌∙◌, arith, length-append}
use Rattle.std.proofs.lemmas.List.{append-nil, append_assoc, take-append-drop, take-append-le, drop-append-le, drop-drop, drop_at, take-take, drop-take, length-take-le, length-drop, drop_all}
use Rattle.wasm_reduction.specs.Combinators.{written, part}

module _ {X : Type 0} where
  pub take_after : (a c : List X) (n : ℕ) → take (length a + n) (a ++ c) ≡ a ++ take n c
  take_after [] c n = let e : 0 + n ≡ n = omega arith in rw e refl
  take_after (x ∷ a) c n = let e : suc (length a) + n ≡ suc (length a + n) = omega arith in rw e (ap (λ l. x ∷ l) (take_after a c n))

  pub drop_after : (a c : List X) (n : ℕ) → drop (length a + n) (a ++ c) ≡ drop n c
  drop_after a c n = sym (drop-drop n (length a) (a ++ c)) ∙ ap (λ l. drop n l) (drop_at a c (length a) refl)

  -- ---- written over one of two lists side by side

  pub written-left : (at : ℕ) (xs a c : List X) → at + length xs ≤ length a → written at xs (a ++ c) ≡ written at xs a ++ c
  written-left at xs a c within =
      ap₂ (λ t d. t ++ xs ++ d) (take-append-le at a c (omega (arith, within))) (drop-append-le (at + length xs) a c within)
      ∙ sym (append_assoc (take at a ++ xs) (drop (at + length xs) a) c)

  pub written-right : (at : ℕ) (xs a c : List X) → written (length a + at) xs (a ++ c) ≡ a ++ written at xs c
  written-right at xs a c =
      ap₂ (λ t d. t ++ xs ++ d) (take_after a c at) (ap (λ m. drop m (a ++ c)) (omega arith) ∙ drop_after a c (at + length xs))
      ∙ ap (λ t. t ++ drop (at + length xs) c) (append_assoc a (take at c) xs)
      ∙ append_assoc a (take at c ++ xs) (drop (at + length xs) c)

  pub part-left : (at n : ℕ) (a c : List X) → at + n ≤ length a → part at n (a ++ c) ≡ part at n a
  part-left at n a c within =
      ap (λ l. take n l) (drop-append-le at a c (omega (arith, within)))
      ∙ take-append-le n (drop at a) c (omega (arith, within, length-drop at a))

  pub part-right : (at n : ℕ) (a c : List X) → part (length a + at) n (a ++ c) ≡ part at n c
  part-right at n a c = ap (λ l. take n l) (drop_after a c at)

  -- ---- one piece after another

  -- written past what was written
  pub written-past : (at : ℕ) (xs ys l : List X) → at + length xs + length ys ≤ length l → written (at + length xs) ys (written at xs l) ≡ written at (xs ++ ys) l
  written-past at xs ys l within =
      let a = take at l in
      let r = drop (at + length xs) l in
      let long : length (a ++ xs) ≡ at + length xs = omega (arith, length-append a xs, length-take-le at l (omega (arith, within))) in
      let rest : drop (0 + length ys) r ≡ drop (at + length (xs ++ ys)) l = drop-drop (0 + length ys) (at + length xs) l ∙ ap (λ k. drop k l) (omega (arith, length-append xs ys)) in
      ap (λ k. written k ys (a ++ xs ++ r)) (omega (arith, long))
      ∙ written-right 0 ys (a ++ xs) r
      ∙ ap (λ d. a ++ xs ++ (ys ++ d)) rest
      ∙ sym (append_assoc (a ++ xs) ys (drop (at + length (xs ++ ys)) l))
      ∙ ap (λ t. t ++ drop (at + length (xs ++ ys)) l) (append_assoc a xs ys)

  -- written before what was written
  pub written-before : (at : ℕ) (xs ys l : List X) → at + length xs + length ys ≤ length l → written at xs (written (at + length xs) ys l) ≡ written at (xs ++ ys) l
  written-before at xs ys l within =
      let t = take (at + length xs) l in
      let d = drop (at + length xs + length ys) l in
      let long : length t ≡ at + length xs = length-take-le (at + length xs) l (omega (arith, within)) in
      let first : written at xs t ≡ take at l ++ xs =
      ap₂ (λ b e. b ++ xs ++ e) (take-take at (at + length xs) l (omega arith)) (drop_all (at + length xs) t (omega (arith, long)))
      ∙ append-nil (take at l ++ xs) in
      ap (λ w. written at xs w) (append_assoc t ys d)
      ∙ written-left at xs t (ys ++ d) (omega (arith, long))
      ∙ ap (λ w. w ++ (ys ++ d)) first
      ∙ sym (append_assoc (take at l ++ xs) ys d)
      ∙ ap (λ w. w ++ d) (append_assoc (take at l) xs ys)
      ∙ ap (λ k. take at l ++ (xs ++ ys) ++ drop k l) (omega (arith, length-append xs ys))

  -- ---- parts beside what was written

  pub part-past : (at : ℕ) (xs l : List X) (from n : ℕ) → at + length xs ≤ length l → at + length xs ≤ from → part from n (written at xs l) ≡ part from n l
  part-past at xs l from n within past =
      let a = take at l in
      let r = drop (at + length xs) l in
      let k = from - (at + length xs) in
      let long : length (a ++ xs) ≡ at + length xs = omega (arith, length-append a xs, length-take-le at l (omega (arith, within))) in
      ap (λ m. part m n (a ++ xs ++ r)) (omega (arith, long, past))
      ∙ part-right k n (a ++ xs) r
      ∙ ap (λ l. take n l) (drop-drop k (at + length xs) l ∙ ap (λ m. drop m l) (omega (arith, past)))

  pub part-before : (at : ℕ) (xs l : List X) (from n : ℕ) → at ≤ length l → from + n ≤ at → part from n (written at xs l) ≡ part from n l
  part-before at xs l from n within before =
      let a = take at l in
      let long : length a ≡ at = length-take-le at l within in
      ap (λ w. part from n w) (append_assoc a xs (drop (at + length xs) l))
      ∙ part-left from n a (xs ++ drop (at + length xs) l) (omega (arith, long, before))
      ∙ sym (part-left from n a (drop at l) (omega (arith, long, before)))
      ∙ ap (λ w. part from n w) (take-append-drop at l)

  pub take_piece : (m n : ℕ) (l : List X) → take m l ++ take n (drop m l) ≡ take (m + n) l
  take_piece m n l =
      ap₂ (λ a b. a ++ b) (sym (take-take m (m + n) l (omega arith))) (sym (drop-take m n l))
      ∙ take-append-drop m (take (m + n) l)

  pub part-more : (at m n : ℕ) (l : List X) → part at m l ++ part (at + m) n l ≡ part at (m + n) l
  part-more at m n l = ap (λ r. part at m l ++ take n r) (sym (drop-drop m at l)) ∙ take_piece m n (drop at l)
