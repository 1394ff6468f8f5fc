-- Lists that are written over others, and parts of them.
use Rattle.std.proofs.Common.{◌≡◌, ℕ, zero, suc, ◌+◌, ◌-◌, ◌≤◌, ◌<◌, List, [], ◌∷◌, ◌++◌, length, take, drop, set, get_or, replicate, refl, sym, ap, ap₂, ◌∙◌, arith, length-append}
use Rattle.std.proofs.lemmas.List.{append-nil, append_assoc, take-append-drop, take-append-le, drop-append-le, drop-drop, drop_at, take-take, drop-take, length-take-le, length-drop, drop_all, get_or-drop, take_all}
use Rattle.cow_pages.specs.Cells.{written, part}

module _ {X : Type 0} where
  pub take_after : (a c : List X) (n : ℕ) → take (length a + n) (a ++ c) ≡ a ++ take n c
  take_after [] c n = let e : 0 + n ≡ n = omega arith in rw e refl
  take_after (x ∷ a) c n = let e : suc (length a) + n ≡ suc (length a + n) = omega arith in rw e (ap (λ l. x ∷ l) (take_after a c n))

  pub drop_after : (a c : List X) (n : ℕ) → drop (length a + n) (a ++ c) ≡ drop n c
  drop_after a c n = sym (drop-drop n (length a) (a ++ c)) ∙ ap (λ l. drop n l) (drop_at a c (length a) refl)

  -- ---- written over one of two lists side by side

  pub written-left : (at : ℕ) (xs a c : List X) → at + length xs ≤ length a → written at xs (a ++ c) ≡ written at xs a ++ c
  written-left at xs a c within =
      ap₂ (λ t d. t ++ xs ++ d) (take-append-le at a c (omega (arith, within))) (drop-append-le (at + length xs) a c within)
      ∙ sym (append_assoc (take at a ++ xs) (drop (at + length xs) a) c)

  pub written-right : (at : ℕ) (xs a c : List X) → written (length a + at) xs (a ++ c) ≡ a ++ written at xs c
  written-right at xs a c =
      ap₂ (λ t d. t ++ xs ++ d) (take_after a c at) (ap (λ m. drop m (a ++ c)) (omega arith) ∙ drop_after a c (at + length xs))
      ∙ ap (λ t. t ++ drop (at + length xs) c) (append_assoc a (take at c) xs)
      ∙ append_assoc a (take at c ++ xs) (drop (at + length xs) c)

  pub part-left : (at n : ℕ) (a c : List X) → at + n ≤ length a → part at n (a ++ c) ≡ part at n a
  part-left at n a c within =
      ap (λ l. take n l) (drop-append-le at a c (omega (arith, within)))
      ∙ take-append-le n (drop at a) c (omega (arith, within, length-drop at a))

  pub part-right : (at n : ℕ) (a c : List X) → part (length a + at) n (a ++ c) ≡ part at n c
  part-right at n a c = ap (λ l. take n l) (drop_after a c at)

  -- ---- one piece after another

  -- written past what was written
  pub written-past : (at : ℕ) (xs ys l : List X) → at + length xs + length ys ≤ length l → written (at + length xs) ys (written at xs l) ≡ written at (xs ++ ys) l
  written-past at xs ys l within =
      let a = take at l in
      let r = drop (at + length xs) l in
      let long : length (a ++ xs) ≡ at + length xs = omega (arith, length-append a xs, length-take-le at l (omega (arith, within))) in
      let rest : drop (0 + length ys) r ≡ drop (at + length (xs ++ ys)) l = drop-drop (0 + length ys) (at + length xs) l ∙ ap (λ k. drop k l) (omega (arith, length-append xs ys)) in
      ap (λ k. written k ys (a ++ xs ++ r)) (omega (arith, long))
      ∙ written-right 0 ys (a ++ xs) r
      ∙ ap (λ d. a ++ xs ++ (ys ++ d)) rest
      ∙ sym (append_assoc (a ++ xs) ys (drop (at + length (xs ++ ys)) l))
      ∙ ap (λ t. t ++ drop (at + length (xs ++ ys)) l) (append_assoc a xs ys)

  -- written before what was written
  pub written-before : (at : ℕ) (xs ys l : List X) → at + length xs + length ys ≤ length l → written at xs (written (at + length xs) ys l) ≡ written at (xs ++ ys) l
  written-before at xs ys l within =
      let t = take (at + length xs) l in
      let d = drop (at + length xs + length ys) l in
      let long : length t ≡ at + length xs = length-take-le (at + length xs) l (omega (arith, within)) in
      let first : written at xs t ≡ take at l ++ xs =
      ap₂ (λ b e. b ++ xs ++ e) (take-take at (at + length xs) l (omega arith)) (drop_all (at + length xs) t (omega (arith, long)))
      ∙ append-nil (take at l ++ xs) in
      ap (λ w. written at xs w) (append_assoc t ys d)
      ∙ written-left at xs t (ys ++ d) (omega (arith, long))
      ∙ ap (λ w. w ++ (ys ++ d)) first
      ∙ sym (append_assoc (take at l ++ xs) ys d)
      ∙ ap (λ w. w ++ d) (append_assoc (take at l) xs ys)
      ∙ ap (λ k. take at l ++ (xs ++ ys) ++ drop k l) (omega (arith, length-append xs ys))

  pub take_piece : (m n : ℕ) (l : List X) → take m l ++ take n (drop m l) ≡ take (m + n) l
  take_piece m n l =
      ap₂ (λ a b. a ++ b) (sym (take-take m (m + n) l (omega arith))) (sym (drop-take m n l))
      ∙ take-append-drop m (take (m + n) l)

  pub part-more : (at m n : ℕ) (l : List X) → part at m l ++ part (at + m) n l ≡ part at (m + n) l
  part-more at m n l = ap (λ r. part at m l ++ take n r) (sym (drop-drop m at l)) ∙ take_piece m n (drop at l)

  pub written-nothing : (place : ℕ) (list : List X) → written place [] list ≡ list
  written-nothing place list = ap (λ xs. xs ++ drop (place + 0) list) (append-nil (take place list)) ∙ ap (λ n. take place list ++ drop n list) (omega arith) ∙ take-append-drop place list

  pub length-part : (place n : ℕ) (xs : List X) → place + n ≤ length xs → length (part place n xs) ≡ n
  length-part place n xs within = length-take-le n (drop place xs) (omega (arith, within, length-drop place xs))

  pub length-written : (place : ℕ) (xs list : List X) → place + length xs ≤ length list → length (written place xs list) ≡ length list
  length-written place xs list within =
      omega (
        arith,
        within,
        length-append (take place list ++ xs) (drop (place + length xs) list),
        length-append (take place list) xs,
        length-take-le place list (omega (arith, within)),
        length-drop (place + length xs) list,
      )

  -- a part of a part
  pub part-part : (from count done n : ℕ) (l : List X) → done + n ≤ count → part done n (part from count l) ≡ part (from + done) n l
  part-part from count done n l within =
      ap (λ c. take n (drop done (take c (drop from l)))) (omega (arith, within))
      ∙ ap (λ m. take n m) (drop-take done (count - done) (drop from l))
      ∙ take-take n (count - done) (drop done (drop from l)) (omega (arith, within))
      ∙ ap (λ m. take n m) (drop-drop done from l)

  -- a part that is all there is
  pub part-all : (n : ℕ) (l : List X) → length l ≡ n → part 0 n l ≡ l
  part-all n l is = take_all n l (omega (arith, is))

  -- the piece of a longer cut
  pub cut_is : (i n : ℕ) (xs : List X) → take (i + n - i) (drop i xs) ≡ take n (drop i xs)
  cut_is i n xs = ap (λ m. take m (drop i xs)) (omega arith)

  pub mid-long : (i n : ℕ) (xs : List X) → i + n ≤ length xs → length (take (i + n - i) (drop i xs)) ≡ n
  mid-long i n xs h = length-take-le (i + n - i) (drop i xs) (omega (arith, h, length-drop i xs)) ∙ omega arith

  -- ---- one more

  pub set-written : (l : List X) (k : ℕ) (x : X) → k < length l → set l k x ≡ written k (x ∷ []) l
  set-written [] k x within = absurd (omega (arith, within))
  set-written (y ∷ l) zero x within = refl
  set-written (y ∷ l) (suc k) x within = let next : suc k + 1 ≡ suc (k + 1) = omega arith in rw next (ap (λ m. y ∷ m) (set-written l k x (omega (arith, within))))

  -- one more is written past what was written
  pub set-past : (first : ℕ) (made old : List X) (x : X) → first + length made < length old
      → set (written first made old) (first + length made) x ≡ written first (made ++ x ∷ []) old
  set-past first made old x within =
      set-written (written first made old) (first + length made) x (omega (arith, within, length-written first made old (omega (arith, within))))
      ∙ written-past first made (x ∷ []) old (omega (arith, within))

  -- what lies past what was written is as it was
  pub get-past : (first : ℕ) (made old : List X) (d : X) → first + length made ≤ length old
      → get_or (written first made old) (first + length made) d ≡ get_or old (first + length made) d
  get-past first made old d within =
      let k = first + length made in
      let none : k ≡ k + 0 = omega arith in
      let long : length (take first old ++ made) ≡ k = omega (arith, length-append (take first old) made, length-take-le first old (omega (arith, within))) in
      ap (λ j. get_or (written first made old) j d) none
      ∙ sym (get_or-drop k (written first made old) 0 d)
      ∙ ap (λ l. get_or l 0 d) (drop_at (take first old ++ made) (drop k old) k long)
      ∙ get_or-drop k old 0 d
      ∙ ap (λ j. get_or old j d) (sym none)

  -- the first of two lists side by side
  pub take-at : (a c : List X) (n : ℕ) → length a ≡ n → take n (a ++ c) ≡ a
  take-at a c n long = take-append-le n a c (omega (arith, long)) ∙ take_all n a (omega (arith, long))
