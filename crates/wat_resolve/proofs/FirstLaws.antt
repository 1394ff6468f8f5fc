-- Words and where they stand first.
use Rattle.std.proofs.Common.{◌≡◌, ◌∙◌, ℕ, suc, Bool, true, false, cond, List, [], ◌∷◌, ◌++◌, length, Option, Some, None, refl, sym, ap, subst}
use Rattle.std.specs.Prelude.{if◌then◌else◌, option_map, bytes_eq, is_some}
use Rattle.std.specs.BTreeMap.{BTreeMap, get, Updates, IsEmpty}
use Rattle.std.proofs.lemmas.Map.Text.{is_eq-slice_cmp}
use Rattle.std.proofs.lemmas.Slice.Eq.{bytes_eq-Decides}
use Rattle.wat_resolve.specs.code.Firsts.{first_at, by_word, AreFirsts}

-- where it is found before, else at this place where it is here
abbrev later : Option ℕ → ℕ → Bool → Option ℕ
later (Some k) n b = Some k
later None n b = if b then Some n else None

later_suc : (p : Option ℕ) (n : ℕ) (b : Bool) → option_map suc (later p n b) ≡ later (option_map suc p) (suc n) b
later_suc (Some k) n b = refl
later_suc None n true = refl
later_suc None n false = refl

first_here : (b : Bool) (p : Option ℕ) (n : ℕ) (c : Bool) → (if b then Some 0 else option_map suc (later p n c)) ≡ later (if b then Some 0 else option_map suc p) (suc n) c
first_here true p n c = refl
first_here false p n c = later_suc p n c

first_word : (b : Bool) → (if b then Some 0 else option_map suc None) ≡ later None 0 b
first_word true = refl
first_word false = refl

first_snoc : (words : List (Option (List ℕ))) (w word : List ℕ) → first_at (words ++ Some w ∷ []) word ≡ later (first_at words word) (length words) (bytes_eq w word)
first_snoc [] w word = first_word (bytes_eq w word)
first_snoc (None ∷ rest) w word = ap (λ p. option_map suc p) (first_snoc rest w word) ∙ later_suc (first_at rest word) (length rest) (bytes_eq w word)
first_snoc (Some other ∷ rest) w word =
    ap (λ p. if bytes_eq other word then Some 0 else option_map suc p) (first_snoc rest w word)
    ∙ first_here (bytes_eq other word) (first_at rest word) (length rest) (bytes_eq w word)

pub first_none : (words : List (Option (List ℕ))) (word : List ℕ) → first_at (words ++ None ∷ []) word ≡ first_at words word
first_none [] word = refl
first_none (None ∷ rest) word = ap (λ p. option_map suc p) (first_none rest word)
first_none (Some other ∷ rest) word = ap (λ p. if bytes_eq other word then Some 0 else option_map suc p) (first_none rest word)

equal_words : (x y : List ℕ) → bytes_eq x y ≡ true → x ≡ y
equal_words x y e = (bytes_eq-Decides x y).0 e

-- ---- maps

module _ {K : Type 0} (read : K → List ℕ) (words : List (Option (List ℕ))) (old : BTreeMap K ℕ) (are : AreFirsts read words old) where
  -- nothing is put for what has no word
  pub none : AreFirsts read (words ++ None ∷ []) old
  none q = are q ∙ sym (first_none words (read q))

  -- nor for a word that is there
  pub again : (w : List ℕ) (p : ℕ) → first_at words w ≡ Some p → AreFirsts read (words ++ Some w ∷ []) old
  again w p there q = are q ∙ go (bytes_eq w (read q)) refl ∙ sym (first_snoc words w (read q))
    where
      go : (b : Bool) → bytes_eq w (read q) ≡ b → first_at words (read q) ≡ later (first_at words (read q)) (length words) (bytes_eq w (read q))
      go true e =
          let is : first_at words (read q) ≡ Some p = ap (λ v. first_at words v) (sym (equal_words w (read q) e)) ∙ there in
          is ∙ sym (ap (λ f. later f (length words) (bytes_eq w (read q))) is)
      go false e = stays (first_at words (read q)) ∙ ap (λ c. later (first_at words (read q)) (length words) c) (sym e)
        where
          stays : (f : Option ℕ) → f ≡ later f (length words) false
          stays None = refl
          stays (Some k) = refl

  pub put : (new : BTreeMap K ℕ) (key : K) → first_at words (read key) ≡ None → Updates (by_word read) old new key (Some (length words)) → AreFirsts read (words ++ Some (read key) ∷ []) new
  put new key absent updates q = updates.0 q ∙ ap (λ b. cond b (Some (length words)) (get (by_word read) old q)) (is_eq-slice_cmp (read key) (read q))
      ∙ ap (λ f. cond (bytes_eq (read key) (read q)) (Some (length words)) f) (are q) ∙ go (bytes_eq (read key) (read q)) refl ∙ sym (first_snoc words (read key) (read q))
    where
      go : (b : Bool) → bytes_eq (read key) (read q) ≡ b → cond (bytes_eq (read key) (read q)) (Some (length words)) (first_at words (read q)) ≡ later (first_at words (read q)) (length words) (bytes_eq (read key) (read q))
      go true e =
          let is : first_at words (read q) ≡ None = ap (λ v. first_at words v) (sym (equal_words (read key) (read q) e)) ∙ absent in
          rw (is, e) refl
      go false e = rw e (stays (first_at words (read q)))
        where
          stays : (f : Option ℕ) → f ≡ later f (length words) false
          stays None = refl
          stays (Some k) = refl

-- ---- by what a look-up says

some_of : (f : Option ℕ) → is_some f ≡ true → (p : ℕ) × (f ≡ Some p)
some_of None e = absurd cc
some_of (Some p) e = (p, refl)

none_of : (f : Option ℕ) → is_some f ≡ false → f ≡ None
none_of None e = refl
none_of (Some p) e = absurd cc

pub again_at : {K : Type 0} (read : K → List ℕ) (words : List (Option (List ℕ))) (old : BTreeMap K ℕ) (key : K) → AreFirsts read words old
    → is_some (get (by_word read) old key) ≡ true → AreFirsts read (words ++ Some (read key) ∷ []) old
again_at read words old key are e =
    let at = some_of (first_at words (read key)) (ap (λ f. is_some f) (sym (are key)) ∙ e) in
    again read words old are (read key) at.0 at.1

pub put_at : {K : Type 0} (read : K → List ℕ) (words : List (Option (List ℕ))) (old new : BTreeMap K ℕ) (key : K) (n : ℕ) → AreFirsts read words old
    → is_some (get (by_word read) old key) ≡ false → n ≡ length words → Updates (by_word read) old new key (Some n) → AreFirsts read (words ++ Some (read key) ∷ []) new
put_at read words old new key n are e is updates =
    put read words old are new key (none_of (first_at words (read key)) (ap (λ f. is_some f) (sym (are key)) ∙ e))
    (subst (λ k. Updates (by_word read) old new key (Some k)) is updates)

pub empty_finds : {K : Type 0} (read : K → List ℕ) (places : BTreeMap K ℕ) (key : K) → IsEmpty places → get (by_word read) places key ≡ None
empty_finds read places key empty = search empty
