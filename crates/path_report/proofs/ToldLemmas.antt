-- What is left of listeners after a row, one listener at a time.
use Rattle.std.proofs.Common.{◌≡◌, ℕ, zero, suc, ◌+◌, ◌-◌, ◌<◌, ◌≤◌, ◌^◌, Bool, true, false, List, [], ◌∷◌, ◌++◌, All, length, map, flat_map, take, drop, slice_get, slice_set, slice_index_or, take_all, Option, Some, refl, sym, ap, subst, ◌∙◌, arith, append_assoc, length-append}
use Rattle.std.proofs.lemmas.List.{take_more}
use Rattle.std.specs.Prelude.{not, ◌&&◌, if◌then◌else◌, remove, Result, Ok, Err, OnErr}
use Rattle.path_report.specs.declared.counts.Counts.{Counts}
use Rattle.fork_tree.specs.declared.rows.Kind.{Kind}
use Rattle.fork_tree.specs.declared.rows.Kind.TheVariants.{Returns, Traps, Fails, Bound, Deep, Cut, Undecided, Void}
use Rattle.path_report.specs.declared.listener.Wish.{Wish}
use Rattle.path_report.specs.declared.listener.Wish.TheVariants.{More, Enough}
use Rattle.fork_tree.specs.declared.rows.Row.{Row}
use Rattle.path_report.specs.Listeners.{Heard, counted, counts_after, stays, left_after, told, told_partly, AreSmall, HaveRoom, is_enough}

-- a listener after a row, where it stays
abbrev pub after_row : Row → Heard → Heard
after_row r h = record h { counts = counted h.counts r.kind }

-- one that stays
left-more : (r : Row) (h : Heard) → h.enough (counted h.counts r.kind) ≡ false → left_after (r ∷ []) h ≡ after_row r h ∷ []
left-more r h e = ap (λ b. if not b && true then after_row r h ∷ [] else []) e

-- one that leaves
left-enough : (r : Row) (h : Heard) → h.enough (counted h.counts r.kind) ≡ true → left_after (r ∷ []) h ≡ []
left-enough r h e = ap (λ b. if not b && true then after_row r h ∷ [] else []) e

flat_append : {X A : Type 0} (f : X → List A) (xs ys : List X) → flat_map f (xs ++ ys) ≡ flat_map f xs ++ flat_map f ys
flat_append f [] ys = refl
flat_append f (x ∷ xs) ys = ap (λ l. f x ++ l) (flat_append f xs ys) ∙ sym (append_assoc (f x) (flat_map f xs) (flat_map f ys))

-- told no row, all stay as they are
told-none : (hs : List Heard) → told [] hs ≡ hs
told-none [] = refl
told-none (h ∷ hs) = ap (λ l. h ∷ l) (told-none hs)

take-seam : {A : Type 0} (xs ys : List A) → take (length xs) (xs ++ ys) ≡ xs
take-seam [] ys = refl
take-seam (x ∷ xs) ys = ap (λ l. x ∷ l) (take-seam xs ys)

drop-seam : {A : Type 0} (xs ys : List A) → drop (length xs) (xs ++ ys) ≡ ys
drop-seam [] ys = refl
drop-seam (x ∷ xs) ys = drop-seam xs ys

-- some were told the row, and the others not yet
pub record Telling (r : Row) (all now : List Heard) (turn i : ℕ) : Type 0 where
  pub done : List Heard
  pub rest : List Heard
  pub all_are : all ≡ done ++ rest
  pub turns : turn ≡ length done
  pub now_are : now ≡ told (r ∷ []) done ++ rest
  pub place : i ≡ length (told (r ∷ []) done)
  pub small : All (λ h. AreSmall h.counts) rest

pub telling-begins : (r : Row) (all : List Heard) → All (λ h. AreSmall h.counts) all → Telling r all all 0 0
telling-begins r all small = record { done = []; rest = all; all_are = refl; turns = refl; now_are = refl; place = refl; small = small }

-- in the midst, it is as far as a refusal leaves it
pub telling-stops : (r : Row) (all now : List Heard) (turn i : ℕ) → Telling r all now turn i → now ≡ told_partly [] r turn all
telling-stops r all now turn i t =
    let same : told [] all ≡ all = told-none all in
    let first : take turn all ≡ t.done = ap (λ l. take turn l) t.all_are ∙ ap (λ n. take n (t.done ++ t.rest)) t.turns ∙ take-seam t.done t.rest in
    let later : drop turn all ≡ t.rest = ap (λ l. drop turn l) t.all_are ∙ ap (λ n. drop n (t.done ++ t.rest)) t.turns ∙ drop-seam t.done t.rest in
    t.now_are ∙ ap (λ l. told (r ∷ []) l ++ t.rest) (sym first) ∙ ap (λ l. told (r ∷ []) (take turn all) ++ l) (sym later)
    ∙ ap (λ l. told (r ∷ []) (take turn l) ++ drop turn l) (sym same)

-- all were told
pub telling-ends : (r : Row) (all now : List Heard) (turn i : ℕ) → Telling r all now turn i → length all ≤ turn → now ≡ told (r ∷ []) all
telling-ends r all now turn i t le = by t.rest t.all_are t.now_are
  where
    by : (rest : List Heard) → all ≡ t.done ++ rest → now ≡ told (r ∷ []) t.done ++ rest → now ≡ told (r ∷ []) all
    by [] e f = f ∙ append_nil (told (r ∷ []) t.done) ∙ ap (λ l. told (r ∷ []) l) (sym (e ∙ append_nil t.done))
      where
        append_nil : {A : Type 0} (xs : List A) → xs ++ [] ≡ xs
        append_nil [] = refl
        append_nil (x ∷ xs) = ap (λ l. x ∷ l) (append_nil xs)
    by (h ∷ rest) e f = absurd (omega (arith, le, t.turns, ap length e, length-append t.done (h ∷ rest)))

same-heard : (a b : Heard) → a.counts ≡ b.counts → a.enough ≡ b.enough → a.ending ≡ b.ending → a ≡ b
same-heard a b p q r =
    ap (λ c. record a { counts = c }) p ∙ ap (λ e. record { counts = b.counts; enough = e; ending = a.ending }) q
    ∙ ap (λ t. record { counts = b.counts; enough = b.enough; ending = t }) r

pub on_err : {A E P : Type 0} (r : Result A E) → P → OnErr r P
on_err (Ok x) p = tt
on_err (Err e) p = p

-- what a wish says of the counts
wishes : (e : Counts → Bool) (c d : Counts) (wish named : Wish) → c ≡ d → is_enough wish ≡ e c → wish ≡ named → e d ≡ is_enough named
wishes e c d wish named same says is = ap e (sym same) ∙ sym says ∙ ap is_enough is

-- ---- values, each seen as a listener

module _ {X : Type 0} (H : X → Heard) where
  -- the value at a place is the first of what is left
  pub record At (items : List X) (before rest : List Heard) (i : ℕ) (x : X) : Type 0 where
    pub more : List Heard
    pub is : rest ≡ H x ∷ more
    pub set_is : (y : X) → map H (slice_set items i y) ≡ before ++ H y ∷ more
    pub removed_is : map H (remove items i) ≡ before ++ more

  pub at-place : (items : List X) (before rest : List Heard) (i : ℕ) (x : X) → map H items ≡ before ++ rest → i ≡ length before → slice_get items i ≡ Some x → At items before rest i x
  at-place items before rest i x e p get = by items before i e p get
    where
      by : (items : List X) (before : List Heard) (i : ℕ) → map H items ≡ before ++ rest → i ≡ length before → slice_get items i ≡ Some x → At items before rest i x
      by [] before i e p get = absurd cc
      by (y ∷ items) [] zero e p get =
          let same : y ≡ x = cc in
          record { more = map H items; is = sym e ∙ ap (λ z. H z ∷ map H items) same; set_is = λ z. refl; removed_is = refl }
      by (y ∷ items) [] (suc i) e p get = absurd (omega (arith, p))
      by (y ∷ items) (b ∷ before) zero e p get = absurd (omega (arith, p))
      by (y ∷ items) (b ∷ before) (suc i) e p get =
          let tail : map H items ≡ before ++ rest = cc in
          let head : H y ≡ b = cc in
          let on = by items before i tail (omega (arith, p)) get in
          record { more = on.more; is = on.is; set_is = λ z. ap (λ l. H y ∷ l) (on.set_is z) ∙ ap (λ h. h ∷ (before ++ H z ∷ on.more)) head; removed_is = ap (λ l. H y ∷ l) on.removed_is ∙ ap (λ h. h ∷ (before ++ on.more)) head }

  pub all-small : (items : List X) → All (λ x. AreSmall (H x).counts) items → All (λ h. AreSmall h.counts) (map H items)
  all-small items all = λ i d lt. by items all i d lt
    where
      by : (items : List X) → All (λ x. AreSmall (H x).counts) items → (i : ℕ) (d : Heard) → i < length (map H items) → AreSmall (slice_index_or (map H items) i d).counts
      by [] all i d lt = absurd (omega (arith, lt))
      by (x ∷ items) all zero d lt = all 0 x (omega arith)
      by (x ∷ items) all (suc i) d lt = by items (λ k e less. all (suc k) e (omega (arith, less))) i d (omega (arith, lt))

  -- the next one can be told
  pub telling-small : (r : Row) (all : List Heard) (items : List X) (turn i : ℕ) (x : X) → Telling r all (map H items) turn i → slice_get items i ≡ Some x → AreSmall (H x).counts
  telling-small r all items turn i x t get =
      let at = at-place items (told (r ∷ []) t.done) t.rest i x t.now_are t.place get in
      subst (λ l. All (λ h. AreSmall h.counts) l) at.is t.small 0 (H x) (omega arith)

  length-mapped : (xs : List X) → length (map H xs) ≡ length xs
  length-mapped [] = refl
  length-mapped (x ∷ xs) = ap (λ (n : ℕ). suc n) (length-mapped xs)

  -- there is a next one
  pub telling-more : (r : Row) (old items : List X) (turn i : ℕ) → Telling r (map H old) (map H items) turn i → turn < length old → i < length items
  telling-more r old items turn i t lt =
      omega (arith, lt, t.place, t.turns, ap length t.now_are, ap length t.all_are, length-append t.done t.rest, length-append (told (r ∷ []) t.done) t.rest, length-mapped items, length-mapped old)

  -- all were told
  pub telling-all : (r : Row) (old : List X) (now : List Heard) (turn i : ℕ) → Telling r (map H old) now turn i → length old ≤ turn → now ≡ told (r ∷ []) (map H old)
  telling-all r old now turn i t le = telling-ends r (map H old) now turn i t (omega (arith, le, length-mapped old))

  -- a refusal leaves it as it was
  pub telling-same : (r : Row) (all : List Heard) (items : List X) (turn i : ℕ) (x y : X) → Telling r all (map H items) turn i → slice_get items i ≡ Some x
      → (H y).counts ≡ (H x).counts → (H y).enough ≡ (H x).enough → (H y).ending ≡ (H x).ending → map H (slice_set items i y) ≡ told_partly [] r turn all
  telling-same r all items turn i x y t get p q e =
      let a = told (r ∷ []) t.done in
      let at = at-place items a t.rest i x t.now_are t.place get in
      at.set_is y ∙ ap (λ h. a ++ h ∷ at.more) (same-heard (H y) (H x) p q e) ∙ ap (λ l. a ++ l) (sym at.is) ∙ sym t.now_are ∙ telling-stops r all (map H items) turn i t

  told-more : (r : Row) (done : List Heard) (h : Heard) → told (r ∷ []) (done ++ h ∷ []) ≡ told (r ∷ []) done ++ left_after (r ∷ []) h
  told-more r done h = flat_append (left_after (r ∷ [])) done (h ∷ []) ∙ ap (λ l. told (r ∷ []) done ++ l) (append_nil (left_after (r ∷ []) h))
    where
      append_nil : {A : Type 0} (xs : List A) → xs ++ [] ≡ xs
      append_nil [] = refl
      append_nil (x ∷ xs) = ap (λ l. x ∷ l) (append_nil xs)

  small-rest : (h : Heard) (more : List Heard) → All (λ h. AreSmall h.counts) (h ∷ more) → All (λ h. AreSmall h.counts) more
  small-rest h more all = λ i d lt. all (suc i) d (omega (arith, lt))

  -- it stays
  pub telling-stays : (r : Row) (all : List Heard) (items : List X) (turn i : ℕ) (x y : X) → Telling r all (map H items) turn i → slice_get items i ≡ Some x
      → (H y).counts ≡ counted (H x).counts r.kind → (H y).enough ≡ (H x).enough → (H y).ending ≡ (H x).ending
      → (wish : Wish) → is_enough wish ≡ (H x).enough (H y).counts → wish ≡ More → Telling r all (map H (slice_set items i y)) (turn + 1) (i + 1)
  telling-stays r all items turn i x y t get p q e wish says named =
      let more = wishes (H x).enough (H y).counts (counted (H x).counts r.kind) wish More p says named in
      let is : H y ≡ after_row r (H x) = same-heard (H y) (after_row r (H x)) p q e in
      let a = told (r ∷ []) t.done in
      let at = at-place items a t.rest i x t.now_are t.place get in
      let now : told (r ∷ []) (t.done ++ H x ∷ []) ≡ a ++ after_row r (H x) ∷ [] = told-more r t.done (H x) ∙ ap (λ l. a ++ l) (left-more r (H x) more) in
      record {
        done = t.done ++ H x ∷ [];
        rest = at.more;
        all_are = t.all_are ∙ ap (λ l. t.done ++ l) at.is ∙ sym (append_assoc t.done (H x ∷ []) at.more);
        turns = omega (arith, t.turns, length-append t.done (H x ∷ []));
        now_are = at.set_is y ∙ ap (λ h. a ++ h ∷ at.more) is ∙ sym (append_assoc a (after_row r (H x) ∷ []) at.more) ∙ ap (λ l. l ++ at.more) (sym now);
        place = omega (arith, t.place, ap length now, length-append a (after_row r (H x) ∷ []));
        small = small-rest (H x) at.more (subst (λ l. All (λ h. AreSmall h.counts) l) at.is t.small);
      }

  remove-set : (items : List X) (i : ℕ) (y : X) → remove (slice_set items i y) i ≡ remove items i
  remove-set [] i y = refl
  remove-set (x ∷ items) zero y = refl
  remove-set (x ∷ items) (suc i) y = ap (λ l. x ∷ l) (remove-set items i y)

  -- it leaves
  pub telling-leaves : (r : Row) (all : List Heard) (items : List X) (turn i : ℕ) (x y : X) → Telling r all (map H items) turn i → slice_get items i ≡ Some x
      → (H y).counts ≡ counted (H x).counts r.kind → (wish : Wish) → is_enough wish ≡ (H x).enough (H y).counts → wish ≡ Enough
      → Telling r all (map H (remove (slice_set items i y) i)) (turn + 1) i
  telling-leaves r all items turn i x y t get p wish says named =
      let enough = wishes (H x).enough (H y).counts (counted (H x).counts r.kind) wish Enough p says named in
      let same : map H (remove (slice_set items i y) i) ≡ map H (remove items i) = ap (map H) (remove-set items i y) in
      let a = told (r ∷ []) t.done in
      let at = at-place items a t.rest i x t.now_are t.place get in
      let now : told (r ∷ []) (t.done ++ H x ∷ []) ≡ a ++ [] = told-more r t.done (H x) ∙ ap (λ l. a ++ l) (left-enough r (H x) enough) in
      record {
        done = t.done ++ H x ∷ [];
        rest = at.more;
        all_are = t.all_are ∙ ap (λ l. t.done ++ l) at.is ∙ sym (append_assoc t.done (H x ∷ []) at.more);
        turns = omega (arith, t.turns, length-append t.done (H x ∷ []));
        now_are = same ∙ at.removed_is ∙ ap (λ l. l ++ at.more) (sym (now ∙ nil a));
        place = omega (arith, t.place, ap length (now ∙ nil a));
        small = small-rest (H x) at.more (subst (λ l. All (λ h. AreSmall h.counts) l) at.is t.small);
      }
    where
      nil : {A : Type 0} (xs : List A) → xs ++ [] ≡ xs
      nil [] = refl
      nil (x ∷ xs) = ap (λ l. x ∷ l) (nil xs)

-- ---- row after row

counts-more : (rows : List Row) (c : Counts) (r : Row) → counts_after c (rows ++ r ∷ []) ≡ counted (counts_after c rows) r.kind
counts-more [] c r = refl
counts-more (s ∷ rows) c r = counts-more rows (counted c s.kind) r

stays-more : (rows : List Row) (e : Counts → Bool) (c : Counts) (r : Row) → stays e c (rows ++ r ∷ []) ≡ (stays e c rows && (not (e (counted (counts_after c rows) r.kind)) && true))
stays-more [] e c r = refl
stays-more (s ∷ rows) e c r = by (not (e (counted c s.kind))) _ _ _ (stays-more rows e (counted c s.kind) r)
  where
    by : (b x y z : Bool) → x ≡ (y && z) → (b && x) ≡ ((b && y) && z)
    by true x y z e = e
    by false x y z e = refl

left-more-rows : (rows : List Row) (h : Heard) (r : Row) → left_after (rows ++ r ∷ []) h ≡ told (r ∷ []) (left_after rows h)
left-more-rows rows h r =
    ap (λ b. if b then record h { counts = counts_after h.counts (rows ++ r ∷ []) } ∷ [] else []) (stays-more rows h.enough h.counts r)
    ∙ ap (λ c. if stays h.enough h.counts rows && (not (h.enough (counted (counts_after h.counts rows) r.kind)) && true) then record h { counts = c } ∷ [] else []) (counts-more rows h.counts r)
    ∙ by (stays h.enough h.counts rows)
  where
    later : Heard
    later = record h { counts = counts_after h.counts rows }

    nil : (xs : List Heard) → xs ≡ xs ++ []
    nil [] = refl
    nil (x ∷ xs) = ap (λ l. x ∷ l) (nil xs)

    by : (a : Bool) → (if a && (not (h.enough (counted (counts_after h.counts rows) r.kind)) && true) then record h { counts = counted (counts_after h.counts rows) r.kind } ∷ [] else []) ≡ told (r ∷ []) (if a then later ∷ [] else [])
    by true = nil (left_after (r ∷ []) later)
    by false = refl

told-rows : (rows : List Row) (hs : List Heard) (r : Row) → told (rows ++ r ∷ []) hs ≡ told (r ∷ []) (told rows hs)
told-rows rows [] r = refl
told-rows rows (h ∷ hs) r =
    ap (λ l. l ++ told (rows ++ r ∷ []) hs) (left-more-rows rows h r) ∙ ap (λ l. told (r ∷ []) (left_after rows h) ++ l) (told-rows rows hs r)
    ∙ sym (flat_append (left_after (r ∷ [])) (left_after rows h) (told rows hs))

record AtMostOneMore (c d : Counts) : Type 0 where
  returns : d.returns ≤ c.returns + 1
  traps : d.traps ≤ c.traps + 1
  fails : d.fails ≤ c.fails + 1
  bounds : d.bound ≤ c.bound + 1
  deep : d.deep ≤ c.deep + 1
  cut : d.cut ≤ c.cut + 1
  undecided : d.undecided ≤ c.undecided + 1
  void : d.void ≤ c.void + 1

one-more : (c : Counts) (k : Kind) → AtMostOneMore c (counted c k)
one-more c (Returns results) = record { returns = omega arith; traps = omega arith; fails = omega arith; bounds = omega arith; deep = omega arith; cut = omega arith; undecided = omega arith; void = omega arith }
one-more c (Traps cause) = record { returns = omega arith; traps = omega arith; fails = omega arith; bounds = omega arith; deep = omega arith; cut = omega arith; undecided = omega arith; void = omega arith }
one-more c Fails = record { returns = omega arith; traps = omega arith; fails = omega arith; bounds = omega arith; deep = omega arith; cut = omega arith; undecided = omega arith; void = omega arith }
one-more c Bound = record { returns = omega arith; traps = omega arith; fails = omega arith; bounds = omega arith; deep = omega arith; cut = omega arith; undecided = omega arith; void = omega arith }
one-more c Deep = record { returns = omega arith; traps = omega arith; fails = omega arith; bounds = omega arith; deep = omega arith; cut = omega arith; undecided = omega arith; void = omega arith }
one-more c Cut = record { returns = omega arith; traps = omega arith; fails = omega arith; bounds = omega arith; deep = omega arith; cut = omega arith; undecided = omega arith; void = omega arith }
one-more c Undecided = record { returns = omega arith; traps = omega arith; fails = omega arith; bounds = omega arith; deep = omega arith; cut = omega arith; undecided = omega arith; void = omega arith }
one-more c Void = record { returns = omega arith; traps = omega arith; fails = omega arith; bounds = omega arith; deep = omega arith; cut = omega arith; undecided = omega arith; void = omega arith }

-- one row more is counted where there was room for so many
room-less : (n : ℕ) (c : Counts) (k : Kind) → HaveRoom (suc n) c → HaveRoom n (counted c k)
room-less n c k h = record {
  returns = omega (arith, h.returns, more.returns);
  traps = omega (arith, h.traps, more.traps);
  fails = omega (arith, h.fails, more.fails);
  bounds = omega (arith, h.bounds, more.bounds);
  deep = omega (arith, h.deep, more.deep);
  cut = omega (arith, h.cut, more.cut);
  undecided = omega (arith, h.undecided, more.undecided);
  void = omega (arith, h.void, more.void);
}
  where
    more : AtMostOneMore c (counted c k)
    more = one-more c k

rooms-less : (n : ℕ) (hs : List Heard) (r : Row) → All (λ h. HaveRoom (suc n) h.counts) hs → All (λ h. HaveRoom n h.counts) (told (r ∷ []) hs)
rooms-less n [] r all = λ i d lt. absurd (omega (arith, lt))
rooms-less n (h ∷ hs) r all = by (not (h.enough (counted h.counts r.kind)) && true) (rooms-less n hs r (λ i d lt. all (suc i) d (omega (arith, lt))))
  where
    first : HaveRoom n (counted h.counts r.kind)
    first = room-less n h.counts r.kind (all 0 h (omega arith))

    cons : (x : Heard) (xs : List Heard) → HaveRoom n x.counts → All (λ h. HaveRoom n h.counts) xs → All (λ h. HaveRoom n h.counts) (x ∷ xs)
    cons x xs p q zero d lt = p
    cons x xs p q (suc i) d lt = q i d (omega (arith, lt))

    by : (b : Bool) → All (λ h. HaveRoom n h.counts) (told (r ∷ []) hs) → All (λ h. HaveRoom n h.counts) ((if b then after_row r h ∷ [] else []) ++ told (r ∷ []) hs)
    by true rest = cons (after_row r h) (told (r ∷ []) hs) first rest
    by false rest = rest

-- so many rows were told
pub record ToldSoFar (rows : List Row) (all now : List Heard) (k : ℕ) : Type 0 where
  pub now_are : now ≡ told (take k rows) all
  pub room : All (λ h. HaveRoom (length rows - k) h.counts) now

pub rows-begin : (rows : List Row) (all : List Heard) → All (λ h. HaveRoom (length rows) h.counts) all → ToldSoFar rows all all 0
rows-begin rows all room = record { now_are = sym (told-none all); room = (let same : length rows ≡ length rows - 0 = omega arith in subst (λ n. All (λ h. HaveRoom n h.counts) all) same room) }

pub rows-end : (rows : List Row) (all now : List Heard) (k : ℕ) → ToldSoFar rows all now k → length rows ≤ k → now ≡ told rows all
rows-end rows all now k t le = t.now_are ∙ ap (λ l. told l all) (take_all k rows le)

pub rows-stop : (rows : List Row) (all now after : List Heard) (k n : ℕ) (r : Row) → ToldSoFar rows all now k → after ≡ told_partly [] r n now → after ≡ told_partly (take k rows) r n all
rows-stop rows all now after k n r t e = e ∙ ap (λ l. told (r ∷ []) (take n l) ++ drop n l) (told-none now ∙ t.now_are)

pub rows-more : (rows : List Row) (all now after : List Heard) (k : ℕ) (r : Row) → ToldSoFar rows all now k → k < length rows → r ≡ slice_index_or rows k r → after ≡ told (r ∷ []) now → ToldSoFar rows all after (k + 1)
rows-more rows all now after k r t lt is e =
    let more : take (k + 1) rows ≡ take k rows ++ r ∷ [] = take_more rows k r lt ∙ ap (λ x. take k rows ++ x ∷ []) (sym is) in
    let left : length rows - k ≡ suc (length rows - (k + 1)) = omega (arith, lt) in
    record {
      now_are = e ∙ ap (told (r ∷ [])) t.now_are ∙ sym (told-rows (take k rows) all r) ∙ ap (λ l. told l all) (sym more);
      room = subst (λ l. All (λ h. HaveRoom (length rows - (k + 1)) h.counts) l) (sym e) (rooms-less (length rows - (k + 1)) now r (subst (λ n. All (λ h. HaveRoom n h.counts) now) left t.room));
    }

room-small : (n : ℕ) (c : Counts) → HaveRoom n c → AreSmall c
room-small n c h = record {
  returns = omega (arith, h.returns);
  traps = omega (arith, h.traps);
  fails = omega (arith, h.fails);
  bounds = omega (arith, h.bounds);
  deep = omega (arith, h.deep);
  cut = omega (arith, h.cut);
  undecided = omega (arith, h.undecided);
  void = omega (arith, h.void);
}

module _ {X : Type 0} (H : X → Heard) where
  pub mapped-room : (n : ℕ) (items : List X) → All (λ x. HaveRoom n (H x).counts) items → All (λ h. HaveRoom n h.counts) (map H items)
  mapped-room n [] all i d lt = absurd (omega (arith, lt))
  mapped-room n (x ∷ items) all zero d lt = all 0 x (omega arith)
  mapped-room n (x ∷ items) all (suc i) d lt = mapped-room n items (λ k e less. all (suc k) e (omega (arith, less))) i d (omega (arith, lt))

  pub items-small : (n : ℕ) (items : List X) → All (λ h. HaveRoom n h.counts) (map H items) → All (λ x. AreSmall (H x).counts) items
  items-small n [] all i d lt = absurd (omega (arith, lt))
  items-small n (x ∷ items) all zero d lt = room-small n (H x).counts (all 0 (H x) (omega arith))
  items-small n (x ∷ items) all (suc i) d lt = items-small n items (λ k e less. all (suc k) e (omega (arith, less))) i d (omega (arith, lt))
