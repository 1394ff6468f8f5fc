-- Laws of segments, and of the module's store.
use Rattle.std.proofs.Common.{◌≡◌, ℕ, zero, suc, ◌+◌, ◌-◌, ◌<◌, ◌≤◌, List, [], ◌∷◌, ◌++◌, take, drop, length, map, refl, sym, ap, ◌∙◌, subst, arith}
use Rattle.std.specs.Prelude.{Bool, true, false, nat_lt, if◌then◌else◌, slice_index_or, replicate, Option, Some, None, slice_get, slice_set, Ok, Err}
use Rattle.wasm_ast.specs.declared.types.Limits.{Limits}
use Rattle.wasm_ast.specs.declared.instructions.Expr.{Expr}
use Rattle.wasm_ast.specs.declared.modules.Mode.TheVariants.{Declared, Active}
use Rattle.wasm_ast.specs.declared.modules.Elem.{Elem}
use Rattle.wasm_ast.specs.declared.modules.Segment.{Segment}
use Rattle.wasm_ast.specs.declared.modules.Module.{Module}
use Rattle.wasm_ast.specs.declared.runs.Cause.TheVariants.{Memory as MemoryCause, Table as TableCause}
use Rattle.wasm_rules.specs.Words.{Kind, Kept}
use Rattle.wasm_image.specs.Sizes.{AreAtMost, most_pages}
use Rattle.wasm_reduction.specs.Combinators.{written}
use Rattle.wasm_reduction.specs.Configurations.{Reference, Store, End, Traps, Stuck}
use Rattle.wasm_reduction.specs.Images.{value_image, values_image}
use Rattle.wasm_reduction.specs.Instantiation.{argument, Instantiated, offset_in, with_part, in_range, drop_elem, drop_data, first_memory, allocated, after, start_elem, start_elems, start_data, start_datas, instantiated}
use Rattle.wasm_machine.specs.declared.values.Reference.{Reference as CodeReference}
use Rattle.wasm_ast.specs.declared.runs.Value.{Value as Argument}
use Rattle.wasm_machine.specs.declared.values.Value.{Value as CodeValue}
use Rattle.wasm_machine.specs.Configurations.{datas_of}
use Rattle.wasm_start.specs.code.Starts.{PlainStore, store_with, AreByteValues, FromBytes}
use Rattle.wasm_machine.specs.Values.{reference, value, ValueHeld, ValuesHeld}
use Rattle.wasm_machine.proofs.Lists.{all-append, all-take, all-drop}
use Rattle.wasm_start.proofs.StartLemmas.{datas_dropped, ElemsSoFar, next_elem, DatasSoFar, next_data, WordsSoFar, values_kept, get_map, set_map, written_map, long_map, append_map, PagesSoFar, pages_more}

-- ---- one segment

abbrev elem_at : Store ℕ → ℕ → ℕ → Option ℕ → Option (List Reference) → Option (List Reference) → Instantiated
elem_at s k x o t e =
    with_part o (λ place. with_part t (λ elements. with_part e (λ references.
    in_range (place + length references) (length elements) TableCause
    (Ok (drop_elem k (record s { tables = slice_set s.tables x (written place references elements) }))))))

module _ (m : Module) (b : List ℕ) (p : PlainStore) (k x place : ℕ) (offset : Expr) (references table : List CodeReference)
    (at : offset_in (map argument p.globals) offset ≡ Some place) (there : slice_get p.tables x ≡ Some table) (held : slice_get p.elems k ≡ Some references) where
  elem_reaches : start_elem k (Active x offset) (store_with m b p) ≡
      in_range (place + length (map reference references)) (length (map reference table)) TableCause
      (Ok (drop_elem k (record (store_with m b p) { tables = slice_set (map (λ t. map reference t) p.tables) x (written place (map reference references) (map reference table)) })))
  elem_reaches =
      ap (λ o. elem_at (store_with m b p) k x o (slice_get (map (λ t. map reference t) p.tables) x) (slice_get (map (λ t. map reference t) p.elems) k)) at
      ∙ ap (λ t. elem_at (store_with m b p) k x (Some place) t (slice_get (map (λ t. map reference t) p.elems) k)) (get_map (λ t. map reference t) p.tables x table there)
      ∙ ap (λ e. elem_at (store_with m b p) k x (Some place) (Some (map reference table)) e) (get_map (λ t. map reference t) p.elems k references held)

  test_is : (r : Bool) → r ≡ nat_lt (length table) (place + length references) → nat_lt (length (map reference table)) (place + length (map reference references)) ≡ r
  test_is r is = rw (long_map reference table, long_map reference references) (sym is)

  pub elem_traps : nat_lt (length table) (place + length references) ≡ true → start_elem k (Active x offset) (store_with m b p) ≡ Err (Traps TableCause)
  elem_traps test = elem_reaches ∙ ap (λ t. if t then Err (Traps TableCause) else Ok (drop_elem k (record (store_with m b p) { tables = slice_set (map (λ t. map reference t) p.tables) x (written place (map reference references) (map reference table)) }))) (test_is true (sym test))

  pub elem_writes : nat_lt (length table) (place + length references) ≡ false →
      start_elem k (Active x offset) (store_with m b p) ≡ Ok (store_with m b (record p { tables = slice_set p.tables x (written place references table); elems = slice_set p.elems k [] }))
  elem_writes test =
      elem_reaches
      ∙ ap (λ t. if t then Err (Traps TableCause) else Ok (drop_elem k (record (store_with m b p) { tables = slice_set (map (λ t. map reference t) p.tables) x (written place (map reference references) (map reference table)) }))) (test_is false (sym test))
      ∙ ap (λ ts. Ok (record (store_with m b p) { tables = ts; elems = slice_set (map (λ t. map reference t) p.elems) k [] }))
      (ap (slice_set (map (λ t. map reference t) p.tables) x) (sym (written_map reference place references table)) ∙ sym (set_map (λ t. map reference t) p.tables x (written place references table)))
      ∙ ap (λ es. Ok (record (store_with m b p) { tables = map (λ t. map reference t) (slice_set p.tables x (written place references table)); elems = es })) (sym (set_map (λ t. map reference t) p.elems k []))

-- a declared segment is dropped
pub elem_dropped : (m : Module) (b : List ℕ) (p : PlainStore) (k : ℕ) → start_elem k Declared (store_with m b p) ≡ Ok (store_with m b (record p { elems = slice_set p.elems k [] }))
elem_dropped m b p k = ap (λ es. Ok (record (store_with m b p) { elems = es })) (sym (set_map (λ t. map reference t) p.elems k []))

abbrev data_at : Store ℕ → ℕ → Option ℕ → Option (List ℕ) → Instantiated
data_at s k o e =
    with_part o (λ place. with_part e (λ bytes.
    in_range (place + length bytes) (length s.memory) MemoryCause
    (Ok (drop_data k (record s { memory = written place bytes s.memory })))))

module _ (m : Module) (b : List ℕ) (p : PlainStore) (k x place : ℕ) (offset : Expr) (bytes : List ℕ)
    (at : offset_in (map argument p.globals) offset ≡ Some place) (held : slice_get (datas_of p.dropped m.segments) k ≡ Some bytes) where
  data_reaches : start_data k (Active x offset) (store_with m b p) ≡
      in_range (place + length bytes) (length b) MemoryCause (Ok (drop_data k (record (store_with m b p) { memory = written place bytes b })))
  data_reaches =
      ap (λ o. data_at (store_with m b p) k o (slice_get (datas_of p.dropped m.segments) k)) at
      ∙ ap (λ e. data_at (store_with m b p) k (Some place) e) held

  pub data_traps : nat_lt (length b) (place + length bytes) ≡ true → start_data k (Active x offset) (store_with m b p) ≡ Err (Traps MemoryCause)
  data_traps test = data_reaches ∙ ap (λ t. if t then Err (Traps MemoryCause) else Ok (drop_data k (record (store_with m b p) { memory = written place bytes b }))) test

  pub data_writes : nat_lt (length b) (place + length bytes) ≡ false →
      start_data k (Active x offset) (store_with m b p) ≡ Ok (store_with m (written place bytes b) (record p { dropped = slice_set p.dropped k true }))
  data_writes test =
      data_reaches
      ∙ ap (λ t. if t then Err (Traps MemoryCause) else Ok (drop_data k (record (store_with m b p) { memory = written place bytes b }))) test
      ∙ ap (λ ds. Ok (record (store_with m (written place bytes b) p) { datas = ds })) (sym (datas_dropped p.dropped m.segments k))

pub written_bytes : (place : ℕ) (bytes b : List ℕ) → AreByteValues bytes → AreByteValues b → AreByteValues (written place bytes b)
written_bytes place bytes b h k =
    all-append (λ n. n < 256) (take place b ++ bytes) (drop (place + length bytes) b)
    (all-append (λ n. n < 256) (take place b) bytes (all-take (λ n. n < 256) place b k) h) (all-drop (λ n. n < 256) (place + length bytes) b k)

-- the cells that are written
pub written_cells : {V : Type 0} (word : ℕ → V) (old new : List V) (place : ℕ) (bytes b : List ℕ) → old ≡ map word b → new ≡ written place (map word bytes) old → new ≡ map word (written place bytes b)
written_cells word old new place bytes b was is = is ∙ ap (written place (map word bytes)) was ∙ sym (written_map word place bytes b)

pub cells_count : {V : Type 0} (word : ℕ → V) (cells : List V) (b : List ℕ) → cells ≡ map word b → length cells ≡ length b
cells_count word cells b is = ap (λ l. length l) is ∙ long_map word b

-- ---- words, one more

pub words_more : {A V M : Type 0} (H : A → V → Type 0) (means : A → V → M) (K : Kind M) (old mid new : A) (values : List Argument) (i : ℕ) (words : List (CodeValue V)) (v : Argument) (w : CodeValue V) →
    WordsSoFar H means K old mid values i words → slice_get values i ≡ Some v → Kept H means mid new → ValueHeld (H new) w → value (means new) w ≡ value_image K.number (argument v) →
    WordsSoFar H means K old new values (i + 1) (words ++ w ∷ [])
words_more H means K old mid new values i words v w so there kept held meant =
    let both : ValuesHeld (H new) words × (map (value (means new)) words ≡ map (value (means mid)) words) = values_kept H means mid new kept words so.held in
    record {
      kept = λ x h. ((kept x (so.kept x h).0).0, (kept x (so.kept x h).0).1 ∙ (so.kept x h).1);
      held = all-append (ValueHeld (H new)) words (w ∷ []) both.0 (held, tt);
      meant =
          append_map (value (means new)) words (w ∷ []) ∙ ap (λ l. l ++ value (means new) w ∷ []) (both.1 ∙ so.meant)
          ∙ ap (λ x. values_image K.number (map argument (take i values)) ++ x ∷ []) meant
          ∙ sym (ap (λ l. values_image K.number (map argument l)) (take_next values i v there) ∙ ap (values_image K.number) (append_map argument (take i values) (v ∷ [])) ∙ append_map (value_image K.number) (map argument (take i values)) (argument v ∷ []));
    }
  where
    take_next : (vs : List Argument) (i : ℕ) (v : Argument) → slice_get vs i ≡ Some v → take (i + 1) vs ≡ take i vs ++ v ∷ []
    take_next [] i v is = absurd cc
    take_next (u ∷ us) zero v is = let same : u ≡ v = cc in rw same refl
    take_next (u ∷ us) (suc i) v is = let next : suc i + 1 ≡ suc (i + 1) = omega arith in rw next (ap (λ l. u ∷ l) (take_next us i v is))

-- ---- the module's store

pub lacks_store : (m : Module) → allocated m ≡ None → instantiated m ≡ Err Stuck
lacks_store m none = ap (λ o. with_part o (λ s. after (start_elems 0 m.elems s) (start_datas 0 m.segments))) none

module _ (m : Module) (p : PlainStore) (there : allocated m ≡ Some (store_with m (first_memory m) p)) where
  pub elems_stop : (e : End ℕ) → start_elems 0 m.elems (store_with m (first_memory m) p) ≡ Err e → instantiated m ≡ Err e
  elems_stop e is =
      ap (λ o. with_part o (λ s. after (start_elems 0 m.elems s) (start_datas 0 m.segments))) there
      ∙ ap (λ r. after r (start_datas 0 m.segments)) is

  pub datas_give : (q : PlainStore) (r : Instantiated) → start_elems 0 m.elems (store_with m (first_memory m) p) ≡ Ok (store_with m (first_memory m) q) →
      start_datas 0 m.segments (store_with m (first_memory m) q) ≡ r → instantiated m ≡ r
  datas_give q r is gives =
      ap (λ o. with_part o (λ s. after (start_elems 0 m.elems s) (start_datas 0 m.segments))) there
      ∙ ap (λ r. after r (start_datas 0 m.segments)) is ∙ gives

-- ---- what a result of segments says

-- the segment k stops, and so do all
pub elems_stop_at : (m : Module) (old new : PlainStore) (k : ℕ) (e : Elem) (b : List ℕ) (stop : End ℕ) → ElemsSoFar m old new k → slice_get m.elems k ≡ Some e →
    start_elem k e.mode (store_with m b new) ≡ Err stop → start_elems 0 m.elems (store_with m b old) ≡ Err stop
elems_stop_at m old new k e b stop so there is =
    so.same b ∙ next_elem m.elems k e (store_with m b new) there ∙ ap (λ r. after r (start_elems (k + 1) (drop (k + 1) m.elems))) is

pub elems_more : (m : Module) (old mid new : PlainStore) (k : ℕ) (e : Elem) → ElemsSoFar m old mid k → slice_get m.elems k ≡ Some e →
    length new.elems ≡ length mid.elems → new.dropped ≡ mid.dropped → ((b : List ℕ) → start_elem k e.mode (store_with m b mid) ≡ Ok (store_with m b new)) → ElemsSoFar m old new (k + 1)
elems_more m old mid new k e so there count dropped is = record {
  count = count ∙ so.count;
  dropped = dropped ∙ so.dropped;
  same = λ b. so.same b ∙ next_elem m.elems k e (store_with m b mid) there ∙ ap (λ r. after r (start_elems (k + 1) (drop (k + 1) m.elems))) (is b);
}

module _ {V : Type 0} (word : ℕ → V) (m : Module) (old : PlainStore) (old_cells : List V) where
  pub datas_stop_at : (mid new : PlainStore) (mid_cells new_cells : List V) (k : ℕ) (g : Segment) (stop : End ℕ) → DatasSoFar word m old old_cells mid mid_cells k → slice_get m.segments k ≡ Some g →
      FromBytes word mid_cells new_cells (λ b c. start_data k g.mode (store_with m b mid) ≡ Err stop) →
      FromBytes word old_cells new_cells (λ b c. start_datas 0 m.segments (store_with m b old) ≡ Err stop)
  datas_stop_at mid new mid_cells new_cells k g stop so there is b cells bytes =
      let s = so.same b cells bytes in
      let t = is s.0 s.1 s.2 in
      (t.0, t.1, t.2, s.3 ∙ next_data m.segments k g (store_with m s.0 mid) there ∙ ap (λ r. after r (start_datas (k + 1) (drop (k + 1) m.segments))) t.3)

  pub datas_more : (mid new : PlainStore) (mid_cells new_cells : List V) (k : ℕ) (g : Segment) → DatasSoFar word m old old_cells mid mid_cells k → slice_get m.segments k ≡ Some g →
      length new.dropped ≡ length m.segments → FromBytes word mid_cells new_cells (λ b c. start_data k g.mode (store_with m b mid) ≡ Ok (store_with m c new)) →
      DatasSoFar word m old old_cells new new_cells (k + 1)
  datas_more mid new mid_cells new_cells k g so there count is = record {
    count = count;
    same = λ b cells bytes.
        let s = so.same b cells bytes in
        let t = is s.0 s.1 s.2 in
        (t.0, t.1, t.2, s.3 ∙ next_data m.segments k g (store_with m s.0 mid) there ∙ ap (λ r. after r (start_datas (k + 1) (drop (k + 1) m.segments))) t.3);
  }

  pub datas_done : (new : PlainStore) (new_cells : List V) (k : ℕ) → length m.segments ≤ k → DatasSoFar word m old old_cells new new_cells k →
      FromBytes word old_cells new_cells (λ b c. start_datas 0 m.segments (store_with m b old) ≡ Ok (store_with m c new))
  datas_done new new_cells k all so b cells bytes =
      let s = so.same b cells bytes in
      (s.0, s.1, s.2, s.3 ∙ ap (λ gs. start_datas k gs (store_with m s.0 new)) (drop_none m.segments k all))
    where
      drop_none : (gs : List Segment) (k : ℕ) → length gs ≤ k → drop k gs ≡ []
      drop_none [] zero all = refl
      drop_none [] (suc k) all = refl
      drop_none (g ∷ gs) zero all = absurd (omega arith)
      drop_none (g ∷ gs) (suc k) all = drop_none gs k (omega arith)

-- ---- places of lists

pub get_default : {A : Type 0} (xs : List A) (k : ℕ) (d : A) → k < length xs → slice_get xs k ≡ Some (slice_index_or xs k d)
get_default [] k d lt = absurd (omega arith)
get_default (x ∷ xs) zero d lt = refl
get_default (x ∷ xs) (suc k) d lt = get_default xs k d (omega arith)

pub get_of : {A : Type 0} (xs : List A) (k : ℕ) (x : A) → k < length xs → x ≡ slice_index_or xs k x → slice_get xs k ≡ Some x
get_of xs k x lt is = get_default xs k x lt ∙ ap (λ y. Some y) (sym is)

pub same_at : {A : Type 0} (xs : List A) (k : ℕ) (x y : A) → k < length xs → x ≡ slice_index_or xs k x → y ≡ slice_index_or xs k y → x ≡ y
same_at xs k x y lt is also = let both : Some x ≡ Some y = sym (get_of xs k x lt is) ∙ get_of xs k y lt also in cc

take_none : {A : Type 0} (n : ℕ) → take {A = A} n [] ≡ []
take_none zero = refl
take_none (suc n) = refl

pub resized : {A : Type 0} (old new : List A) (n len : ℕ) (x : A) → old ≡ [] → len ≡ 0 → new ≡ take n old ++ replicate (n - len) x → new ≡ replicate n x
resized old new n len x none short is =
    is ∙ ap (λ l. take n l ++ replicate (n - len) x) none ∙ ap (λ l. l ++ replicate (n - len) x) (take_none n)
    ∙ ap (λ k. replicate k x) (let whole : n - len ≡ n = omega (arith, short) in whole)

pub test_from : (size count long many place : ℕ) (r : Bool) → r ≡ nat_lt size (place + count) → size ≡ long → count ≡ many → nat_lt long (place + many) ≡ r
test_from size count long many place r is a b = rw (sym a, sym b) (sym is)

pub pages_next : (m : Module) (i pages : ℕ) (ls : List Limits) (d : Limits) → ls ≡ m.memories → i < length ls → PagesSoFar m i pages → AreAtMost most_pages m.memories →
    PagesSoFar m (i + 1) (pages + (slice_index_or ls i d).min)
pages_next m i pages ls d same lt so small =
    let within : i < length m.memories = omega (arith, lt, ap (λ l. length l) same) in
    subst (λ l. PagesSoFar m (i + 1) (pages + (slice_index_or l i d).min)) (sym same)
    (pages_more m i pages (slice_index_or m.memories i d) so (get_default m.memories i d within) (small i d within))

-- ---- a slice that is written whole

pub take_front : {A : Type 0} (ws ys : List A) → take (length ws) (ws ++ ys) ≡ ws
take_front [] ys = refl
take_front (w ∷ ws) ys = ap (λ l. w ∷ l) (take_front ws ys)

long_take : {A : Type 0} (n : ℕ) (xs : List A) → n ≤ length xs → length (take n xs) ≡ n
long_take zero xs le = refl
long_take (suc n) [] le = absurd (omega arith)
long_take (suc n) (x ∷ xs) le = ap suc (long_take n xs (omega arith))

long_drop : {A : Type 0} (n : ℕ) (xs : List A) → n ≤ length xs → length (drop n xs) + n ≡ length xs
long_drop zero xs le = omega arith
long_drop (suc n) [] le = absurd (omega arith)
long_drop (suc n) (x ∷ xs) le = omega (arith, long_drop n xs (omega arith))

long_append : {A : Type 0} (xs ys : List A) → length (xs ++ ys) ≡ length xs + length ys
long_append [] ys = omega arith
long_append (x ∷ xs) ys = omega (arith, long_append xs ys)

pub long_written : {A : Type 0} (place : ℕ) (xs ys : List A) → place + length xs ≤ length ys → length (written place xs ys) ≡ length ys
long_written place xs ys le =
    omega (arith, long_append (take place ys ++ xs) (drop (place + length xs) ys), long_append (take place ys) xs, long_take place ys (omega arith), long_drop (place + length xs) ys le)

pub items_are : {A : Type 0} (n : ℕ) (ws old : List A) → n ≡ length ws → take n (ws ++ drop (length ws) old) ≡ ws
items_are n ws old same = ap (λ k. take k (ws ++ drop (length ws) old)) same ∙ take_front ws (drop (length ws) old)
