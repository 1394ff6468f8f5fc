-- Laws of instantiation.
use Rattle.std.proofs.Common.{◌≡◌, ℕ, zero, suc, ◌+◌, ◌*◌, ◌<◌, ◌≤◌, List, [], ◌∷◌, ◌++◌, take, drop, length, map, flat_map, get_or, refl, sym, ap, ◌∙◌, subst, arith, append-nil, append_assoc}
use Rattle.std.specs.Prelude.{Bool, true, false, Option, Some, None, option_map, option_and_then, slice_get, slice_set, replicate, Ok, Err}
use Rattle.std.specs.List.{AllByRecursion}
use Rattle.wasm_ast.specs.declared.types.Limits.{Limits}
use Rattle.wasm_ast.specs.declared.modules.GlobalDef.{GlobalDef}
use Rattle.wasm_ast.specs.declared.modules.Elem.{Elem}
use Rattle.wasm_ast.specs.declared.modules.Segment.{Segment}
use Rattle.wasm_ast.specs.declared.modules.Module.{Module}
use Rattle.wasm_ast.specs.declared.runs.Value.{Value as Argument}
use Rattle.wasm_rules.specs.Words.{Kind, Kept}
use Rattle.wasm_reduction.specs.Configurations.{Reference, Value, I32 as I32Value, I64 as I64Value, Store}
use Rattle.wasm_reduction.specs.Images.{value_image, values_image}
use Rattle.wasm_reduction.specs.Instantiation.{all_of, value_of, reference_in, globals_after, first_globals, first_elems, first_tables, first_memory, allocated_with, allocated, after, start_elem, start_elems, start_data, start_datas, instantiated, argument, invoked, first_config}
use Rattle.wasm_reduction.specs.Combinators.{written}
use Rattle.wasm_reduction.specs.Memories.{page_bytes}
use Rattle.wasm_machine.specs.declared.values.Reference.{Reference as CodeReference}
use Rattle.wasm_machine.specs.declared.values.Value.{Value as CodeValue}
use Rattle.wasm_machine.specs.declared.values.Value.TheVariants.{I32, I64, Ref}
use Rattle.wasm_start.specs.declared.allocation.Stop.{Stop}
use Rattle.wasm_start.specs.declared.allocation.Stop.TheVariants.{Traps as StopTraps, Stuck as StopStuck}
use Rattle.wasm_machine.specs.Configurations.{datas_of, config_of, configuration}
use Rattle.wasm_machine.specs.States.{State}
use Rattle.wasm_machine.specs.Values.{reference, value, ValueHeld, ValuesHeld}
use Rattle.wasm_start.specs.code.Starts.{PlainStore, HasSegments, store_with, AreByteValues, FromBytes, first_state}
use Rattle.wasm_start.specs.Starts.{stop_of}

-- ---- all of a list

-- the first i are there, and are these; of the others it is still to be seen
abbrev pub Done : {A B : Type 0} → (A → Option B) → List A → ℕ → List B → Type 0
Done f xs i done = all_of (map f xs) ≡ option_map (λ ys. done ++ ys) (all_of (map f (drop i xs)))

pub next_is : {A : Type 0} (xs : List A) (i : ℕ) (x : A) → i < length xs → x ≡ get_or xs i x → drop i xs ≡ x ∷ drop (i + 1) xs
next_is [] i x lt is = absurd (omega arith)
next_is (y ∷ ys) zero x lt is = let same : x ≡ y = is in rw same refl
next_is (y ∷ ys) (suc i) x lt is = let e : suc i + 1 ≡ suc (i + 1) = omega arith in rw e (next_is ys i x (omega arith) is)

pub none_left : {A : Type 0} (xs : List A) (i : ℕ) → length xs ≤ i → drop i xs ≡ []
none_left [] zero le = refl
none_left [] (suc i) le = refl
none_left (x ∷ xs) zero le = absurd (omega arith)
none_left (x ∷ xs) (suc i) le = none_left xs i (omega arith)

module _ {A B : Type 0} (f : A → Option B) where
  map_none : (o : Option (List B)) → o ≡ option_map (λ ys. [] ++ ys) o
  map_none None = refl
  map_none (Some ys) = refl

  pub all_begin : (xs : List A) → Done f xs 0 []
  all_begin xs = map_none (all_of (map f xs))

  joined : (done : List B) (y : B) (o : Option (List B)) → option_map (λ ys. done ++ ys) (option_map (λ ys. y ∷ ys) o) ≡ option_map (λ ys. (done ++ y ∷ []) ++ ys) o
  joined done y None = refl
  joined done y (Some ys) = ap (λ l. Some l) (sym (append_assoc done (y ∷ []) ys))

  pub all_more : (xs : List A) (i : ℕ) (done : List B) (x : A) (y : B) → i < length xs → x ≡ get_or xs i x → f x ≡ Some y → Done f xs i done → Done f xs (i + 1) (done ++ y ∷ [])
  all_more xs i done x y lt is found h =
      h ∙ ap (λ l. option_map (λ ys. done ++ ys) (all_of (map f l))) (next_is xs i x lt is)
      ∙ ap (λ o. option_map (λ ys. done ++ ys) (option_and_then (λ y. option_map (λ ys. y ∷ ys) (all_of (map f (drop (i + 1) xs)))) o)) found
      ∙ joined done y (all_of (map f (drop (i + 1) xs)))

  pub all_lack : (xs : List A) (i : ℕ) (done : List B) (x : A) → i < length xs → x ≡ get_or xs i x → f x ≡ None → Done f xs i done → all_of (map f xs) ≡ None
  all_lack xs i done x lt is found h =
      h ∙ ap (λ l. option_map (λ ys. done ++ ys) (all_of (map f l))) (next_is xs i x lt is)
      ∙ ap (λ o. option_map (λ ys. done ++ ys) (option_and_then (λ y. option_map (λ ys. y ∷ ys) (all_of (map f (drop (i + 1) xs)))) o)) found

  pub all_end : (xs : List A) (i : ℕ) (done : List B) → length xs ≤ i → Done f xs i done → all_of (map f xs) ≡ Some done
  all_end xs i done le h =
      h ∙ ap (λ l. option_map (λ ys. done ++ ys) (all_of (map f l))) (none_left xs i le) ∙ ap (λ l. Some l) (append-nil done)

-- ---- data segments

pub datas_none : (gs : List Segment) → datas_of (replicate (length gs) false) gs ≡ map (λ s. s.bytes) gs
datas_none [] = refl
datas_none (g ∷ gs) = ap (λ l. g.bytes ∷ l) (datas_none gs)

pub datas_there : (ds : List Bool) (gs : List Segment) (k : ℕ) → k < length ds → slice_get ds k ≡ Some true → slice_get (datas_of ds gs) k ≡ Some []
datas_there [] gs k lt is = absurd (omega arith)
datas_there (d ∷ ds) [] zero lt is = refl
datas_there (d ∷ ds) [] (suc k) lt is = datas_there ds [] k (omega arith) is
datas_there (true ∷ ds) (g ∷ gs) zero lt is = refl
datas_there (false ∷ ds) (g ∷ gs) zero lt is = absurd cc
datas_there (true ∷ ds) (g ∷ gs) (suc k) lt is = datas_there ds gs k (omega arith) is
datas_there (false ∷ ds) (g ∷ gs) (suc k) lt is = datas_there ds gs k (omega arith) is

pub datas_kept : (ds : List Bool) (gs : List Segment) (k : ℕ) (g : Segment) → slice_get ds k ≡ Some false → slice_get gs k ≡ Some g → slice_get (datas_of ds gs) k ≡ Some g.bytes
datas_kept [] gs k g not is = absurd cc
datas_kept (d ∷ ds) [] k g not is = absurd cc
datas_kept (true ∷ ds) (h ∷ gs) zero g not is = absurd cc
datas_kept (false ∷ ds) (h ∷ gs) zero g not is = (let same : h ≡ g = cc in rw same refl)
datas_kept (true ∷ ds) (h ∷ gs) (suc k) g not is = datas_kept ds gs k g not is
datas_kept (false ∷ ds) (h ∷ gs) (suc k) g not is = datas_kept ds gs k g not is

pub datas_dropped : (ds : List Bool) (gs : List Segment) (k : ℕ) → datas_of (slice_set ds k true) gs ≡ slice_set (datas_of ds gs) k []
datas_dropped [] gs k = refl
datas_dropped (d ∷ ds) [] zero = refl
datas_dropped (d ∷ ds) [] (suc k) = ap (λ l. [] ∷ l) (datas_dropped ds [] k)
datas_dropped (true ∷ ds) (g ∷ gs) zero = refl
datas_dropped (false ∷ ds) (g ∷ gs) zero = refl
datas_dropped (true ∷ ds) (g ∷ gs) (suc k) = ap (λ l. [] ∷ l) (datas_dropped ds gs k)
datas_dropped (false ∷ ds) (g ∷ gs) (suc k) = ap (λ l. g.bytes ∷ l) (datas_dropped ds gs k)

-- ---- segments, in order

-- the first k element segments are started
pub record ElemsSoFar (m : Module) (old new : PlainStore) (k : ℕ) : Type 0 where
  pub count : length new.elems ≡ length m.elems
  pub dropped : new.dropped ≡ old.dropped
  pub same : (b : List ℕ) → start_elems 0 m.elems (store_with m b old) ≡ start_elems k (drop k m.elems) (store_with m b new)

pub next_elem : (es : List Elem) (k : ℕ) (e : Elem) (s : Store ℕ) → slice_get es k ≡ Some e → start_elems k (drop k es) s ≡ after (start_elem k e.mode s) (start_elems (k + 1) (drop (k + 1) es))
next_elem es k e s is =
    let from : 0 + k ≡ k = omega arith in
    subst (λ n. start_elems n (drop k es) s ≡ after (start_elem n e.mode s) (start_elems (n + 1) (drop (k + 1) es))) from (at 0 es k is)
  where
    at : (j : ℕ) (es : List Elem) (k : ℕ) → slice_get es k ≡ Some e → start_elems (j + k) (drop k es) s ≡ after (start_elem (j + k) e.mode s) (start_elems (j + k + 1) (drop (k + 1) es))
    at j [] k is = absurd cc
    at j (x ∷ xs) zero is = let same : x ≡ e = cc in rw same refl
    at j (x ∷ xs) (suc k) is =
        let next : suc k + 1 ≡ suc (k + 1) = omega arith in
        let moved : j + 1 + k ≡ j + suc k = omega arith in
        rw next (subst (λ n. start_elems n (drop k xs) s ≡ after (start_elem n e.mode s) (start_elems (n + 1) (drop (k + 1) xs))) moved (at (j + 1) xs k is))

pub record DatasSoFar {V : Type 0} (word : ℕ → V) (m : Module) (old : PlainStore) (old_cells : List V) (new : PlainStore) (new_cells : List V) (k : ℕ) : Type 0 where
  pub count : length new.dropped ≡ length m.segments
  pub same : FromBytes word old_cells new_cells (λ b c. start_datas 0 m.segments (store_with m b old) ≡ start_datas k (drop k m.segments) (store_with m c new))

pub next_data : (gs : List Segment) (k : ℕ) (e : Segment) (s : Store ℕ) → slice_get gs k ≡ Some e → start_datas k (drop k gs) s ≡ after (start_data k e.mode s) (start_datas (k + 1) (drop (k + 1) gs))
next_data gs k e s is =
    let from : 0 + k ≡ k = omega arith in
    subst (λ n. start_datas n (drop k gs) s ≡ after (start_data n e.mode s) (start_datas (n + 1) (drop (k + 1) gs))) from (at 0 gs k is)
  where
    at : (j : ℕ) (gs : List Segment) (k : ℕ) → slice_get gs k ≡ Some e → start_datas (j + k) (drop k gs) s ≡ after (start_data (j + k) e.mode s) (start_datas (j + k + 1) (drop (k + 1) gs))
    at j [] k is = absurd cc
    at j (x ∷ xs) zero is = let same : x ≡ e = cc in rw same refl
    at j (x ∷ xs) (suc k) is =
        let next : suc k + 1 ≡ suc (k + 1) = omega arith in
        let moved : j + 1 + k ≡ j + suc k = omega arith in
        rw next (subst (λ n. start_datas n (drop k xs) s ≡ after (start_data n e.mode s) (start_datas (n + 1) (drop (k + 1) xs))) moved (at (j + 1) xs k is))

-- ---- words

pub record WordsSoFar {A V M : Type 0} (H : A → V → Type 0) (means : A → V → M) (K : Kind M) (old new : A) (values : List Argument) (i : ℕ) (words : List (CodeValue V)) : Type 0 where
  pub kept : Kept H means old new
  pub held : ValuesHeld (H new) words
  pub meant : map (value (means new)) words ≡ values_image K.number (map argument (take i values))

-- ---- pages of the memory

pub record PagesSoFar (m : Module) (i pages : ℕ) : Type 0 where
  pub few : pages ≤ i * 1024
  pub same : replicate {A = ℕ} (pages * page_bytes) 0 ≡ flat_map (λ limits. replicate {A = ℕ} (limits.min * page_bytes) 0) (take i m.memories)

-- ---- the first configuration

pub fused : {M : Type 0} (number : ℕ → M) (args : List Argument) → values_image number (map argument args) ≡ map (λ a. value_image number (argument a)) args
fused number [] = refl
fused number (a ∷ args) = ap (λ l. value_image number (argument a) ∷ l) (fused number args)

pub first_config_of : {V M : Type 0} (h : V → M) (K : Kind M) (m : Module) (p : PlainStore) (entry : ℕ) (args : List Argument) (c : List ℕ) (s : State (CodeValue V)) →
    map (value h) s.operands ≡ values_image K.number (map argument args) → map (value h) s.globals ≡ values_image K.number (map argument p.globals) → s ≡ first_state p entry s.operands s.globals →
    instantiated m ≡ Ok (store_with m c p) → first_config K m entry args ≡ Ok (configuration h m (map K.number c) s)
first_config_of h K m p entry args c s operands globals others is =
    ap (invoked K m entry args) is
    ∙ ap (λ O. Ok (config_of m (map K.number c) (first_state p entry O (values_image K.number (map argument p.globals))))) (sym (fused K.number args) ∙ sym operands)
    ∙ ap (λ G. Ok (config_of m (map K.number c) (first_state p entry (map (value h) s.operands) G))) (sym globals)
    ∙ ap (λ t. Ok (configuration h m (map K.number c) t)) (sym others)

pub first_stop_of : {M : Type 0} (K : Kind M) (m : Module) (entry : ℕ) (args : List Argument) (stop : Stop) → instantiated m ≡ Err (stop_of stop) → first_config K m entry args ≡ Err (stop_of stop)
first_stop_of K m entry args (StopTraps cause) is = ap (invoked K m entry args) is
first_stop_of K m entry args StopStuck is = ap (invoked K m entry args) is

-- ---- bytes as words

module _ {A V M : Type 0} (H : A → V → Type 0) (means : A → V → M) (number : ℕ → M) (word : ℕ → V) (a : A) (is : (n : ℕ) → n < 256 → H a (word n) × (means a (word n) ≡ number n)) where
  pub bytes_mean : (bytes : List ℕ) → AreByteValues bytes → map (means a) (map word bytes) ≡ map number bytes
  bytes_mean [] h = refl
  bytes_mean (b ∷ bs) h =
      ap (λ w. w ∷ map (means a) (map word bs)) (is b h.0).1 ∙ ap (λ l. number b ∷ l) (bytes_mean bs h.1)

  pub bytes_held : (bytes : List ℕ) → AreByteValues bytes → AllByRecursion (H a) (map word bytes)
  bytes_held [] h = tt
  bytes_held (b ∷ bs) h = ((is b h.0).0, bytes_held bs h.1)

pub zeros_are_bytes : (n : ℕ) → AreByteValues (replicate {A = ℕ} n 0)
zeros_are_bytes zero = tt
zeros_are_bytes (suc n) = (omega arith, zeros_are_bytes n)

pub bytes_append : (xs ys : List ℕ) → AreByteValues xs → AreByteValues ys → AreByteValues (xs ++ ys)
bytes_append [] ys h k = k
bytes_append (x ∷ xs) ys h k = (h.0, bytes_append xs ys h.1 k)

pub first_bytes : (limits : List Limits) → AreByteValues (flat_map (λ l. replicate {A = ℕ} (l.min * page_bytes) 0) limits)
first_bytes [] = tt
first_bytes (l ∷ ls) = bytes_append (replicate {A = ℕ} (l.min * page_bytes) 0) (flat_map (λ l. replicate {A = ℕ} (l.min * page_bytes) 0) ls) (zeros_are_bytes (l.min * page_bytes)) (first_bytes ls)

-- ---- values of words that are kept

module _ {A V M : Type 0} (H : A → V → Type 0) (means : A → V → M) (a b : A) (kept : Kept H means a b) where
  pub value_kept : (v : CodeValue V) → ValueHeld (H a) v → ValueHeld (H b) v × (value (means b) v ≡ value (means a) v)
  value_kept (I32 w) h = ((kept w h).0, ap (λ n. I32Value n) (kept w h).1)
  value_kept (I64 w) h = ((kept w h).0, ap (λ n. I64Value n) (kept w h).1)
  value_kept (Ref r) h = (tt, refl)

  pub values_kept : (vs : List (CodeValue V)) → ValuesHeld (H a) vs → ValuesHeld (H b) vs × (map (value (means b)) vs ≡ map (value (means a)) vs)
  values_kept [] h = (tt, refl)
  values_kept (v ∷ vs) h =
      let first : ValueHeld (H b) v × (value (means b) v ≡ value (means a) v) = value_kept v h.0 in
      let others : ValuesHeld (H b) vs × (map (value (means b)) vs ≡ map (value (means a)) vs) = values_kept vs h.1 in
      ((first.0, others.0), ap (λ x. x ∷ map (value (means b)) vs) first.1 ∙ ap (λ l. value (means a) v ∷ l) others.1)

-- ---- lists

map_replicate : {A B : Type 0} (f : A → B) (n : ℕ) (x : A) → map f (replicate n x) ≡ replicate n (f x)
map_replicate f zero x = refl
map_replicate f (suc n) x = ap (λ l. f x ∷ l) (map_replicate f n x)

-- a table of nulls
pub table_is : (o : Option Reference) (n : ℕ) (r : CodeReference) (items : List CodeReference) → o ≡ Some (reference r) → items ≡ replicate n r → option_map (replicate n) o ≡ Some (map reference items)
table_is o n r items e is = rw (e, is) (ap (λ l. Some l) (sym (map_replicate reference n r)))

pub get_map : {A B : Type 0} (f : A → B) (xs : List A) (k : ℕ) (x : A) → slice_get xs k ≡ Some x → slice_get (map f xs) k ≡ Some (f x)
get_map f [] k x is = absurd cc
get_map f (y ∷ ys) zero x is = let same : y ≡ x = cc in rw same refl
get_map f (y ∷ ys) (suc k) x is = get_map f ys k x is

pub set_map : {A B : Type 0} (f : A → B) (xs : List A) (k : ℕ) (x : A) → map f (slice_set xs k x) ≡ slice_set (map f xs) k (f x)
set_map f [] k x = refl
set_map f (y ∷ ys) zero x = refl
set_map f (y ∷ ys) (suc k) x = ap (λ l. f y ∷ l) (set_map f ys k x)

take_map : {A B : Type 0} (f : A → B) (n : ℕ) (xs : List A) → map f (take n xs) ≡ take n (map f xs)
take_map f zero xs = refl
take_map f (suc n) [] = refl
take_map f (suc n) (x ∷ xs) = ap (λ l. f x ∷ l) (take_map f n xs)

drop_map : {A B : Type 0} (f : A → B) (n : ℕ) (xs : List A) → map f (drop n xs) ≡ drop n (map f xs)
drop_map f zero xs = refl
drop_map f (suc n) [] = refl
drop_map f (suc n) (x ∷ xs) = drop_map f n xs

pub append_map : {A B : Type 0} (f : A → B) (xs ys : List A) → map f (xs ++ ys) ≡ map f xs ++ map f ys
append_map f [] ys = refl
append_map f (x ∷ xs) ys = ap (λ l. f x ∷ l) (append_map f xs ys)

pub long_map : {A B : Type 0} (f : A → B) (xs : List A) → length (map f xs) ≡ length xs
long_map f [] = refl
long_map f (x ∷ xs) = ap suc (long_map f xs)

pub written_map : {A B : Type 0} (f : A → B) (place : ℕ) (xs ys : List A) → map f (written place xs ys) ≡ written place (map f xs) (map f ys)
written_map f place xs ys =
    append_map f (take place ys ++ xs) (drop (place + length xs) ys)
    ∙ ap (λ l. l ++ map f (drop (place + length xs) ys)) (append_map f (take place ys) xs)
    ∙ ap (λ l. (l ++ map f xs) ++ map f (drop (place + length xs) ys)) (take_map f place ys)
    ∙ ap (λ l. (take place (map f ys) ++ map f xs) ++ l) (drop_map f (place + length xs) ys)
    ∙ ap (λ n. (take place (map f ys) ++ map f xs) ++ drop (place + n) (map f ys)) (sym (long_map f xs))

pub fuse : {A B C : Type 0} (f : B → C) (g : A → B) (xs : List A) → map f (map g xs) ≡ map (λ x. f (g x)) xs
fuse f g [] = refl
fuse f g (x ∷ xs) = ap (λ l. f (g x) ∷ l) (fuse f g xs)

module _ {A B : Type 0} (f : A → Option B) where
  long_cons : (o : Option B) (os : Option (List B)) (n : ℕ) (ys : List B) → ((zs : List B) → os ≡ Some zs → length zs ≡ n) → option_and_then (λ y. option_map (λ ys. y ∷ ys) os) o ≡ Some ys → length ys ≡ suc n
  long_cons None os n ys h e = absurd cc
  long_cons (Some y) None n ys h e = absurd cc
  long_cons (Some y) (Some zs) n ys h e = let same : y ∷ zs ≡ ys = cc in sym (ap (λ l. length l) same) ∙ ap suc (h zs refl)

  pub all-length : (xs : List A) (ys : List B) → all_of (map f xs) ≡ Some ys → length ys ≡ length xs
  all-length [] ys e = let same : [] ≡ ys = cc in sym (ap (λ l. length l) same)
  all-length (x ∷ xs) ys e = long_cons (f x) (all_of (map f xs)) (length xs) ys (λ zs g. all-length xs zs g) e

-- ---- the store before segments are written

pub allocated_is : (m : Module) (p : PlainStore) → first_globals m ≡ Some (map argument p.globals) → first_elems m (map argument p.globals) ≡ Some (map (λ t. map reference t) p.elems) →
    first_tables m ≡ Some (map (λ t. map reference t) p.tables) → p.dropped ≡ replicate (length m.segments) false → allocated m ≡ Some (store_with m (first_memory m) p)
allocated_is m p globals elems tables dropped =
    ap (λ o. option_and_then (allocated_with m) o) globals
    ∙ ap (λ o. option_and_then (λ elems. option_map (λ tables. record { globals = map argument p.globals; tables = tables; memory = first_memory m; elems = elems; datas = map (λ s. s.bytes) m.segments }) (first_tables m)) o) elems
    ∙ ap (λ o. option_map (λ tables. record { globals = map argument p.globals; tables = tables; memory = first_memory m; elems = map (λ t. map reference t) p.elems; datas = map (λ s. s.bytes) m.segments }) o) tables
    ∙ ap (λ d. Some (record { globals = map argument p.globals; tables = map (λ t. map reference t) p.tables; memory = first_memory m; elems = map (λ t. map reference t) p.elems; datas = d })) (sym (ap (λ d. datas_of d m.segments) dropped ∙ datas_none m.segments))

pub has_segments : (m : Module) (p : PlainStore) → first_elems m (map argument p.globals) ≡ Some (map (λ t. map reference t) p.elems) → p.dropped ≡ replicate (length m.segments) false → HasSegments m p
has_segments m p elems dropped = record {
  elems = sym (long_map (λ t. map reference t) p.elems) ∙ all-length (λ e. all_of (map (reference_in (map argument p.globals)) e.items)) m.elems (map (λ t. map reference t) p.elems) elems;
  dropped = ap (λ l. length l) dropped ∙ replicated (length m.segments);
}
  where
    replicated : (n : ℕ) → length (replicate n false) ≡ n
    replicated zero = refl
    replicated (suc n) = ap suc (replicated n)

-- ---- pages of the memory, of one more

pub pages_more : (m : Module) (i pages : ℕ) (l : Limits) → PagesSoFar m i pages → slice_get m.memories i ≡ Some l → l.min ≤ 1024 → PagesSoFar m (i + 1) (pages + l.min)
pages_more m i pages l so there small = record {
  few = omega (arith, so.few, small);
  same =
      ap (λ k. replicate {A = ℕ} k 0) together
      ∙ appended (pages * page_bytes) (l.min * page_bytes)
      ∙ ap (λ xs. xs ++ replicate {A = ℕ} (l.min * page_bytes) 0) so.same
      ∙ sym (ap (flat_map (λ limits. replicate {A = ℕ} (limits.min * page_bytes) 0)) (take_next m.memories i l there) ∙ snoc (take i m.memories));
}
  where
    together : (pages + l.min) * page_bytes ≡ pages * page_bytes + l.min * page_bytes
    together = omega arith

    appended : (a b : ℕ) → replicate {A = ℕ} (a + b) 0 ≡ replicate {A = ℕ} a 0 ++ replicate {A = ℕ} b 0
    appended zero b = let e : 0 + b ≡ b = omega arith in rw e refl
    appended (suc a) b = let e : suc a + b ≡ suc (a + b) = omega arith in rw e (ap (λ xs. 0 ∷ xs) (appended a b))

    take_next : (ls : List Limits) (i : ℕ) (l : Limits) → slice_get ls i ≡ Some l → take (i + 1) ls ≡ take i ls ++ l ∷ []
    take_next [] i l is = absurd cc
    take_next (k ∷ ls) zero l is = let same : k ≡ l = cc in rw same refl
    take_next (k ∷ ls) (suc i) l is = let next : suc i + 1 ≡ suc (i + 1) = omega arith in rw next (ap (λ xs. k ∷ xs) (take_next ls i l is))

    snoc : (ls : List Limits) → flat_map (λ limits. replicate {A = ℕ} (limits.min * page_bytes) 0) (ls ++ l ∷ []) ≡ flat_map (λ limits. replicate {A = ℕ} (limits.min * page_bytes) 0) ls ++ replicate {A = ℕ} (l.min * page_bytes) 0
    snoc [] = append-nil (replicate {A = ℕ} (l.min * page_bytes) 0)
    snoc (k ∷ ls) = ap (λ xs. replicate {A = ℕ} (k.min * page_bytes) 0 ++ xs) (snoc ls) ∙ sym (append_assoc (replicate {A = ℕ} (k.min * page_bytes) 0) (flat_map (λ limits. replicate {A = ℕ} (limits.min * page_bytes) 0) ls) (replicate {A = ℕ} (l.min * page_bytes) 0))

-- ---- the globals, in the order of their numbers

-- the first i of the globals have these values, and the others are still to be evaluated
abbrev pub GlobalsSoFar : List GlobalDef → ℕ → List (Value ℕ) → Type 0
GlobalsSoFar gs i done = globals_after [] gs ≡ globals_after done (drop i gs)

pub globals_begin : (gs : List GlobalDef) → GlobalsSoFar gs 0 []
globals_begin gs = refl

pub globals_more : (gs : List GlobalDef) (i : ℕ) (done : List (Value ℕ)) (g : GlobalDef) (v : Value ℕ) → i < length gs → g ≡ get_or gs i g → value_of done g.init ≡ Some v → GlobalsSoFar gs i done → GlobalsSoFar gs (i + 1) (done ++ v ∷ [])
globals_more gs i done g v lt is found h =
    h ∙ ap (globals_after done) (next_is gs i g lt is) ∙ ap (option_and_then (λ v. globals_after (done ++ v ∷ []) (drop (i + 1) gs))) found

pub globals_lack : (gs : List GlobalDef) (i : ℕ) (done : List (Value ℕ)) (g : GlobalDef) → i < length gs → g ≡ get_or gs i g → value_of done g.init ≡ None → GlobalsSoFar gs i done → globals_after [] gs ≡ None
globals_lack gs i done g lt is found h =
    h ∙ ap (globals_after done) (next_is gs i g lt is) ∙ ap (option_and_then (λ v. globals_after (done ++ v ∷ []) (drop (i + 1) gs))) found

pub globals_end : (gs : List GlobalDef) (i : ℕ) (done : List (Value ℕ)) → length gs ≤ i → GlobalsSoFar gs i done → globals_after [] gs ≡ Some done
globals_end gs i done le h = h ∙ ap (globals_after done) (none_left gs i le)
