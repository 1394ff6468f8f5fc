-- Tables and segments.
use Rattle.std.proofs.Common.{◌≡◌, ℕ, zero, suc, ◌+◌, ◌<◌, ◌≤◌, List, [], ◌∷◌, length, map, get_or, refl, sym, ap, ◌∙◌, arith, ◌≢◌, ◌^◌, take, drop}
use Rattle.std.proofs.lemmas.List.{map-set, with_items_is, set-set, length-set, length-take-le, get_or-take, get_or-drop}
use Rattle.std.specs.Vec.{with_items}
use Rattle.std.specs.Prelude.{Vec, Bool, true, false, Some, None, slice_get, slice_set, unwrap_or}
use Rattle.wasm_ast.specs.declared.modules.Segment.{Segment}
use Rattle.wasm_reduction.specs.Combinators.{written, part}
use Rattle.wasm_machine.specs.Configurations.{datas_of}
use Rattle.wasm_machine.proofs.CellLemmas.{length-part, length-written, written-nothing}
use Rattle.wasm_machine.proofs.CellLemmas.{written_more}

-- ---- one list of several

module _ {R Z : Type 0} where
  pub list-put : (vs : List (Vec R Z)) (x : ℕ) (w : Vec R Z) (new : List R) → w.items ≡ new → map (λ (v : Vec R Z). v.items) (slice_set vs x w) ≡ slice_set (map (λ (v : Vec R Z). v.items) vs) x new
  list-put vs x w new e = map-set (λ (v : Vec R Z). v.items) vs x w ∙ ap (slice_set (map (λ (v : Vec R Z). v.items) vs) x) e

  -- the list that stands there
  pub list-got : (vs : List (Vec R Z)) (x : ℕ) (t : Vec R Z) → x < length (map (λ (v : Vec R Z). v.items) vs) → t ≡ get_or vs x t → unwrap_or (slice_get (map (λ (v : Vec R Z). v.items) vs) x) [] ≡ t.items
  list-got [] x t h e = absurd (omega arith)
  list-got (v ∷ vs) zero t h e = ap (λ (v : Vec R Z). v.items) (sym e)
  list-got (v ∷ vs) (suc x) t h e = list-got vs x t (omega (arith, h)) e

  -- the list that stands there is made anew, with as many items
  pub list-made : (vs : List (Vec R Z)) (x : ℕ) (t : Vec R Z) (now new : List R) (made : List R → List R) → x < length (map (λ (v : Vec R Z). v.items) vs) → t ≡ get_or vs x t → now ≡ t.items → new ≡ made now → length new ≡ length now
      → map (λ (v : Vec R Z). v.items) (slice_set vs x (with_items t new)) ≡ slice_set (map (λ (v : Vec R Z). v.items) vs) x (made (unwrap_or (slice_get (map (λ (v : Vec R Z). v.items) vs) x) []))
  list-made vs x t now new made h e was is long =
      list-put vs x (with_items t new) (made (unwrap_or (slice_get (map (λ (v : Vec R Z). v.items) vs) x) []))
      (with_items_is t new (long ∙ ap length was ∙ sym t.ok.0) ∙ is ∙ ap made (was ∙ sym (list-got vs x t h e)))

  -- no list is longer than the memory
  pub list-short : (vs : List (Vec R Z)) (x : ℕ) → length (unwrap_or (slice_get (map (λ (v : Vec R Z). v.items) vs) x) []) < 2 ^ 63
  list-short [] x = omega arith
  list-short (v ∷ vs) zero = omega (arith, v.ok.0, v.ok.1, v.small)
  list-short (v ∷ vs) (suc x) = list-short vs x

  pub list-same : (vs : List (Vec R Z)) (x : ℕ) (t w : Vec R Z) → x < length (map (λ (v : Vec R Z). v.items) vs) → t ≡ get_or vs x t → w.items ≡ t.items → map (λ (v : Vec R Z). v.items) (slice_set vs x w) ≡ map (λ (v : Vec R Z). v.items) vs
  list-same [] x t w h e f = absurd (omega arith)
  list-same (v ∷ vs) zero t w h e f = ap (λ l. l ∷ map (λ (v : Vec R Z). v.items) vs) (f ∙ ap (λ (v : Vec R Z). v.items) e)
  list-same (v ∷ vs) (suc x) t w h e f = ap (λ l. v.items ∷ l) (list-same vs x t w (omega (arith, h)) e f)

-- ---- one list is set, and another one or the same is looked at

pub list-other : {X : Type 0} (ls : List (List X)) (x y : ℕ) (l : List X) → y ≢ x → unwrap_or (slice_get (slice_set ls x l) y) [] ≡ unwrap_or (slice_get ls y) []
list-other [] x y l h = refl
list-other (k ∷ ls) zero zero l h = absurd (h refl)
list-other (k ∷ ls) zero (suc y) l h = refl
list-other (k ∷ ls) (suc x) zero l h = refl
list-other (k ∷ ls) (suc x) (suc y) l h = list-other ls x y l (λ e. h (ap suc e))

pub list-same_at : {X : Type 0} (ls : List (List X)) (x : ℕ) (l : List X) → x < length ls → unwrap_or (slice_get (slice_set ls x l) x) [] ≡ l
list-same_at [] x l h = absurd (omega arith)
list-same_at (k ∷ ls) zero l h = refl
list-same_at (k ∷ ls) (suc x) l h = list-same_at ls x l (omega (arith, h))

-- ---- items of one list are written over those of another, one after another

across-none : {X : Type 0} (ls : List (List X)) (x : ℕ) → slice_set ls x (unwrap_or (slice_get ls x) []) ≡ ls
across-none [] x = refl
across-none (l ∷ ls) zero = refl
across-none (l ∷ ls) (suc x) = ap (λ ks. l ∷ ks) (across-none ls x)

pub across-starts : {X : Type 0} (ls : List (List X)) (x to : ℕ) → ls ≡ slice_set ls x (written to [] (unwrap_or (slice_get ls x) []))
across-starts ls x to = sym (ap (slice_set ls x) (written-nothing to (unwrap_or (slice_get ls x) [])) ∙ across-none ls x)

module _ {X : Type 0} (old now : List (List X)) (x y to from count i : ℕ) (other : y ≢ x) (there : x < length old)
    (from_within : from + count ≤ length (unwrap_or (slice_get old y) [])) (to_within : to + count ≤ length (unwrap_or (slice_get old x) []))
    (more : i < count)
    (so_far : now ≡ slice_set old x (written to (take i (part from count (unwrap_or (slice_get old y) []))) (unwrap_or (slice_get old x) []))) where
  pub across-source : unwrap_or (slice_get now y) [] ≡ unwrap_or (slice_get old y) []
  across-source = ap (λ ls. unwrap_or (slice_get ls y) []) so_far ∙ list-other old x y _ other

  pub across-target : unwrap_or (slice_get now x) [] ≡ written to (take i (part from count (unwrap_or (slice_get old y) []))) (unwrap_or (slice_get old x) [])
  across-target = ap (λ ls. unwrap_or (slice_get ls x) []) so_far ∙ list-same_at old x _ there

  counted : length (part from count (unwrap_or (slice_get old y) [])) ≡ count
  counted = length-part from count (unwrap_or (slice_get old y) []) from_within

  taken : length (take i (part from count (unwrap_or (slice_get old y) []))) ≡ i
  taken = length-take-le i (part from count (unwrap_or (slice_get old y) [])) (omega (arith, more, counted))

  pub across-target_length : length (unwrap_or (slice_get now x) []) ≡ length (unwrap_or (slice_get old x) [])
  across-target_length = ap length across-target ∙ length-written to (take i (part from count (unwrap_or (slice_get old y) []))) (unwrap_or (slice_get old x) []) (omega (arith, taken, more, to_within))

  pub across-length : length now ≡ length old
  across-length = ap length so_far ∙ length-set old x _

  pub across-more : (new : List (List X)) (r : X) → ((d : X) → get_or (unwrap_or (slice_get now y) []) (from + i) d ≡ r)
      → new ≡ slice_set now x (slice_set (unwrap_or (slice_get now x) []) (to + i) r)
      → new ≡ slice_set old x (written to (take (i + 1) (part from count (unwrap_or (slice_get old y) []))) (unwrap_or (slice_get old x) []))
  across-more new r got put =
      let source = part from count (unwrap_or (slice_get old y) []) in
      let item : get_or source i r ≡ r =
      get_or-take count (drop from (unwrap_or (slice_get old y) [])) i r more ∙ get_or-drop from (unwrap_or (slice_get old y) []) i r
      ∙ ap (λ l. get_or l (from + i) r) (sym across-source) ∙ got r in
      put
      ∙ ap (λ l. slice_set now x (slice_set l (to + i) r)) across-target
      ∙ ap (λ ls. slice_set ls x (slice_set (written to (take i source) (unwrap_or (slice_get old x) [])) (to + i) r)) so_far
      ∙ set-set old x _ _
      ∙ ap (λ v. slice_set old x (slice_set (written to (take i source) (unwrap_or (slice_get old x) [])) (to + i) v)) (sym item)
      ∙ ap (slice_set old x) (written_more to i source (unwrap_or (slice_get old x) []) r (omega (arith, counted, to_within)) (omega (arith, counted, more)))

-- ---- data segments

pub data_none : (dropped : List Bool) (segments : List Segment) (x : ℕ) → None ≡ slice_get dropped x → slice_get (datas_of dropped segments) x ≡ None
data_none [] segments x e = refl
data_none (d ∷ ds) [] zero e = cc
data_none (d ∷ ds) [] (suc x) e = data_none ds [] x e
data_none (true ∷ ds) (g ∷ gs) zero e = cc
data_none (false ∷ ds) (g ∷ gs) zero e = cc
data_none (true ∷ ds) (g ∷ gs) (suc x) e = data_none ds gs x e
data_none (false ∷ ds) (g ∷ gs) (suc x) e = data_none ds gs x e

pub data_dropped : (dropped : List Bool) (segments : List Segment) (x : ℕ) → Some true ≡ slice_get dropped x → slice_get (datas_of dropped segments) x ≡ Some []
data_dropped [] segments x e = cc
data_dropped (d ∷ ds) [] zero e = refl
data_dropped (d ∷ ds) [] (suc x) e = data_dropped ds [] x e
data_dropped (true ∷ ds) (g ∷ gs) zero e = refl
data_dropped (false ∷ ds) (g ∷ gs) zero e = cc
data_dropped (true ∷ ds) (g ∷ gs) (suc x) e = data_dropped ds gs x e
data_dropped (false ∷ ds) (g ∷ gs) (suc x) e = data_dropped ds gs x e

pub data_past : (dropped : List Bool) (segments : List Segment) (x : ℕ) → Some false ≡ slice_get dropped x → slice_get segments x ≡ None → slice_get (datas_of dropped segments) x ≡ Some []
data_past [] segments x e f = cc
data_past (d ∷ ds) [] zero e f = refl
data_past (d ∷ ds) [] (suc x) e f = data_past ds [] x e refl
data_past (true ∷ ds) (g ∷ gs) zero e f = cc
data_past (false ∷ ds) (g ∷ gs) zero e f = cc
data_past (true ∷ ds) (g ∷ gs) (suc x) e f = data_past ds gs x e f
data_past (false ∷ ds) (g ∷ gs) (suc x) e f = data_past ds gs x e f

pub data_there : (dropped : List Bool) (segments : List Segment) (x : ℕ) (g : Segment) → Some false ≡ slice_get dropped x → slice_get segments x ≡ Some g → slice_get (datas_of dropped segments) x ≡ Some g.bytes
data_there [] segments x g e f = cc
data_there (d ∷ ds) [] x g e f = cc
data_there (true ∷ ds) (h ∷ gs) zero g e f = cc
data_there (false ∷ ds) (h ∷ gs) zero g e f = let same : h ≡ g = cc in ap (λ (s : Segment). Some s.bytes) same
data_there (true ∷ ds) (h ∷ gs) (suc x) g e f = data_there ds gs x g e f
data_there (false ∷ ds) (h ∷ gs) (suc x) g e f = data_there ds gs x g e f

-- some bytes, where the segment is one of these, dropped or not
pub data_some : (dropped : List Bool) (segments : List Segment) (x : ℕ) (d : Bool) → Some d ≡ slice_get dropped x → (bytes : List ℕ) × (slice_get (datas_of dropped segments) x ≡ Some bytes)
data_some [] segments x d e = cc
data_some (b ∷ ds) [] zero d e = ([], refl)
data_some (b ∷ ds) [] (suc x) d e = data_some ds [] x d e
data_some (true ∷ ds) (g ∷ gs) zero d e = ([], refl)
data_some (false ∷ ds) (g ∷ gs) zero d e = (g.bytes, refl)
data_some (true ∷ ds) (g ∷ gs) (suc x) d e = data_some ds gs x d e
data_some (false ∷ ds) (g ∷ gs) (suc x) d e = data_some ds gs x d e

-- the bytes once a segment is dropped
pub data_set : (dropped : List Bool) (segments : List Segment) (x : ℕ) → datas_of (slice_set dropped x true) segments ≡ slice_set (datas_of dropped segments) x []
data_set [] segments x = refl
data_set (b ∷ ds) [] zero = refl
data_set (b ∷ ds) [] (suc x) = ap (λ l. [] ∷ l) (data_set ds [] x)
data_set (true ∷ ds) (g ∷ gs) zero = refl
data_set (false ∷ ds) (g ∷ gs) zero = refl
data_set (true ∷ ds) (g ∷ gs) (suc x) = ap (λ l. [] ∷ l) (data_set ds gs x)
data_set (false ∷ ds) (g ∷ gs) (suc x) = ap (λ l. g.bytes ∷ l) (data_set ds gs x)
