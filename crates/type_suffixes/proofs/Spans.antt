-- Spans of numbers: that they stay those of the beginnings of their lists, and what one more list leaves true.
use Rattle.std.proofs.Common.{◌≡◌, ℕ, zero, suc, ◌+◌, ◌≤◌, List, [], ◌∷◌, ◌++◌, length, take, refl, sym, ap, ap₂, ◌∙◌, subst, arith}
use Rattle.std.specs.Prelude.{Some, Result, Ok, Err, OnErr, slice_get, slice_index}
use Rattle.std.proofs.lemmas.Option.{same_Some, none-some, get_or_from_slice_get}
use Rattle.std.proofs.lemmas.List.{append-nil, map-append, length-append, take_all, get_or_append_left, get_or-append-add}
use Rattle.wasm_ast.specs.declared.types.ValType.{ValType}
use Rattle.type_suffixes.specs.declared.endings.Span.{Span}
use Rattle.type_suffixes.specs.Words.{word, Keeps, AreBeginnings}
use Rattle.type_suffixes.specs.code.Spans.{list_of, lists_of, IsBegun, AreBegun}

-- what holds of each item and of one more
each-push : (P : Span → Type 0) (xs : List Span) (x : Span) → ((k : ℕ) (y : Span) → slice_get xs k ≡ Some y → P y) → P x → (k : ℕ) (y : Span) → slice_get (xs ++ x ∷ []) k ≡ Some y → P y
each-push P [] x holds here zero y at = subst P (same_Some x y at) here
each-push P [] x holds here (suc k) y at = absurd (none-some y at)
each-push P (z ∷ zs) x holds here zero y at = holds zero y at
each-push P (z ∷ zs) x holds here (suc k) y at = each-push P zs x (λ i. holds (suc i)) here k y at

-- more words and more numbers
list-kept : (all new : List (List ValType)) (numbers more : List ℕ) (span : Span) → IsBegun all numbers span → Keeps all new → list_of new (numbers ++ more) span ≡ list_of all numbers span
list-kept all new numbers more span begun keeps =
    let here : slice_index (numbers ++ more) (span.start + span.count) ≡ slice_index numbers (span.start + span.count) = get_or_append_left numbers more 0 (span.start + span.count) begun.within in
    let whole : take span.count (list_of all numbers span) ≡ list_of all numbers span = take_all span.count (list_of all numbers span) (omega (arith, begun.same_length)) in
    ap (λ (k : ℕ). word new k) here ∙ get_or_from_slice_get new (slice_index numbers (span.start + span.count)) (list_of all numbers span) []
    (keeps _ _ (begun.each span.count (omega arith)) ∙ ap (λ (ts : List ValType). Some ts) whole)

begun-kept : (all new : List (List ValType)) (numbers more : List ℕ) (span : Span) → IsBegun all numbers span → Keeps all new → IsBegun new (numbers ++ more) span
begun-kept all new numbers more span begun keeps =
    let same : list_of new (numbers ++ more) span ≡ list_of all numbers span = list-kept all new numbers more span begun keeps in
    record {
      within = omega (arith, begun.within, length-append numbers more);
      same_length = ap (λ (ts : List ValType). length ts) same ∙ begun.same_length;
      each = λ i le. ap (λ (k : ℕ). slice_get new k) (get_or_append_left numbers more 0 (span.start + i) (omega (arith, le, begun.within))) ∙ keeps _ _ (begun.each i le) ∙ ap (λ (ts : List ValType). Some (take i ts)) (sym same);
    }

lists-kept : (all new : List (List ValType)) (numbers more : List ℕ) (spans : List Span) → AreBegun all numbers spans → Keeps all new → lists_of new (numbers ++ more) spans ≡ lists_of all numbers spans
lists-kept all new numbers more [] begun keeps = refl
lists-kept all new numbers more (s ∷ ss) begun keeps =
    ap₂ (λ (x : List ValType) (xs : List (List ValType)). x ∷ xs) (list-kept all new numbers more s (begun 0 s refl) keeps) (lists-kept all new numbers more ss (λ k. begun (suc k)) keeps)

pub begun_kept : (all new : List (List ValType)) (numbers more longer : List ℕ) (spans : List Span) → AreBegun all numbers spans → Keeps all new → longer ≡ numbers ++ more → AreBegun new longer spans
begun_kept all new numbers more longer spans begun keeps is =
    subst (λ (ns : List ℕ). AreBegun new ns spans) (sym is) (λ k span at. begun-kept all new numbers more span (begun k span at) keeps)

pub lists_kept : (all new : List (List ValType)) (numbers more longer : List ℕ) (spans : List Span) → AreBegun all numbers spans → Keeps all new → longer ≡ numbers ++ more → lists_of new longer spans ≡ lists_of all numbers spans
lists_kept all new numbers more longer spans begun keeps is =
    ap (λ (ns : List ℕ). lists_of new ns spans) is ∙ lists-kept all new numbers more spans begun keeps

-- the numbers alone stay
pub begun_same : (all new : List (List ValType)) (numbers : List ℕ) (spans : List Span) → AreBegun all numbers spans → Keeps all new → AreBegun new numbers spans
begun_same all new numbers spans begun keeps = begun_kept all new numbers [] numbers spans begun keeps (sym (append-nil numbers))

pub lists_same : (all new : List (List ValType)) (numbers : List ℕ) (spans : List Span) → AreBegun all numbers spans → Keeps all new → lists_of new numbers spans ≡ lists_of all numbers spans
lists_same all new numbers spans begun keeps = lists_kept all new numbers [] numbers spans begun keeps (sym (append-nil numbers))

-- one more list
span-at : (new : List (List ValType)) (types : List ValType) (before latest numbers : List ℕ) → before ≡ [] → AreBeginnings new types (length types) before latest → (i : ℕ) → i ≤ length types → slice_get new (slice_index (numbers ++ latest) (length numbers + i)) ≡ Some (take i types)
span-at new types before latest numbers none begins i le =
    let begins_all : AreBeginnings new types (length types) [] latest = subst (λ (b : List ℕ). AreBeginnings new types (length types) b latest) none begins in
    let place : 0 + i ≡ i = omega arith in
    ap (λ (k : ℕ). slice_get new k) (get_or-append-add numbers latest i 0) ∙ subst (λ (j : ℕ). slice_get new (slice_index latest j) ≡ Some (take i types)) place (begins_all.each i le)

span-list : (new : List (List ValType)) (types : List ValType) (before latest numbers : List ℕ) (span : Span) → before ≡ [] → AreBeginnings new types (length types) before latest → span.start ≡ length numbers → span.count ≡ length types → list_of new (numbers ++ latest) span ≡ types
span-list new types before latest numbers span none begins start count =
    let place : span.start + span.count ≡ length numbers + length types = omega (arith, start, count) in
    ap (λ (k : ℕ). word new (slice_index (numbers ++ latest) k)) place ∙ get_or_from_slice_get new (slice_index (numbers ++ latest) (length numbers + length types)) types []
    (span-at new types before latest numbers none begins (length types) (omega arith) ∙ ap (λ (ts : List ValType). Some ts) (take_all (length types) types (omega arith)))

span-begun : (new : List (List ValType)) (types : List ValType) (before latest numbers : List ℕ) (span : Span) → before ≡ [] → AreBeginnings new types (length types) before latest → span.start ≡ length numbers → span.count ≡ length types → IsBegun new (numbers ++ latest) span
span-begun new types before latest numbers span none begins start count =
    let same : list_of new (numbers ++ latest) span ≡ types = span-list new types before latest numbers span none begins start count in
    let empty : length before ≡ 0 = ap (λ (b : List ℕ). length b) none in
    record {
      within = omega (arith, start, count, begins.count, empty, length-append numbers latest);
      same_length = ap (λ (ts : List ValType). length ts) same ∙ sym count;
      each = λ i le.
          let place : span.start + i ≡ length numbers + i = omega (arith, start) in
          ap (λ (k : ℕ). slice_get new (slice_index (numbers ++ latest) k)) place ∙ span-at new types before latest numbers none begins i (omega (arith, le, count)) ∙ ap (λ (ts : List ValType). Some (take i ts)) (sym same);
    }

pub begun_push : (all new : List (List ValType)) (types : List ValType) (before latest numbers longer : List ℕ) (spans more : List Span) (span : Span) → AreBegun all numbers spans → Keeps all new → before ≡ [] → AreBeginnings new types (length types) before latest →
    span.start ≡ length numbers → span.count ≡ length types → longer ≡ numbers ++ latest → more ≡ spans ++ span ∷ [] → AreBegun new longer more
begun_push all new types before latest numbers longer spans more span begun keeps none begins start count is pushed =
    subst (λ (ss : List Span). AreBegun new longer ss) (sym pushed) (each-push (IsBegun new longer) spans span (begun_kept all new numbers latest longer spans begun keeps is)
    (subst (λ (ns : List ℕ). IsBegun new ns span) (sym is) (span-begun new types before latest numbers span none begins start count)))

pub lists_push : (all new : List (List ValType)) (types : List ValType) (before latest numbers longer : List ℕ) (spans more : List Span) (span : Span) → AreBegun all numbers spans → Keeps all new → before ≡ [] → AreBeginnings new types (length types) before latest →
    span.start ≡ length numbers → span.count ≡ length types → longer ≡ numbers ++ latest → more ≡ spans ++ span ∷ [] → lists_of new longer more ≡ lists_of all numbers spans ++ types ∷ []
lists_push all new types before latest numbers longer spans more span begun keeps none begins start count is pushed =
    ap (λ (ss : List Span). lists_of new longer ss) pushed ∙ map-append (list_of new longer) spans (span ∷ []) ∙
    ap₂ (λ (xs : List (List ValType)) (x : List ValType). xs ++ x ∷ []) (lists_kept all new numbers latest longer spans begun keeps is)
    (ap (λ (ns : List ℕ). list_of new ns span) is ∙ span-list new types before latest numbers span none begins start count)

-- what holds anyway holds where there is an error
pub on_err : {A E : Type 0} (r : Result A E) (P : Type 0) → P → OnErr r P
on_err (Ok x) P p = search
on_err (Err e) P p = p
