-- That words are linked: what one more word, and one in the place of another, leave true.
use Rattle.std.proofs.Common.{◌≡◌, ℕ, zero, suc, ◌+◌, ◌<◌, List, [], ◌∷◌, ◌++◌, ◌⊎◌, inl, inr, length, get_or, eqb, set, refl, sym, ap, ◌∙◌, subst, arith, append_assoc, eqb-true}
use Rattle.std.specs.Prelude.{true, Some, slice_get}
use Rattle.std.proofs.lemmas.Option.{same_Some, none-some, slice_get_within, slice_get-get_or}
use Rattle.std.proofs.lemmas.List.{append-nil, length-set, length_push, get_or_append_left, get_or_push}
use Rattle.wasm_ast.specs.declared.types.ValType.{ValType}
use Rattle.wasm_ast.specs.declared.types.ValType.TheVariants.{I32, I64, FuncRef, ExternRef}
use Rattle.type_suffixes.specs.declared.words.Word.{Word}
use Rattle.type_suffixes.specs.Words.{word, EndsWith, Keeps}
use Rattle.type_suffixes.specs.code.Links.{spelled_on, spelled, after_of, leading, IsLink, HasLinks, IsMade, AreLinked, IsTree, IsSameWord, IsSpelled}

-- lists and their ends
pub ends-all : (types : List ValType) → EndsWith types []
ends-all types = (types, sym (append-nil types))

pub ends-self : (types : List ValType) → EndsWith types types
ends-self types = ([], refl)

pub ends-trans : (a b c : List ValType) → EndsWith a b → EndsWith b c → EndsWith a c
ends-trans a b c p q = (p.0 ++ q.0, p.1 ∙ ap (λ (z : List ValType). p.0 ++ z) q.1 ∙ sym (append_assoc p.0 q.0 c))

pub ends-more : (a b x : List ValType) → EndsWith a b → EndsWith (a ++ x) (b ++ x)
ends-more a b x p = (p.0, ap (λ (z : List ValType). z ++ x) p.1 ∙ append_assoc p.0 b x)

-- what holds of each type
pub four : (P : ValType → Type 0) → P I32 → P I64 → P FuncRef → P ExternRef → (t : ValType) → P t
four P a b c d I32 = a
four P a b c d I64 = b
four P a b c d FuncRef = c
four P a b c d ExternRef = d

-- what holds of each item, by its place, after a write and a push
each-set : (P : ℕ → Word → Type 0) (xs : List Word) (k : ℕ) (x : Word) → ((j : ℕ) (y : Word) → slice_get xs j ≡ Some y → P j y) → P k x → (j : ℕ) (y : Word) → slice_get (set xs k x) j ≡ Some y → P j y
each-set P [] k x holds here j y at = holds j y at
each-set P (z ∷ zs) zero x holds here zero y at = subst (P zero) (same_Some x y at) here
each-set P (z ∷ zs) zero x holds here (suc j) y at = holds (suc j) y at
each-set P (z ∷ zs) (suc k) x holds here zero y at = holds zero y at
each-set P (z ∷ zs) (suc k) x holds here (suc j) y at = each-set (λ i. P (suc i)) zs k x (λ i. holds (suc i)) here j y at

each-push : (P : ℕ → Word → Type 0) (xs : List Word) (x : Word) → ((j : ℕ) (y : Word) → slice_get xs j ≡ Some y → P j y) → P (length xs) x → (j : ℕ) (y : Word) → slice_get (xs ++ x ∷ []) j ≡ Some y → P j y
each-push P [] x holds here zero y at = subst (P zero) (same_Some x y at) here
each-push P [] x holds here (suc j) y at = absurd (none-some y at)
each-push P (z ∷ zs) x holds here zero y at = holds zero y at
each-push P (z ∷ zs) x holds here (suc j) y at = each-push (λ i. P (suc i)) zs x (λ i. holds (suc i)) here j y at

-- spelling
spelled_on-push : (all : List (List ValType)) (ws : List Word) (w : Word) → spelled_on all (ws ++ w ∷ []) ≡ spelled_on all ws ++ (word (spelled_on all ws) w.before ++ w.last ∷ []) ∷ []
spelled_on-push all [] w = refl
spelled_on-push all (v ∷ ws) w = spelled_on-push (all ++ (word all v.before ++ v.last ∷ []) ∷ []) ws w

pub spelled_push : (ws : List Word) (w : Word) → 0 < length ws → spelled (ws ++ w ∷ []) ≡ spelled ws ++ (word (spelled ws) w.before ++ w.last ∷ []) ∷ []
spelled_push [] w some = absurd (omega arith)
spelled_push (v ∷ ws) w some = spelled_on-push ([] ∷ []) ws w

same-spelling : (all : List (List ValType)) (old new : Word) → IsSameWord old new → word all new.before ++ new.last ∷ [] ≡ word all old.before ++ old.last ∷ []
same-spelling all old new same = ap (λ (b : ℕ). word all b ++ new.last ∷ []) same.before ∙ ap (λ (t : ValType). word all old.before ++ t ∷ []) same.last

spelled_on-set : (all : List (List ValType)) (ws : List Word) (k : ℕ) (old new : Word) → slice_get ws k ≡ Some old → IsSameWord old new → spelled_on all (set ws k new) ≡ spelled_on all ws
spelled_on-set all [] k old new at same = refl
spelled_on-set all (w ∷ ws) zero old new at same =
    ap (λ (x : List ValType). spelled_on (all ++ x ∷ []) ws) (same-spelling all old new same ∙ ap (λ (v : Word). word all v.before ++ v.last ∷ []) (sym (same_Some w old at)))
spelled_on-set all (w ∷ ws) (suc k) old new at same = spelled_on-set (all ++ (word all w.before ++ w.last ∷ []) ∷ []) ws k old new at same

spelled-set : (ws : List Word) (k : ℕ) (old new : Word) → slice_get ws k ≡ Some old → IsSameWord old new → spelled (set ws k new) ≡ spelled ws
spelled-set [] k old new at same = refl
spelled-set (w ∷ ws) zero old new at same = refl
spelled-set (w ∷ ws) (suc k) old new at same = spelled_on-set ([] ∷ []) ws k old new at same

-- links
pub link-through : (all : List (List ValType)) (a b : List ValType) (k : ℕ) → EndsWith a b → IsLink all b k → IsLink all a k
link-through all a b k p l = record { within = l.within; ends = ends-trans a b (word all k) p l.ends }

-- one link after another
pub link_link : (all : List (List ValType)) (types : List ValType) (j k : ℕ) → IsLink all types j → IsLink all (word all j) k → IsLink all types k
link_link all types j k l m = link-through all types (word all j) k l.ends m

-- a link, and then on by a type
pub link_on : (all : List (List ValType)) (types : List ValType) (t : ValType) (j k : ℕ) → IsLink all types j → IsLink all (word all j ++ t ∷ []) k → IsLink all (types ++ t ∷ []) k
link_on all types t j k l m = link-through all (types ++ t ∷ []) (word all j ++ t ∷ []) k (ends-more types (word all j) (t ∷ []) l.ends) m

pub link_self : (all : List (List ValType)) (k : ℕ) → k < length all → IsLink all (word all k) k
link_self all k lt = record { within = lt; ends = ends-self (word all k) }

link-empty : (all : List (List ValType)) (types : List ValType) → 0 < length all → word all 0 ≡ [] → IsLink all types 0
link-empty all types some empty = record { within = some; ends = subst (EndsWith types) (sym empty) (ends-all types) }

pub link_zero : (ws : List Word) (types : List ValType) → IsTree ws → IsLink (spelled ws) types 0
link_zero ws types tree = link-empty (spelled ws) types (omega (arith, tree.some, tree.same_length)) tree.empty

link-push : (all : List (List ValType)) (x types : List ValType) (k : ℕ) → IsLink all types k → IsLink (all ++ x ∷ []) types k
link-push all x types k l = record {
  within = omega (arith, l.within, length_push all x);
  ends = subst (EndsWith types) (sym (get_or_append_left all (x ∷ []) [] k l.within)) l.ends;
}

links-push : (all : List (List ValType)) (x types : List ValType) (w : Word) → HasLinks all types w → HasLinks (all ++ x ∷ []) types w
links-push all x types w h = record {
  end = link-push all x types w.end h.end;
  far = link-push all x types w.far h.far;
  after = λ t. link-push all x (types ++ t ∷ []) (after_of w t) (h.after t);
}

-- one word in the place of another
same-made : (all : List (List ValType)) (types : List ValType) (old new : Word) → IsSameWord old new → IsMade all types old → IsMade all types new
same-made all types old new same made = record { within = subst (λ (b : ℕ). b < length all) (sym same.before) made.within; is = made.is ∙ sym (same-spelling all old new same) }

linked-set : (all : List (List ValType)) (ws : List Word) (k : ℕ) (old new : Word) → AreLinked all ws → slice_get ws k ≡ Some old → IsSameWord old new → HasLinks all (word all k) new → AreLinked all (set ws k new)
linked-set all ws k old new tree at same links = record {
  some = omega (arith, tree.some, length-set ws k new);
  same_length = tree.same_length ∙ sym (length-set ws k new);
  empty = tree.empty;
  made = λ j w lt there. each-set (λ i v. 0 < i → IsMade all (word all i) v) ws k new (λ i v is le. tree.made i v le is) (λ le. same-made all (word all k) old new same (tree.made k old le at)) j w there lt;
  links = each-set (λ i v. HasLinks all (word all i) v) ws k new tree.links links;
}

pub tree_set : (ws : List Word) (k : ℕ) (new : Word) → IsTree ws → k < length (spelled ws) → ((old : Word) → slice_get ws k ≡ Some old → IsSameWord old new) → HasLinks (spelled ws) (word (spelled ws) k) new → (IsTree (set ws k new)) × (spelled (set ws k new) ≡ spelled ws)
tree_set ws k new tree lt same links =
    let old : Word = get_or ws k new in
    let at : slice_get ws k ≡ Some old = slice_get-get_or ws k new (omega (arith, lt, tree.same_length)) in
    let is : spelled (set ws k new) ≡ spelled ws = spelled-set ws k old new at (same old at) in
    (subst (λ (all : List (List ValType)). AreLinked all (set ws k new)) (sym is) (linked-set (spelled ws) ws k old new tree at (same old at) links), is)

-- one more word
linked-push : (all : List (List ValType)) (ws : List Word) (w : Word) → AreLinked all ws → w.before < length all → w.end ≡ 0 → w.far ≡ 0 → ((t : ValType) → after_of w t ≡ 0) → AreLinked (all ++ (word all w.before ++ w.last ∷ []) ∷ []) (ws ++ w ∷ [])
linked-push all ws w tree within end far after =
    let x : List ValType = word all w.before ++ w.last ∷ [] in
    let some : 0 < length (all ++ x ∷ []) = omega (arith, length_push all x) in
    let empty : word (all ++ x ∷ []) 0 ≡ [] = get_or_append_left all (x ∷ []) [] 0 (omega (arith, tree.some, tree.same_length)) ∙ tree.empty in
    let zero_link : (types : List ValType) (k : ℕ) → k ≡ 0 → IsLink (all ++ x ∷ []) types k = λ types k e. subst (IsLink (all ++ x ∷ []) types) (sym e) (link-empty (all ++ x ∷ []) types some empty) in
    let below : (j : ℕ) (y : Word) → slice_get ws j ≡ Some y → word (all ++ x ∷ []) j ≡ word all j = λ j y at. get_or_append_left all (x ∷ []) [] j (omega (arith, slice_get_within ws j y at, tree.same_length)) in
    record {
      some = omega (arith, length_push ws w);
      same_length = length_push all x ∙ ap (λ (n : ℕ). n + 1) tree.same_length ∙ sym (length_push ws w);
      empty = empty;
      made = λ j v lt there. each-push (λ i y. 0 < i → IsMade (all ++ x ∷ []) (word (all ++ x ∷ []) i) y) ws w
          (λ i y at le. record {
            within = omega (arith, (tree.made i y le at).within, length_push all x);
            is = below i y at ∙ (tree.made i y le at).is ∙ ap (λ (z : List ValType). z ++ y.last ∷ []) (sym (get_or_append_left all (x ∷ []) [] y.before (tree.made i y le at).within));
          })
          (λ le. record {
            within = omega (arith, within, length_push all x);
            is = get_or_push all x [] (length ws) tree.same_length ∙ ap (λ (z : List ValType). z ++ w.last ∷ []) (sym (get_or_append_left all (x ∷ []) [] w.before within));
          }) j v there lt;
      links = each-push (λ i y. HasLinks (all ++ x ∷ []) (word (all ++ x ∷ []) i) y) ws w
          (λ i y at. subst (λ (ts : List ValType). HasLinks (all ++ x ∷ []) ts y) (sym (below i y at)) (links-push all x (word all i) y (tree.links i y at)))
          (record {
            end = zero_link (word (all ++ x ∷ []) (length ws)) w.end end;
            far = zero_link (word (all ++ x ∷ []) (length ws)) w.far far;
            after = λ t. zero_link (word (all ++ x ∷ []) (length ws) ++ t ∷ []) (after_of w t) (after t);
          });
    }

pub tree_push : (ws : List Word) (w : Word) → IsTree ws → w.before < length (spelled ws) → w.end ≡ 0 → w.far ≡ 0 → ((t : ValType) → after_of w t ≡ 0) → IsTree (ws ++ w ∷ [])
tree_push ws w tree within end far after =
    subst (λ (all : List (List ValType)). AreLinked all (ws ++ w ∷ [])) (sym (spelled_push ws w tree.some)) (linked-push (spelled ws) ws w tree within end far after)

-- the first word alone
pub tree_first : (w : Word) → w.end ≡ 0 → w.far ≡ 0 → ((t : ValType) → after_of w t ≡ 0) → IsTree (w ∷ [])
tree_first w end far after =
    let zero_link : (types : List ValType) (k : ℕ) → k ≡ 0 → IsLink ([] ∷ []) types k = λ types k e. subst (IsLink ([] ∷ []) types) (sym e) (link-empty ([] ∷ []) types (omega arith) refl) in
    let links : HasLinks ([] ∷ []) [] w = record { end = zero_link [] w.end end; far = zero_link [] w.far far; after = λ t. zero_link (t ∷ []) (after_of w t) (after t) } in
    record {
      some = omega arith;
      same_length = refl;
      empty = refl;
      made = λ j v lt there. first-made j v lt there;
      links = first-links links;
    }
  where
    first-made : (j : ℕ) (v : Word) → 0 < j → slice_get (w ∷ []) j ≡ Some v → IsMade ([] ∷ []) (word ([] ∷ []) j) v
    first-made zero v lt there = absurd (omega arith)
    first-made (suc j) v lt there = absurd (none-some v there)

    first-links : HasLinks ([] ∷ []) [] w → (j : ℕ) (v : Word) → slice_get (w ∷ []) j ≡ Some v → HasLinks ([] ∷ []) (word ([] ∷ []) j) v
    first-links links zero v there = subst (HasLinks ([] ∷ []) []) (same_Some w v there) links
    first-links links (suc j) v there = absurd (none-some v there)

-- a word that leads on by a type
pub leads : (P : ValType → ℕ → Type 0) (w : Word) (t : ValType) (k : ℕ) → ((u : ValType) → P u (after_of w u)) → P t k → (u : ValType) → P u (after_of (leading w t k) u)
leads P w I32 k holds here = four (λ u. P u (after_of (leading w I32 k) u)) here (holds I64) (holds FuncRef) (holds ExternRef)
leads P w I64 k holds here = four (λ u. P u (after_of (leading w I64 k) u)) (holds I32) here (holds FuncRef) (holds ExternRef)
leads P w FuncRef k holds here = four (λ u. P u (after_of (leading w FuncRef k) u)) (holds I32) (holds I64) here (holds ExternRef)
leads P w ExternRef k holds here = four (λ u. P u (after_of (leading w ExternRef k) u)) (holds I32) (holds I64) (holds FuncRef) here

pub leading_same : (w : Word) (t : ValType) (k : ℕ) → IsSameWord w (leading w t k)
leading_same w I32 k = record { before = refl; last = refl }
leading_same w I64 k = record { before = refl; last = refl }
leading_same w FuncRef k = record { before = refl; last = refl }
leading_same w ExternRef k = record { before = refl; last = refl }

leading-end : (w : Word) (t : ValType) (k : ℕ) → (w.end ≡ (leading w t k).end) × (w.far ≡ (leading w t k).far)
leading-end w I32 k = (refl, refl)
leading-end w I64 k = (refl, refl)
leading-end w FuncRef k = (refl, refl)
leading-end w ExternRef k = (refl, refl)

pub leading_links : (all : List (List ValType)) (types : List ValType) (w : Word) (t : ValType) (k : ℕ) → HasLinks all types w → IsLink all (types ++ t ∷ []) k → HasLinks all types (leading w t k)
leading_links all types w t k h l = record {
  end = subst (IsLink all types) (leading-end w t k).0 h.end;
  far = subst (IsLink all types) (leading-end w t k).1 h.far;
  after = leads (λ u j. IsLink all (types ++ u ∷ []) j) w t k h.after l;
}

-- a word with its links
pub linked_links : (all : List (List ValType)) (types : List ValType) (w e new : Word) (end far : ℕ) → HasLinks all types w → IsLink all types end → HasLinks all (word all end) e → IsLink all (word all end) far → new.end ≡ end → new.far ≡ far →
    ((t : ValType) → (after_of new t ≡ after_of w t) ⊎ (after_of new t ≡ after_of e t)) → HasLinks all types new
linked_links all types w e new end far own l other m is_end is_far after = record {
  end = subst (IsLink all types) (sym is_end) l;
  far = subst (IsLink all types) (sym is_far) (link_link all types end far l m);
  after = λ t. elim (after t) as (λ _. IsLink all (types ++ t ∷ []) (after_of new t)) [
    | inl p ↦ subst (IsLink all (types ++ t ∷ [])) (sym p) (own.after t)
    | inr q ↦ subst (IsLink all (types ++ t ∷ [])) (sym q) (link_on all types t end (after_of e t) l (other.after t))
  ];
}

-- the word that goes on from another by a type
pub next_spelled : (ws : List Word) (from : ℕ) (t : ValType) (k : ℕ) (w : Word) → IsTree ws → 0 < k → slice_get ws k ≡ Some w → w.before ≡ from → w.last ≡ t → IsSpelled (spelled ws) (word (spelled ws) from ++ t ∷ []) k
next_spelled ws from t k w tree lt at before last = record {
  within = omega (arith, slice_get_within ws k w at, tree.same_length);
  is = (tree.made k w lt at).is ∙ ap (λ (b : ℕ). word (spelled ws) b ++ w.last ∷ []) before ∙ ap (λ (u : ValType). word (spelled ws) from ++ u ∷ []) last;
}

-- a word of a number, as an item of all words
pub spelled_get : (all : List (List ValType)) (types : List ValType) (k : ℕ) → IsSpelled all types k → slice_get all k ≡ Some types
spelled_get all types k s = slice_get-get_or all k [] s.within ∙ ap (λ (ts : List ValType). Some ts) s.is

pub keeps_push : (all : List (List ValType)) (x : List ValType) → Keeps all (all ++ x ∷ [])
keeps_push [] x k types at = absurd (none-some types at)
keeps_push (y ∷ ys) x zero types at = at
keeps_push (y ∷ ys) x (suc k) types at = keeps_push ys x k types at

pub keeps_trans : (a b c : List (List ValType)) → Keeps a b → Keeps b c → Keeps a c
keeps_trans a b c p q k types at = q k types (p k types at)

-- what the code's functions owe, over the words before and after
pub at_is : (ws : List Word) (k : ℕ) (w : Word) → IsTree ws → k < length (spelled ws) → w ≡ get_or ws k w → slice_get ws k ≡ Some w
at_is ws k w tree lt is = slice_get-get_or ws k w (omega (arith, lt, tree.same_length)) ∙ ap (λ (v : Word). Some v) (sym is)

pub at_links : (ws : List Word) (k : ℕ) (w : Word) → IsTree ws → k < length (spelled ws) → w ≡ get_or ws k w → HasLinks (spelled ws) (word (spelled ws) k) w
at_links ws k w tree lt is = tree.links k w (at_is ws k w tree lt is)

pub word_there : (ws : List Word) (k : ℕ) → IsTree ws → k < length ws → k < length (spelled ws)
word_there ws k tree lt = omega (arith, lt, tree.same_length)

pub there_word : (ws : List Word) (k : ℕ) → IsTree ws → k < length (spelled ws) → k < length ws
there_word ws k tree lt = omega (arith, lt, tree.same_length)

pub counted : (ws : List Word) (n : ℕ) → IsTree ws → n ≡ length ws → n ≡ length (spelled ws)
counted ws n tree is = is ∙ sym tree.same_length

pub same_word : (ws : List Word) (k : ℕ) (w old new : Word) → slice_get ws k ≡ Some w → IsSameWord w new → slice_get ws k ≡ Some old → IsSameWord old new
same_word ws k w old new at same there = subst (λ (v : Word). IsSameWord v new) (same_Some w old (sym at ∙ there)) same

pub led_same : (w new : Word) (t : ValType) (k : ℕ) → new ≡ leading w t k → IsSameWord w new
led_same w new t k is = subst (IsSameWord w) (sym is) (leading_same w t k)

pub led_links : (all : List (List ValType)) (types : List ValType) (w new : Word) (t : ValType) (k : ℕ) → new ≡ leading w t k → HasLinks all types w → IsLink all (types ++ t ∷ []) k → HasLinks all types new
led_links all types w new t k is h l = subst (HasLinks all types) (sym is) (leading_links all types w t k h l)

pub pushed_tree : (old new : List Word) (w : Word) (from : ℕ) → new ≡ old ++ w ∷ [] → IsTree old → w.before ≡ from → from < length (spelled old) → w.end ≡ 0 → w.far ≡ 0 → ((t : ValType) → after_of w t ≡ 0) → IsTree new
pushed_tree old new w from is tree before within end far after =
    subst IsTree (sym is) (tree_push old w tree (subst (λ (b : ℕ). b < length (spelled old)) (sym before) within) end far after)

pub pushed_spelled : (old new : List Word) (w : Word) (from : ℕ) (t : ValType) → new ≡ old ++ w ∷ [] → IsTree old → w.before ≡ from → w.last ≡ t → spelled new ≡ spelled old ++ (word (spelled old) from ++ t ∷ []) ∷ []
pushed_spelled old new w from t is tree before last =
    ap spelled is ∙ spelled_push old w tree.some ∙ ap (λ (b : ℕ). spelled old ++ (word (spelled old) b ++ w.last ∷ []) ∷ []) before ∙ ap (λ (u : ValType). spelled old ++ (word (spelled old) from ++ u ∷ []) ∷ []) last

pub first_tree : (old ws : List Word) (w : Word) → old ≡ [] → ws ≡ old ++ w ∷ [] → w.end ≡ 0 → w.far ≡ 0 → ((t : ValType) → after_of w t ≡ 0) → IsTree ws
first_tree old ws w none is end far after = subst IsTree (sym (is ∙ ap (λ (vs : List Word). vs ++ w ∷ []) none)) (tree_first w end far after)

pub first_spelled : (old ws : List Word) (w : Word) → old ≡ [] → ws ≡ old ++ w ∷ [] → spelled ws ≡ [] ∷ []
first_spelled old ws w none is = ap spelled (is ∙ ap (λ (vs : List Word). vs ++ w ∷ []) none)

pub first_get : (ws : List Word) → IsTree ws → slice_get (spelled ws) 0 ≡ Some []
first_get ws tree = slice_get-get_or (spelled ws) 0 [] (omega (arith, tree.some, tree.same_length)) ∙ ap (λ (ts : List ValType). Some ts) tree.empty

pub within_push : (all new : List (List ValType)) (x : List ValType) (k : ℕ) → new ≡ all ++ x ∷ [] → k < length all → k < length new
within_push all new x k is lt = subst (λ (ls : List (List ValType)). k < length ls) (sym is) (omega (arith, lt, length_push all x))

pub pushed_at : (all new : List (List ValType)) (x : List ValType) (k : ℕ) → new ≡ all ++ x ∷ [] → k ≡ length all → IsSpelled new x k
pushed_at all new x k is number = subst (λ (ls : List (List ValType)). IsSpelled ls x k) (sym is) (record { within = omega (arith, number, length_push all x); is = get_or_push all x [] k (sym number) })

pub pushed_link : (all new : List (List ValType)) (from : ℕ) (t : ValType) (k : ℕ) → new ≡ all ++ (word all from ++ t ∷ []) ∷ [] → k ≡ length all → from < length all → IsLink new (word new from ++ t ∷ []) k
pushed_link all new from t k is number lt =
    let x : List ValType = word all from ++ t ∷ [] in
    let there : IsSpelled new x k = pushed_at all new x k is number in
    let same : word new from ≡ word all from = ap (λ (ls : List (List ValType)). word ls from) is ∙ get_or_append_left all (x ∷ []) [] from lt in
    record { within = there.within; ends = ([], ap (λ (ts : List ValType). ts ++ t ∷ []) same ∙ sym there.is) }

pub pushed_get : (all mid new : List (List ValType)) (x : List ValType) (k : ℕ) → new ≡ mid → mid ≡ all ++ x ∷ [] → k ≡ length all → slice_get new k ≡ Some x
pushed_get all mid new x k same is number = spelled_get new x k (pushed_at all new x k (same ∙ is) number)

pub pushed_keeps : (all mid new : List (List ValType)) (x : List ValType) → new ≡ mid → mid ≡ all ++ x ∷ [] → Keeps all new
pushed_keeps all mid new x same is = subst (Keeps all) (sym (same ∙ is)) (keeps_push all x)

pub same_keeps : (old new : List Word) → new ≡ old → Keeps (spelled old) (spelled new)
same_keeps old new is = subst (λ (ws : List Word). Keeps (spelled old) (spelled ws)) (sym is) (λ k types at. at)

pub end_on_link : (all : List (List ValType)) (types : List ValType) (t : ValType) (j k : ℕ) (e : Word) → IsLink all types j → HasLinks all (word all j) e → k ≡ after_of e t → IsLink all (types ++ t ∷ []) k
end_on_link all types t j k e l h is = subst (IsLink all (types ++ t ∷ [])) (sym is) (link_on all types t j (after_of e t) l (h.after t))

pub step_link : (all : List (List ValType)) (types : List ValType) (here k : ℕ) (w : Word) → IsLink all types here → HasLinks all (word all here) w → (k ≡ w.far) ⊎ (k ≡ w.end) → IsLink all types k
step_link all types here k w l h (inl e) = subst (IsLink all types) (sym e) (link_link all types here w.far l h.far)
step_link all types here k w l h (inr e) = subst (IsLink all types) (sym e) (link_link all types here w.end l h.end)

pub arrived : (all : List (List ValType)) (types : List ValType) (here shorter : ℕ) → IsLink all types here → eqb here shorter ≡ true → EndsWith types (word all shorter)
arrived all types here shorter l same = subst (λ (k : ℕ). EndsWith types (word all k)) (eqb-true here shorter same) l.ends
