-- What a graph is after a term was made.
use Rattle.std.proofs.Common.{◌≡◌, ℕ, ◌+◌, ◌-◌, ◌<◌, Bool, true, false, cond, List, [], ◌∷◌, ◌++◌, length, map, refl, ap, sym, ◌∙◌, subst, arith, Some, None}
use Rattle.std.specs.Prelude.{◌||◌, slice_get, slice_index_or, unwrap_or, Result, Ok, Err, IfOk, OnErr, All}
use Rattle.std.specs.List.{list_any}
use Rattle.std.proofs.lemmas.List.Elements.{All-map}
use Rattle.int_ops.specs.Bytes.{joined}
use Rattle.std.proofs.lemmas.List.{append-nil, length-append, length-map}
use Rattle.wasm_rules.specs.Words.{Kept, CanJoin, bits_where}
use Rattle.bv_terms.specs.declared.words.Word.{Word}
use Rattle.bv_terms.specs.declared.words.Word.TheVariants.{Term as Numbered}
use Rattle.bv_terms.specs.declared.words.Form.{Form}
use Rattle.bv_terms.specs.Terms.{Term, Number, Symbol, Join, bytes_from, is_number, is_same, HasWidth, HasBits, value_of}
use Rattle.bv_terms.specs.Making.{made, rules, first_of}
use Rattle.bv_terms.specs.Graphs.{TermGraph, word_among, form_among, terms_of, term_of, form_term, Holds, OperandsBelow, IsGraph, with_term, Extends, Makes, Draws, RuleGives}
use Rattle.bv_terms.proofs.ListLemmas.{get-below, get-is, get-last}
use Rattle.bv_terms.proofs.GraphLemmas.{length-terms_of, terms_of-push, numbered-is, word-extends, word-unique, below-more, with_held, with_new}
use Rattle.bv_terms.proofs.RuleLemmas.{made-keeps}
use Rattle.bv_terms.proofs.KindLemmas.{made-has, join-width, values_of-bytes_from}

-- the term is there
pub makes-held : (g : TermGraph) (w : Word) → Holds g w → Makes g (term_of g w) w g
makes-held g w held = record { held = held; means = refl; kept = ([], sym (append-nil g.forms)); terms = with_held g.forms w held; drawn = refl }

pub makes-found : (g : TermGraph) → IsGraph g.forms → (form : Form) (i : ℕ) → slice_get g.forms i ≡ Some form → Makes g (form_term g form) (Numbered (256 + i)) g
makes-found g graph form i at =
    let place : 256 + i - 256 ≡ i = omega arith in
    let there : slice_get g.forms (256 + i - 256) ≡ Some form = ap (λ n. slice_get g.forms n) place ∙ at in
    let within : i < length g.forms = get-below g.forms i form at in
    let held : Holds g (Numbered (256 + i)) = (omega arith, omega arith) in
    subst (λ t. Makes g t (Numbered (256 + i)) g) (numbered-is g.forms (256 + i) form graph there) (makes-held g (Numbered (256 + i)) held)

-- the term is new
pub makes-new : (forms : List Form) (drawn : ℕ) → IsGraph forms → (form : Form) → OperandsBelow (256 + length forms) form → ((i : ℕ) → slice_get forms i ≡ Some form → ⊥)
    → Makes (record { forms = forms; drawn = drawn }) (form_among (terms_of forms) form) (Numbered (256 + length forms)) (record { forms = forms ++ form ∷ []; drawn = drawn })
makes-new forms drawn graph form below absent = record {
  held = (omega arith, omega (arith, longer));
  means = ap (λ ts. word_among ts (Numbered (256 + length forms))) (terms_of-push forms form)
      ∙ ap (λ n. slice_index_or (terms_of forms ++ T ∷ []) n (Number 0)) place
      ∙ get-is (terms_of forms ++ T ∷ []) (length (terms_of forms)) T (Number 0) (get-last (terms_of forms) [] T);
  kept = (form ∷ [], refl);
  terms = with_new forms graph form below absent;
  drawn = refl;
}
  where
    T : Term
    T = form_among (terms_of forms) form

    longer : length (forms ++ form ∷ []) ≡ length forms + 1
    longer = length-append forms (form ∷ [])

    place : 256 + length forms - 256 ≡ length (terms_of forms)
    place = omega (arith, length-terms_of forms)

-- ---- by the rules

pub made-rule : (forms : List Form) (t : Term) (w : Word) → RuleGives forms (first_of rules t) (Some w) → made t ≡ word_among (terms_of forms) w
unfolding made
made-rule forms t w gives = ap (λ o. unwrap_or o t) gives.0

pub made-plain : (forms : List Form) (t : Term) → RuleGives forms (first_of rules t) None → made t ≡ t
unfolding made
made-plain forms t gives = ap (λ o. unwrap_or o t) gives

pub makes-rule : (g : TermGraph) (t : Term) (w : Word) → RuleGives g.forms (first_of rules t) (Some w) → Makes g (made t) w g
makes-rule g t w gives = subst (λ s. Makes g s w g) (sym (made-rule g.forms t w gives)) (makes-held g w gives.1)

-- ---- what follows for words

pub extends-word : (old new : TermGraph) → Extends old new → (extra : List Term) → terms_of new.forms ≡ terms_of old.forms ++ extra → (w : Word) → Holds old w
    → Holds new w × (term_of new w ≡ term_of old w)
extends-word old new kept extra terms w held = (
  below-more (256 + length old.forms) (256 + length new.forms) w (omega (arith, ap length kept.1, length-append old.forms kept.0)) held,
  ap (λ ts. word_among ts w) terms
      ∙ word-extends (terms_of old.forms) extra w (below-more (256 + length old.forms) (256 + length (terms_of old.forms)) w (omega (arith, length-terms_of old.forms)) held),
)

with-more : (b : Bool) (xs : List Term) (t : Term) → (extra : List Term) × (cond b xs (xs ++ t ∷ []) ≡ xs ++ extra)
with-more true xs t = ([], sym (append-nil xs))
with-more false xs t = (t ∷ [], refl)

-- ---- symbols

made-symbol : (k : ℕ) (wide : Bool) → made (Symbol k wide) ≡ Symbol k wide
unfolding made
made-symbol k wide = refl

pub draws : (old new : TermGraph) (k : ℕ) (wide : Bool) (w : Word) → k ≡ old.drawn → Makes old (made (Symbol k wide)) w new
    → Draws old wide w (record { forms = new.forms; drawn = new.drawn + 1 })
draws old new k wide w is makes =
    let symbol : made (Symbol k wide) ≡ Symbol old.drawn wide = made-symbol k wide ∙ ap (λ n. Symbol n wide) is in
    record {
      held = makes.held;
      means = makes.means ∙ symbol;
      kept = makes.kept;
      terms = makes.terms ∙ ap (with_term (terms_of old.forms)) symbol;
      drawn = ap (λ n. n + 1) makes.drawn;
    }

-- ---- the clauses of the calls that make terms

module _ {E : Type 0} where
  pub made-width : (old new : TermGraph) (r : Result Word E) (t : Term) (bits : ℕ) → HasWidth bits t → IfOk r (λ w. Makes old (made t) w new)
      → IfOk r (λ w. HasBits bits (term_of new w))
  made-width old new (Ok w) t bits h makes = subst (HasBits bits) (sym makes.means) (made-has t bits h)
  made-width old new (Err e) t bits h makes = makes

  pub made-value : (old new : TermGraph) (r : Result Word E) (t : Term) (bits : ℕ) → HasWidth bits t → IfOk r (λ w. Makes old (made t) w new)
      → IfOk r (λ w. (input : List ℕ) → value_of input (term_of new w) ≡ value_of input t)
  made-value old new (Ok w) t bits h makes = λ input. ap (value_of input) makes.means ∙ (made-keeps t bits h).1 input
  made-value old new (Err e) t bits h makes = makes

  pub made-kept : (old new : TermGraph) (r : Result Word E) (t : Term) → IfOk r (λ w. Makes old t w new) → OnErr r (new ≡ old) → Kept Holds term_of old new
  made-kept old new (Ok w) t makes err = λ v held.
      let more = with-more (is_number t || list_any (is_same t) (terms_of old.forms)) (terms_of old.forms) t in
      extends-word old new makes.kept more.0 (makes.terms ∙ more.1) v held
  made-kept old new (Err e) t makes err = λ v held. (subst (λ g. Holds g v) (sym err) held, ap (λ g. term_of g v) err)

-- the bytes of a join that is made
pub joined-width : (g : TermGraph) (wide : Bool) (words list : List Word) → list ≡ words → CanJoin wide (length words) → All (λ b. HasWidth 8 (term_of g b)) words
    → HasWidth (bits_where wide) (Join wide (bytes_from (map (term_of g) list)))
joined-width g wide words list is count each =
    subst (λ ws. HasWidth (bits_where wide) (Join wide (bytes_from (map (term_of g) ws)))) (sym is)
    (join-width wide (map (term_of g) words) (subst (CanJoin wide) (sym (length-map words (term_of g))) count) (All-map (HasWidth 8) (term_of g) words each))

pub joined-value : (g : TermGraph) (input : List ℕ) (wide : Bool) (words list : List Word) → list ≡ words
    → value_of input (Join wide (bytes_from (map (term_of g) list))) ≡ joined (map (λ b. value_of input (term_of g b)) words)
joined-value g input wide words list is =
    ap (λ ws. value_of input (Join wide (bytes_from (map (term_of g) ws)))) is
    ∙ ap joined (values_of-bytes_from input (map (term_of g) words) ∙ map-map (value_of input) (term_of g) words)
  where
    map-map : (f : Term → ℕ) (h : Word → Term) (ws : List Word) → map f (map h ws) ≡ map (λ w. f (h w)) ws
    map-map f h [] = refl
    map-map f h (w ∷ ws) = ap (λ vs. f (h w) ∷ vs) (map-map f h ws)

pub if_ok : {E : Type 0} (r : Result Word E) (P Q : Word → Type 0) → ((w : Word) → P w → Q w) → IfOk r P → IfOk r Q
if_ok (Ok w) P Q more h = more w h
if_ok (Err e) P Q more h = h

-- ---- the same term twice

pub makes-kept : (old new : TermGraph) (t : Term) (w : Word) → Makes old t w new → Kept Holds term_of old new
makes-kept old new t w makes = λ v held.
    let more = with-more (is_number t || list_any (is_same t) (terms_of old.forms)) (terms_of old.forms) t in
    extends-word old new makes.kept more.0 (makes.terms ∙ more.1) v held

pub made-again : (g h k : TermGraph) (t : Term) (v w : Word) → IsGraph k.forms → Makes g t v h → Makes h t w k → (v ≡ w) × (terms_of k.forms ≡ terms_of h.forms)
made-again g h k t v w graph first second =
    let kept = makes-kept h k t w second v first.held in (
      word-unique k.forms graph v w kept.0 second.held (kept.1 ∙ first.means ∙ sym second.means),
      second.terms ∙ ap (with_term (terms_of h.forms)) (sym first.means) ∙ sym (with_held h.forms v first.held),
    )
