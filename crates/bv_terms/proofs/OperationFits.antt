-- Where the making rules that go by the operation fit, for the words of a graph.
use Rattle.std.proofs.Common.{◌≡◌, ℕ, ◌+◌, Bool, true, false, List, length, refl, sym, subst, Some, None}
use Rattle.std.specs.Prelude.{IsTrue}
use Rattle.std.proofs.lemmas.Bool.{false≢true}
use Rattle.bv_terms.specs.declared.words.Word.{Word}
use Rattle.bv_terms.specs.declared.words.Form.{Form}
use Rattle.bv_terms.specs.declared.words.Form.TheVariants.{Un}
use Rattle.bv_terms.specs.Terms.{Term, Number, number_of, is_same}
use Rattle.bv_terms.specs.Making.{is_the, under_eqz}
use Rattle.bv_terms.specs.Graphs.{word_among, form_among, terms_of, IsBelow, IsGraph}
use Rattle.bv_terms.proofs.SameLemmas.{is_same-is, is_same-itself}
use Rattle.bv_terms.proofs.GraphLemmas.{word-unique}

-- a term that is no number is not the one that is wanted
pub not-the : (n : ℕ) (t : Term) → number_of t ≡ None → is_the (Some n) t ≡ false
not-the n (Number m) e = let wrong : ⊥ = cc in absurd wrong
not-the n _ e = refl

-- one word is one term
pub same-words : (forms : List Form) → IsGraph forms → (a b : Word) (r : Bool) → IsBelow (256 + length forms) a → IsBelow (256 + length forms) b
    → (IsTrue r → a ≡ b) → (a ≡ b → IsTrue r) → r ≡ is_same (word_among (terms_of forms) a) (word_among (terms_of forms) b)
same-words forms graph a b true ha hb there back =
    sym (subst (λ w. is_same (word_among (terms_of forms) a) (word_among (terms_of forms) w) ≡ true) (there refl) (is_same-itself (word_among (terms_of forms) a)))
same-words forms graph a b false ha hb there back = go (is_same (word_among (terms_of forms) a) (word_among (terms_of forms) b)) refl
  where
    go : (x : Bool) → is_same (word_among (terms_of forms) a) (word_among (terms_of forms) b) ≡ x → false ≡ x
    go true is = absurd (false≢true (back (word-unique forms graph a b ha hb (is_same-is (word_among (terms_of forms) a) (word_among (terms_of forms) b) is))))
    go false is = refl

-- a form that is no operation on one
pub no_eqz : (terms : List Term) (form : Form) → ((op : ℕ) (a : Word) → form ≡ Un op a → ⊥) → under_eqz (form_among terms form) ≡ None
no_eqz terms (Un op a) other = absurd (other op a refl)
no_eqz terms _ other = refl
