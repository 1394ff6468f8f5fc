-- Terms over symbols, and questions about them.
use Rattle.std.proofs.Common.{◌≡◌, ℕ, zero, suc, ◌+◌, ◌-◌, ◌<◌, Bool, true, false, List, [], ◌∷◌, ◌++◌, length, map, All, get_or, refl, ap, sym, subst, ◌∙◌, arith, Option, Some, None}
use Rattle.std.specs.Prelude.{IsTrue, IfSome, not, ◌&&◌, nat_lt, slice_get, slice_index_or}
use Rattle.std.proofs.lemmas.Bool.{false≢true}
use Rattle.std.proofs.lemmas.List.Elements.{All-head, All-tail, All-cons, All-nil, All-weaker}
use Rattle.bv_terms.specs.declared.words.Word.{Word}
use Rattle.bv_terms.specs.declared.words.Word.TheVariants.{Num, Term as Numbered}
use Rattle.bv_terms.specs.declared.words.Form.{Form}
use Rattle.bv_terms.specs.declared.words.Form.TheVariants.{Symbol as SymbolForm, Un, Bin, Choose as ChooseForm, Byte as ByteForm, Join as JoinForm}
use Rattle.bv_terms.specs.declared.words.Cond.{Cond}
use Rattle.bv_terms.specs.Terms.{Term, Number, Symbol, Unary, Binary, Choose, Byte, Join, bytes_from, is_number, width_of, HasWidth, HasSymbols, HaveSymbols as HaveSymbolsOf}
use Rattle.bv_terms.specs.Graphs.{TermGraph, IsGraph, Holds, term_of, form_term, terms_of}
use Rattle.bv_terms.proofs.GraphLemmas.{held}
use Rattle.bit_blast.specs.Meanings.{IsProper, AreProper, CanBeLeast}
use Rattle.bit_blast.specs.GraphConditions.{term_at, conditions_of, first_of}
use Rattle.term_rows.specs.declared.questions.Question.{Question}
use Rattle.term_rows.specs.Sessions.{HaveSymbols, is_over, IsOver, IsAsked, IsQuestion}

-- ---- flags

module _ (g : TermGraph) (draws flags : List Bool) (have : HaveSymbols g draws flags) where
  word_symbols : (w : Word) → IsTrue (is_over flags w) → HasSymbols draws (term_of g w)
  word_symbols (Num n) h = tt
  word_symbols (Numbered t) h = have (t - 256) (second (nat_lt (t - 256) (length flags)) (get_or flags (t - 256) false) h)
    where
      second : (a b : Bool) → IsTrue (a && b) → IsTrue b
      second true b h = h
      second false b h = absurd (false≢true h)

  bytes_symbols : (ws : List Word) → All (λ w. IsTrue (is_over flags w)) ws → HaveSymbolsOf draws (bytes_from (map (term_of g) ws))
  bytes_symbols [] h = tt
  bytes_symbols (w ∷ ws) h =
      (word_symbols w (All-head (λ w. IsTrue (is_over flags w)) w ws h), bytes_symbols ws (All-tail (λ w. IsTrue (is_over flags w)) w ws h))

  form_symbols : (form : Form) → IsOver draws flags form → HasSymbols draws (form_term g form)
  form_symbols (SymbolForm number wide) h = h
  form_symbols (Un op a) h = word_symbols a h
  form_symbols (Bin op a b) h = (word_symbols a h.0, word_symbols b h.1)
  form_symbols (ChooseForm wide c a b) h = (word_symbols c h.0, word_symbols a h.1, word_symbols b h.2)
  form_symbols (ByteForm a i) h = word_symbols a h
  form_symbols (JoinForm wide bytes) h = bytes_symbols bytes h

  -- the flag at a place is an old one, or the one that is pushed
  old_or_new : (xs : List Bool) (flag : Bool) (k : ℕ) (P : Type 0) → IsTrue (get_or (xs ++ flag ∷ []) k false) → (IsTrue (get_or xs k false) → P) → (k ≡ length xs → IsTrue flag → P) → P
  old_or_new [] flag zero P h old new = new refl h
  old_or_new [] flag (suc k) P h old new = absurd (false≢true h)
  old_or_new (x ∷ xs) flag zero P h old new = old h
  old_or_new (x ∷ xs) flag (suc k) P h old new = old_or_new xs flag k P h old (λ e. new (ap suc e))

  -- one more flag
  pub have-more : (form : Form) (t : ℕ) (flag : Bool) → t ≡ 256 + length flags → term_of g (Numbered t) ≡ form_term g form → (IsTrue flag → IsOver draws flags form)
      → HaveSymbols g draws (flags ++ flag ∷ [])
  have-more form t flag at means says place h =
      old_or_new flags flag place (HasSymbols draws (slice_index_or (terms_of g.forms) place (Number 0))) h (have place) (λ same yes.
      let here : t - 256 ≡ place = omega arith in
      let term : slice_index_or (terms_of g.forms) place (Number 0) ≡ form_term g form =
      subst (λ (n : ℕ). slice_index_or (terms_of g.forms) n (Number 0) ≡ form_term g form) here means in
      subst (HasSymbols draws) (sym term) (form_symbols form (says yes)))

  -- a term of the graph whose flag is true
  pub asked : (t : ℕ) → IsGraph g.forms → Holds g (Numbered t) → IsTrue (is_over flags (Numbered t)) → Holds g (Numbered t) × IsProper draws (term_at g t)
  asked t graph here h =
      let proper = graph.proper (t - 256) (term_at g t) (held g.forms t here) in
      (here, record { no_number = proper.0; typed = proper.1; drawn = word_symbols (Numbered t) h })

pub have-none : (g : TermGraph) (draws : List Bool) → HaveSymbols g draws []
have-none g draws place h = absurd (false≢true h)

-- ---- symbols

-- the flag of a symbol that was drawn, as it was read
pub drawn-wide : (draws : List Bool) (k : ℕ) (wide : Bool) → k < length draws → wide ≡ true → IsTrue (get_or draws k false) → slice_get draws k ≡ Some wide
drawn-wide [] k wide h e is = absurd (omega arith)
drawn-wide (x ∷ draws) zero wide h e is = ap Some (is ∙ sym e)
drawn-wide (x ∷ draws) (suc k) wide h e is = drawn-wide draws k wide (omega arith) e is

pub drawn-narrow : (draws : List Bool) (k : ℕ) (wide : Bool) → k < length draws → wide ≡ false → IsTrue (not (get_or draws k false)) → slice_get draws k ≡ Some wide
drawn-narrow [] k wide h e is = absurd (omega arith)
drawn-narrow (true ∷ draws) zero wide h e is = absurd (false≢true is)
drawn-narrow (false ∷ draws) zero wide h e is = ap Some (sym e)
drawn-narrow (x ∷ draws) (suc k) wide h e is = drawn-narrow draws k wide (omega arith) e is

-- ---- widths

-- a term that has a width, and is no number, has its own
pub own_width : (t : Term) (bits : ℕ) → IsTrue (not (is_number t)) → HasWidth bits t → width_of t ≡ bits
own_width (Number n) bits proper h = absurd (false≢true proper)
own_width (Symbol k wide) bits proper h = sym h
own_width (Unary op a) bits proper h = sym h.0
own_width (Binary op a b) bits proper h = sym h.0
own_width (Choose wide c a b) bits proper h = sym h.0
own_width (Byte a i) bits proper h = sym h.0
own_width (Join wide bytes) bits proper h = sym h.0

-- ---- questions

module _ (g : TermGraph) (q : Question) (is : IsQuestion g q) where
  pub conds_held : All (λ cond. Holds g (Numbered cond.term)) q.conds.items
  conds_held = All-weaker (λ cond. IsAsked g q.drawn cond.term) (λ cond. Holds g (Numbered cond.term)) (λ cond h. h.0) q.conds.items is.conditions

  pub conds_proper : AreProper q.drawn.draws.items (conditions_of g q.conds.items)
  conds_proper = go q.conds.items is.conditions
    where
      go : (conds : List Cond) → All (λ cond. IsAsked g q.drawn cond.term) conds → AreProper q.drawn.draws.items (conditions_of g conds)
      go [] h = All-nil (λ condition. IsProper q.drawn.draws.items condition.0)
      go (cond ∷ conds) h =
          All-cons (λ condition. IsProper q.drawn.draws.items condition.0) (term_at g cond.term, cond.answer) (conditions_of g conds)
          (All-head (λ cond. IsAsked g q.drawn cond.term) cond conds h).1 (go conds (All-tail (λ cond. IsAsked g q.drawn cond.term) cond conds h))

  -- the same of lists that are read
  pub read_proper : (conds : List Cond) (draws : List Bool) → conds ≡ q.conds.items → draws ≡ q.drawn.draws.items → AreProper draws (conditions_of g conds)
  read_proper conds draws e f =
      subst (λ (cs : List Cond). AreProper draws (conditions_of g cs)) (sym e)
      (subst (λ (ds : List Bool). AreProper ds (conditions_of g q.conds.items)) (sym f) conds_proper)

  pub least_held : IfSome q.least (λ t. Holds g (Numbered t))
  least_held = go q.least is.least
    where
      go : (least : Option ℕ) → IfSome least (λ t. IsAsked g q.drawn t × (width_of (term_at g t) ≡ 32)) → IfSome least (λ t. Holds g (Numbered t))
      go None h = tt
      go (Some t) h = h.0.0

  pub can_be_least : CanBeLeast q.drawn.draws.items (first_of g q.least)
  can_be_least = go q.least is.least
    where
      go : (least : Option ℕ) → IfSome least (λ t. IsAsked g q.drawn t × (width_of (term_at g t) ≡ 32)) → CanBeLeast q.drawn.draws.items (first_of g least)
      go None h = tt
      go (Some t) h = (h.0.1, h.1)

  pub can_be_least-at : (t : ℕ) → q.least ≡ Some t → CanBeLeast q.drawn.draws.items (Some (term_at g t))
  can_be_least-at t e = subst (λ (least : Option ℕ). CanBeLeast q.drawn.draws.items (first_of g least)) e can_be_least

  pub held-at : (t : ℕ) → q.least ≡ Some t → Holds g (Numbered t)
  held-at t e = subst (λ (least : Option ℕ). IfSome least (λ t. Holds g (Numbered t))) e least_held
