-- A graph of terms, seen as the list of its forms: an operation each, whose operands are words, which are numbers and the
-- numbers of forms before it. The numbers are those from 256 on, in the order of the list.
use Rattle.std.specs.Prelude.{◌≡◌, ℕ, ◌+◌, ◌-◌, ◌^◌, ◌<◌, ◌≤◌, Bool, ◌||◌, not, IsTrue, if◌then◌else◌, List, [], ◌∷◌, ◌++◌, All, map, length, slice_get, slice_index_or, Option, Some, None}
use Rattle.std.specs.List.{list_any}
use Rattle.bv_terms.specs.declared.words.Word.{Word}
use Rattle.bv_terms.specs.declared.words.Word.TheVariants.{Num, Term as Numbered}
use Rattle.bv_terms.specs.declared.words.Form.{Form}
use Rattle.bv_terms.specs.declared.words.Form.TheVariants.{Symbol as SymbolForm, Un, Bin, Choose as ChooseForm, Byte as ByteForm, Join as JoinForm}
use Rattle.bv_terms.specs.Terms.{Term, Number, Symbol, Unary, Binary, Choose, Byte, Join, bytes_from, is_number, width_of, HasWidth, is_same}

-- the forms of a graph, and how many symbols were drawn
pub record TermGraph : Type 0 where
  pub forms : List Form
  pub drawn : ℕ

-- ---- the terms of a graph

-- which term a word is, where these are the terms from number 256 on
abbrev pub word_among : List Term → Word → Term
word_among terms (Num n) = Number n
word_among terms (Numbered t) = slice_index_or terms (t - 256) (Number 0)

-- which term a form is
abbrev pub form_among : List Term → Form → Term
form_among terms (SymbolForm number wide) = Symbol number wide
form_among terms (Un op a) = Unary op (word_among terms a)
form_among terms (Bin op a b) = Binary op (word_among terms a) (word_among terms b)
form_among terms (ChooseForm wide c a b) = Choose wide (word_among terms c) (word_among terms a) (word_among terms b)
form_among terms (ByteForm a i) = Byte (word_among terms a) i
form_among terms (JoinForm wide bytes) = Join wide (bytes_from (map (word_among terms) bytes))

-- the terms of forms after these, each over the terms before it
abbrev pub terms_after : List Term → List Form → List Term
terms_after terms [] = terms
terms_after terms (form ∷ forms) = terms_after (terms ++ form_among terms form ∷ []) forms

abbrev pub terms_of : List Form → List Term
terms_of forms = terms_after [] forms

-- which term a word of a graph is, and which a form over its words
abbrev pub term_of : TermGraph → Word → Term
term_of g w = word_among (terms_of g.forms) w

abbrev pub form_term : TermGraph → Form → Term
form_term g form = form_among (terms_of g.forms) form

-- ---- the words of a graph

-- a word is a number, or the number of a term below a bound
abbrev pub IsBelow : ℕ → Word → Type 0
IsBelow bound (Num n) = Unit {0}
IsBelow bound (Numbered t) = (256 ≤ t) × (t < bound)

-- the words of a graph: all numbers, and the numbers of its terms
abbrev pub Holds : TermGraph → Word → Type 0
Holds g w = IsBelow (256 + length g.forms) w

-- the operands of a form are words below a bound
abbrev pub OperandsBelow : ℕ → Form → Type 0
OperandsBelow bound (SymbolForm number wide) = Unit {0}
OperandsBelow bound (Un op a) = IsBelow bound a
OperandsBelow bound (Bin op a b) = IsBelow bound a × IsBelow bound b
OperandsBelow bound (ChooseForm wide c a b) = IsBelow bound c × IsBelow bound a × IsBelow bound b
OperandsBelow bound (ByteForm a i) = IsBelow bound a
OperandsBelow bound (JoinForm wide bytes) = All (IsBelow bound) bytes

-- ---- what every graph keeps

-- Each term is there once, and its operands come before it. None is a number, and each has its own width. There are at most
-- 2^60.
pub record IsGraph (forms : List Form) : Type 0 where
  pub once : (i j : ℕ) (t : Term) → slice_get (terms_of forms) i ≡ Some t → slice_get (terms_of forms) j ≡ Some t → i ≡ j
  pub ordered : (i : ℕ) (form : Form) → slice_get forms i ≡ Some form → OperandsBelow (256 + i) form
  pub proper : (i : ℕ) (t : Term) → slice_get (terms_of forms) i ≡ Some t → IsTrue (not (is_number t)) × HasWidth (width_of t) t
  pub few : length forms ≤ 2 ^ 60

-- ---- what a call that makes a term does

-- the terms with one more at their end, where it is no number and not there yet
abbrev pub with_term : List Term → Term → List Term
with_term terms t = if is_number t || list_any (is_same t) terms then terms else terms ++ t ∷ []

-- the forms that were there are there still, in front and in their order
abbrev pub Extends : TermGraph → TermGraph → Type 0
Extends old new = (added : List Form) × (new.forms ≡ old.forms ++ added)

-- The word is the term, in a graph that has it. All that was there stays with its number, and nothing else is made.
pub record Makes (old : TermGraph) (t : Term) (w : Word) (new : TermGraph) : Type 0 where
  pub held : Holds new w
  pub means : term_of new w ≡ t
  pub kept : Extends old new
  pub terms : terms_of new.forms ≡ with_term (terms_of old.forms) t
  pub drawn : new.drawn ≡ old.drawn

-- The word is the next symbol, which is drawn.
pub record Draws (old : TermGraph) (wide : Bool) (w : Word) (new : TermGraph) : Type 0 where
  pub held : Holds new w
  pub means : term_of new w ≡ Symbol old.drawn wide
  pub kept : Extends old new
  pub terms : terms_of new.forms ≡ with_term (terms_of old.forms) (Symbol old.drawn wide)
  pub drawn : new.drawn ≡ old.drawn + 1

-- ---- what a making rule gives, as a word

abbrev pub RuleGives : List Form → Option Term → Option Word → Type 0
RuleGives forms rule None = rule ≡ None
RuleGives forms rule (Some w) = (rule ≡ Some (word_among (terms_of forms) w)) × IsBelow (256 + length forms) w
