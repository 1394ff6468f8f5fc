-- How the terms below conditions are walked through, with a list of what is still to be done.
use Rattle.std.specs.Prelude.{◌≡◌, ℕ, suc, ◌+◌, ◌<◌, ◌≤◌, ◌^◌, ◌==◌, Bool, is_some, if◌then◌else◌, List, [], ◌∷◌, ◌++◌, All, map, option_map, Option, Some, None, nat_eq, slice_index_or}
use Rattle.std.specs.declared.hash.FoldHasher.{FoldHasher}
use Rattle.std.specs.declared.hash.BuildHasherDefault.{BuildHasherDefault}
use Rattle.std.specs.HashMap.{HashMap, get}
use Rattle.bv_terms.specs.declared.words.Word.{Word}
use Rattle.bv_terms.specs.declared.words.Word.TheVariants.{Num, Term as Numbered}
use Rattle.bv_terms.specs.declared.words.Form.{Form}
use Rattle.bv_terms.specs.declared.words.Form.TheVariants.{Symbol as SymbolForm, Un, Bin, Choose as ChooseForm, Byte as ByteForm, Join as JoinForm}
use Rattle.bv_terms.specs.Terms.{Term, Number, Symbol, Unary, Binary, Choose, Byte, Join, Bytes, NoBytes, Then}
use Rattle.bv_terms.specs.Graphs.{TermGraph, Holds}
use Rattle.bit_blast.specs.declared.tasks.Task.{Task}
use Rattle.bit_blast.specs.declared.tasks.Task.TheVariants.{Visit, Put}
use Rattle.bit_blast.specs.Gates.{Wires}
use Rattle.bit_blast.specs.Formulas.{Known, once_after, with_terms, symbols_end}
use Rattle.bit_blast.specs.declared.terms.Symbols.{Symbols}
use Rattle.wasm_rules.specs.Words.{bits_where}
use Rattle.bit_blast.specs.GraphConditions.{term_at, terms_at}

-- ---- places in a list

-- at which place a number is, from 0 on
abbrev pub place_of : List ℕ → ℕ → Option ℕ
place_of [] t = None
place_of (x ∷ xs) t = if x == t then Some 0 else option_map (λ i. suc i) (place_of xs t)

-- a number comes to the end where it isn't there
abbrev pub with_number : List ℕ → ℕ → List ℕ
with_number xs t = if is_some (place_of xs t) then xs else xs ++ t ∷ []

abbrev pub Places : Type 0
Places = HashMap ℕ ℕ (BuildHasherDefault FoldHasher)

-- each number is there once
abbrev pub AreDistinct : List ℕ → Type 0
AreDistinct [] = Unit {0}
AreDistinct (x ∷ xs) = (place_of xs x ≡ None) × AreDistinct xs

-- the map has the place of each number
pub record IsPlaced (xs : List ℕ) (places : Places) : Type 0 where
  pub places_are : (t : ℕ) → get nat_eq places t ≡ place_of xs t
  pub once : AreDistinct xs

-- ---- what is still to be done

-- the terms among words are to be visited, from left to right
abbrev pub visits : List Word → List Task
visits [] = []
visits (Num n ∷ words) = visits words
visits (Numbered t ∷ words) = Visit t ∷ visits words

abbrev pub operands_of : Form → List Word
operands_of (SymbolForm number wide) = []
operands_of (Un op a) = a ∷ []
operands_of (Bin op a b) = a ∷ b ∷ []
operands_of (ChooseForm wide c a b) = c ∷ a ∷ b ∷ []
operands_of (ByteForm a i) = a ∷ []
operands_of (JoinForm wide bytes) = bytes

-- the terms in order after a task: a visit puts a term after all terms below it
abbrev pub after_task : TermGraph → Task → List Term → List Term
after_task g (Visit t) seen = with_terms (term_at g t) seen
after_task g (Put t) seen = once_after seen (term_at g t) seen

abbrev pub after_tasks : TermGraph → List Task → List Term → List Term
after_tasks g [] seen = seen
after_tasks g (task ∷ tasks) seen = after_tasks g tasks (after_task g task seen)

-- the number of a task's term
abbrev pub number_in : Task → ℕ
number_in (Visit t) = t
number_in (Put t) = t

abbrev pub HoldsTask : TermGraph → Task → Type 0
HoldsTask g task = Holds g (Numbered (number_in task))

-- ---- how much is left to do

-- twice the number of nodes of a term as a tree, without numbers
abbrev mutual
  pub size_of : Term → ℕ
  size_of (Number n) = 0
  size_of (Symbol k wide) = 2
  size_of (Unary op a) = 2 + size_of a
  size_of (Binary op a b) = 2 + (size_of a + size_of b)
  size_of (Choose wide c a b) = 2 + (size_of c + (size_of a + size_of b))
  size_of (Byte a i) = 2 + size_of a
  size_of (Join wide bytes) = 2 + size_of_all bytes

  pub size_of_all : Bytes → ℕ
  size_of_all NoBytes = 0
  size_of_all (Then t rest) = size_of t + size_of_all rest

abbrev pub work_of : TermGraph → Task → ℕ
work_of g (Visit t) = size_of (term_at g t)
work_of g (Put t) = 1

abbrev pub work_in : TermGraph → List Task → ℕ
work_in g [] = 0
work_in g (task ∷ tasks) = work_of g task + work_in g tasks

-- One task is carried out: others may come in its place, and the same terms are put in the end.
pub record CarriesOut (g : TermGraph) (task : Task) (tasks : List Task) (order : List ℕ) (next_tasks : List Task) (next_order : List ℕ) : Type 0 where
  pub same : after_tasks g next_tasks (terms_at g next_order) ≡ after_tasks g tasks (after_task g task (terms_at g order))
  pub less : work_in g next_tasks < work_of g task + work_in g tasks
  pub tasks_held : All (HoldsTask g) next_tasks
  pub order_held : All (λ t. Holds g (Numbered t)) next_order

-- ---- the wires that were made

-- terms with their wires, where these are those of the first of the terms
abbrev pub known_after : Known → TermGraph → List ℕ → List Wires → Known
known_after known g [] wires = known
known_after known g (t ∷ terms) [] = known
known_after known g (t ∷ terms) (made ∷ wires) = known_after ((term_at g t, made) ∷ known) g terms wires

abbrev pub known_of : TermGraph → List ℕ → List Wires → Known
known_of g order wires = known_after [] g order wires

-- the wires at a place, where it is given and they are there
abbrev pub wires_at : List Wires → Option ℕ → Wires
wires_at wires None = []
wires_at wires (Some i) = slice_index_or wires i []

-- ---- symbols

-- the variables of the highest bits of symbols with these widths, where the first is this one
abbrev pub symbol_firsts : ℕ → List Bool → List ℕ
symbol_firsts from [] = []
symbol_firsts from (wide ∷ draws) = from ∷ symbol_firsts (from + bits_where wide) draws

-- the variables of the symbols with these widths
pub record AreSymbols (draws : List Bool) (symbols : Symbols) : Type 0 where
  pub firsts_are : symbols.firsts ≡ symbol_firsts 2 draws
  pub end_is : symbols.end ≡ symbols_end 2 draws
  pub fits : symbols.end ≤ 2 ^ 63
