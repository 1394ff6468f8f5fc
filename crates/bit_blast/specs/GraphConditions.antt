-- The terms that words of a graph are: conditions on words, and the word whose value is to be least, as conditions and a term.
use Rattle.std.specs.Prelude.{ℕ, List, map, option_map, Option}
use Rattle.bv_terms.specs.declared.words.Word.TheVariants.{Term as Numbered}
use Rattle.bv_terms.specs.declared.words.Cond.{Cond}
use Rattle.bv_terms.specs.Terms.{Term}
use Rattle.bv_terms.specs.Graphs.{TermGraph, term_of}
use Rattle.bit_blast.specs.Formulas.{Condition}

-- the term that a number is in a graph
abbrev pub term_at : TermGraph → ℕ → Term
term_at g t = term_of g (Numbered t)

-- the terms that each of these numbers is
abbrev pub terms_at : TermGraph → List ℕ → List Term
terms_at g numbers = map (term_at g) numbers

-- conditions on words of a graph, as conditions on terms
abbrev pub conditions_of : TermGraph → List Cond → List Condition
conditions_of g conds = map (λ cond. (term_at g cond.term, cond.answer)) conds

-- the term of the word whose value is to be least, where one is asked for
abbrev pub first_of : TermGraph → Option ℕ → Option Term
first_of g first = option_map (λ t. term_at g t) first
