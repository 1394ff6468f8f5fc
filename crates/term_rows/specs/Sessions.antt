-- Words of a graph, each with the width with which it was made, and questions about them.
use Rattle.std.specs.Prelude.{ℕ, ◌≡◌, ◌-◌, ◌&&◌, nat_lt, length, Bool, true, false, IsTrue, List, All, get_or, slice_get, slice_index_or, Some, IfSome}
use Rattle.int_ops.specs.declared.operators.Operator.{Operator}
use Rattle.int_ops.specs.Operators.{operand_bits, result_bits, bits_of}
use Rattle.wasm_rules.specs.Words.{HasSome}
use Rattle.bv_terms.specs.declared.words.Word.{Word}
use Rattle.bv_terms.specs.declared.words.Word.TheVariants.{Num, Term as Numbered}
use Rattle.bv_terms.specs.declared.words.Form.{Form}
use Rattle.bv_terms.specs.declared.words.Form.TheVariants.{Symbol as SymbolForm, Un, Bin, Choose as ChooseForm, Byte as ByteForm, Join as JoinForm}
use Rattle.bv_terms.specs.Terms.{Number, HasWidth, width_of, HasSymbols}
use Rattle.bv_terms.specs.Graphs.{TermGraph, Holds, term_of, terms_of}
use Rattle.bit_blast.specs.Meanings.{IsProper}
use Rattle.bit_blast.specs.GraphConditions.{term_at}
use Rattle.term_rows.specs.declared.session.Entry.{Entry}
use Rattle.term_rows.specs.declared.drawn.Drawn.{Drawn}
use Rattle.term_rows.specs.declared.questions.Question.{Question}

-- a word of the graph, of this width
abbrev pub IsWord : TermGraph → ℕ → Word → Type 0
IsWord g bits w = Holds g w × HasWidth bits (term_of g w)

-- a word of the graph, of some width
abbrev pub IsSome : TermGraph → Word → Type 0
IsSome g w = Holds g w × HasSome HasWidth (term_of g w)

abbrev pub IsEntry : TermGraph → Entry → Type 0
IsEntry g e = IsWord g e.bits e.word

-- the operator of an opcode has the widths that the opcode says
abbrev pub HasWidths : ℕ → Operator → Type 0
HasWidths op o = (operand_bits op ≡ bits_of o.operand) × (result_bits op ≡ bits_of o.result)

-- ---- terms over symbols

-- where the flag at a place is true, all symbols of the term there are among those of these widths
abbrev pub HaveSymbols : TermGraph → List Bool → List Bool → Type 0
HaveSymbols g draws flags = (place : ℕ) → IsTrue (get_or flags place false) → HasSymbols draws (slice_index_or (terms_of g.forms) place (Number 0))

abbrev pub AreOver : TermGraph → Drawn → Type 0
AreOver g drawn = HaveSymbols g drawn.draws.items drawn.flags.items

-- a number, or a term whose flag is true
abbrev pub is_over : List Bool → Word → Bool
is_over flags (Num n) = true
is_over flags (Numbered t) = nat_lt (t - 256) (length flags) && get_or flags (t - 256) false

-- a symbol with its width, or an operation on such words
abbrev pub IsOver : List Bool → List Bool → Form → Type 0
IsOver draws flags (SymbolForm number wide) = slice_get draws number ≡ Some wide
IsOver draws flags (Un op a) = IsTrue (is_over flags a)
IsOver draws flags (Bin op a b) = IsTrue (is_over flags a) × IsTrue (is_over flags b)
IsOver draws flags (ChooseForm wide c a b) = IsTrue (is_over flags c) × IsTrue (is_over flags a) × IsTrue (is_over flags b)
IsOver draws flags (ByteForm a i) = IsTrue (is_over flags a)
IsOver draws flags (JoinForm wide bytes) = All (λ word. IsTrue (is_over flags word)) bytes

-- ---- questions

-- a term of the graph that can be asked about
abbrev pub IsAsked : TermGraph → Drawn → ℕ → Type 0
IsAsked g drawn t = Holds g (Numbered t) × IsProper drawn.draws.items (term_at g t)

pub record IsQuestion (g : TermGraph) (q : Question) : Type 0 where
  pub conditions : All (λ cond. IsAsked g q.drawn cond.term) q.conds.items
  pub least : IfSome q.least (λ t. IsAsked g q.drawn t × (width_of (term_at g t) ≡ 32))
