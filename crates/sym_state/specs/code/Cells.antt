-- Which words a cell of the memory can hold.
use Rattle.std.specs.Prelude.{◌^◌, ◌<◌, ◌≤◌}
use Rattle.bv_terms.specs.declared.words.Word.{Word}
use Rattle.bv_terms.specs.declared.words.Word.TheVariants.{Num, Term as Numbered}
use Rattle.bv_terms.specs.Terms.{HasBits}
use Rattle.bv_terms.specs.Graphs.{TermGraph, Holds, term_of}

-- a byte, or a term, of which none has a number below 256
abbrev pub IsCellWord : Word → Type 0
IsCellWord (Num n) = n < 2 ^ 8
IsCellWord (Numbered t) = 256 ≤ t

-- each word of a graph that is a byte can be held
abbrev pub bytes_fit : (g : TermGraph) (w : Word) → Holds g w → HasBits 8 (term_of g w) → IsCellWord w
bytes_fit g (Num n) held has = has.0
bytes_fit g (Numbered t) held has = held.0
