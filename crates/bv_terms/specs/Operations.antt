-- The operation of a form, as the code looks it up.
use Rattle.std.specs.Prelude.{◌≡◌, ℕ, Option, Some, None, List}
use Rattle.int_ops.specs.Operators.{bits_of}
use Rattle.bv_terms.specs.declared.words.Form.{Form}
use Rattle.bv_terms.specs.declared.operations.OnTwo.{OnTwo}
use Rattle.bv_terms.specs.Terms.{Term}
use Rattle.bv_terms.specs.Making.{ByOperation, by_operation}
use Rattle.bv_terms.specs.Graphs.{word_among, form_among, IsBelow, OperandsBelow}

-- what rules that go by the operation give of the form; its operands are below what the form's are below
pub record HasOperation (form : Form) (of : OnTwo) : Type 0 where
  pub gives : (rule : ByOperation) (terms : List Term) → by_operation rule (form_among terms form) ≡ rule of.operation (bits_of of.width) (word_among terms of.a) (word_among terms of.b)
  pub below : (bound : ℕ) → OperandsBelow bound form → IsBelow bound of.a × IsBelow bound of.b

abbrev pub IsOnTwo : Form → Option OnTwo → Type 0
IsOnTwo form None = (rule : ByOperation) (terms : List Term) → by_operation rule (form_among terms form) ≡ None
IsOnTwo form (Some of) = HasOperation form of
