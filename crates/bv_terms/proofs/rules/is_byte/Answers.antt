use Rattle.std.proofs.Common.{Some, ap, ◌∙◌}
use Rattle.std.proofs.lemmas.Bool.{false≢true}
use Rattle.bv_terms.specs.Graphs.{word_among, terms_of}
use Rattle.bv_terms.proofs.FitLemmas.{byte-is, byte-is_not}
use Rattle.bv_terms.proofs.rules.is_byte.Goals as goal

pub returns-in-Byte : goal.returns-in-Byte
returns-in-Byte c =
    byte-is c.args.forms.now c.requires.kept c.args.word c.args.a c.in-Byte.b c.in-Term.t c.args.i c.in-Byte.j c.are_equal.result c.in-Term.is
    (c.get.ensures ∙ ap (λ form. Some form) c.in-Byte.is) c.requires.a_below c.are_equal.ensures.0 c.are_equal.ensures.1

pub returns-in_default : goal.returns-in_default
returns-in_default c = (
  λ wrong. absurd (false≢true wrong),
  λ e. absurd (byte-is_not c.args.forms.now c.requires.kept c.args.word c.in-Term.t c.get.result.now (word_among (terms_of c.args.forms.now) c.args.a) c.args.i
      c.in-Term.is c.get.ensures c.in_default.not-Byte e),
)
