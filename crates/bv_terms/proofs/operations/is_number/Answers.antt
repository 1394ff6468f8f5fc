use Rattle.std.proofs.Common.{sym}
use Rattle.bv_terms.specs.Graphs.{word_among, terms_of}
use Rattle.bv_terms.proofs.FitLemmas.{word-no_number}
use Rattle.bv_terms.proofs.OperationFits.{not-the}
use Rattle.bv_terms.proofs.operations.is_number.Goals as goal

pub returns-in-Term : goal.returns-in-Term
returns-in-Term c =
    sym (not-the c.args.n (word_among (terms_of c.args.forms.now) c.args.word)
    (word-no_number c.args.forms.now c.args.word c.in-Term.field-0 c.requires.kept c.requires.below c.in-Term.is))
