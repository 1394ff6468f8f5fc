use Rattle.bv_terms.proofs.OperationFits.{same-words}
use Rattle.bv_terms.proofs.operations.are_same.Goals as goal

pub returns : goal.returns
returns c =
    same-words c.args.forms.now c.requires.kept c.args.a c.args.b c.is_word.result c.requires.a_below c.requires.b_below c.is_word.ensures.0 c.is_word.ensures.1
