use Rattle.std.proofs.Common.{ap, sym, ◌∙◌}
use Rattle.bv_terms.specs.Terms.{width_of}
use Rattle.bv_terms.specs.Graphs.{word_among, terms_of}
use Rattle.bv_terms.proofs.GraphLemmas.{numbered-is}
use Rattle.bv_terms.proofs.rules.width.Goals as goal

pub returns-in-Term : goal.returns-in-Term
returns-in-Term c =
    c.width_of_form.ensures (terms_of c.args.forms.now)
    ∙ ap width_of (sym (ap (word_among (terms_of c.args.forms.now)) c.in-Term.is ∙ numbered-is c.args.forms.now c.in-Term.t c.get.result.now c.requires.kept c.get.ensures))
