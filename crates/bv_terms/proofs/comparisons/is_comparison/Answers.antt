use Rattle.std.proofs.Common.{ap, sym, ◌∙◌}
use Rattle.bv_terms.specs.Making.{is_comparison}
use Rattle.bv_terms.specs.Graphs.{terms_of}
use Rattle.bv_terms.proofs.FitLemmas.{at-word}
use Rattle.bv_terms.proofs.comparisons.is_comparison.Goals as goal

pub returns-in-Term : goal.returns-in-Term
returns-in-Term c =
    c.form_compares.ensures (terms_of c.args.forms.now)
    ∙ ap is_comparison (sym (at-word c.args.forms.now c.requires.kept c.args.word c.in-Term.t c.get.result.now c.in-Term.is c.get.ensures))
