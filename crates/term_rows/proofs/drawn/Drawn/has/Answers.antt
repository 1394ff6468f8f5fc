use Rattle.std.proofs.Common.{List, Bool, subst}
use Rattle.std.specs.Prelude.{IsTrue}
use Rattle.bv_terms.specs.declared.words.Word.TheVariants.{Term as Numbered}
use Rattle.term_rows.specs.Sessions.{is_over}
use Rattle.term_rows.proofs.QuestionLemmas.{asked}
use Rattle.term_rows.proofs.drawn.Drawn.has.Goals as goal

pub returns : goal.returns
returns c = λ yes.
    asked c.args.g.now c.args.self.now.draws.items c.args.self.now.flags.items c.requires.over c.args.t c.terms-terms.ensures.kept c.requires.held
    (subst (λ (flags : List Bool). IsTrue (is_over flags (Numbered c.args.t))) c.as_slice.ensures.value (subst IsTrue c.is_over.ensures yes))
