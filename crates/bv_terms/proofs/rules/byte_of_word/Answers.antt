use Rattle.std.proofs.Common.{Some, ap, ◌∙◌}
use Rattle.std.specs.Prelude.{slice_get, unwrap_or}
use Rattle.bv_terms.specs.declared.words.Word.TheVariants.{Num}
use Rattle.bv_terms.specs.Terms.{Byte}
use Rattle.bv_terms.specs.Making.{byte_of_join}
use Rattle.bv_terms.specs.Graphs.{terms_of}
use Rattle.bv_terms.proofs.FitLemmas.{at-word, byte_no_join, byte-gives}
use Rattle.bv_terms.proofs.rules.byte_of_word.Goals as goal

pub returns-in_default : goal.returns-in_default
returns-in_default c =
    ap (λ t. byte_of_join (Byte t c.args.i)) (at-word c.args.forms.now c.requires.kept c.args.a c.in-Term.t c.get.result.now c.in-Term.is c.get.ensures)
    ∙ byte_no_join (terms_of c.args.forms.now) c.get.result.now c.args.i c.in_default.not-Join

pub returns-in-Join : goal.returns-in-Join
returns-in-Join c =
    byte-gives c.args.forms.now c.requires.kept c.args.a c.byte_at.result c.in-Term.t c.in-Join.wide c.in-Join.bytes c.args.i c.in-Term.is
    (c.get.ensures ∙ ap (λ form. Some form) c.in-Join.is) (c.byte_at.ensures ∙ ap (λ words. unwrap_or (slice_get words c.args.i) (Num 0)) c.as_slice.ensures)
