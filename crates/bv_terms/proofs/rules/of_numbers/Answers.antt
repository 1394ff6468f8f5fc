use Rattle.std.proofs.Common.{◌≤◌, All, length, sym, subst}
use Rattle.bv_terms.specs.Terms.{HasWidth}
use Rattle.bv_terms.specs.Graphs.{word_among, terms_of}
use Rattle.bv_terms.proofs.FitLemmas.{join-count, join-each}
use Rattle.bv_terms.proofs.rules.of_numbers.Goals as goal

pub joined_number-requires-clause-count : goal.joined_number-requires-clause-count
joined_number-requires-clause-count c =
    subst (λ words. length words ≤ 8) (sym c.as_slice.ensures)
    (join-count (terms_of c.args.forms.now) c.args.form.now c.in-Join.wide c.in-Join.bytes c.in-Join.is c.requires.typed)

pub joined_number-requires-clause-each : goal.joined_number-requires-clause-each
joined_number-requires-clause-each c =
    subst (All (λ b. HasWidth 8 (word_among (terms_of c.args.forms.now) b))) (sym c.as_slice.ensures)
    (join-each (terms_of c.args.forms.now) c.args.form.now c.in-Join.wide c.in-Join.bytes c.in-Join.is c.requires.typed)
