use Rattle.std.proofs.Common.{Some, take, length, map, sym, ap, ◌∙◌}
use Rattle.std.specs.Prelude.{slice_index_or}
use Rattle.bv_terms.specs.declared.words.Word.{Word}
use Rattle.bv_terms.specs.declared.words.Word.TheVariants.{Num}
use Rattle.bv_terms.specs.Terms.{Number, bytes_from}
use Rattle.bv_terms.specs.Graphs.{word_among, terms_of}
use Rattle.bv_terms.proofs.ListLemmas.{get-at}
use Rattle.bv_terms.proofs.FitLemmas.{word-no_number, numbers-none, join-none, join-some, small, filled-whole}
use Rattle.bv_terms.proofs.rules.joined_number.Goals as goal

pub returns-in-Term : goal.returns-in-Term
returns-in-Term c =
    let word : Word = slice_index_or c.args.bytes.now c.loop-i.i (Num 0) in
    join-none c.args.wide (bytes_from (map (word_among (terms_of c.args.forms.now)) c.args.bytes.now))
    (numbers-none (terms_of c.args.forms.now) c.args.bytes.now c.loop-i.i word (get-at c.args.bytes.now c.loop-i.i (Num 0) c.loop-i-test.true)
    (word-no_number c.args.forms.now word c.in-Term.field-0 c.requires.kept (c.requires.below c.loop-i.i (Num 0) c.loop-i-test.true) c.in-Term.is))

pub join-requires-clause-each : goal.join-requires-clause-each
join-requires-clause-each c =
    small (terms_of c.args.forms.now) c.args.bytes.now (take (length c.args.bytes.now) c.loop-i.all)
    (filled-whole c.args.bytes.now c.loop-i.all c.loop-i.i c.loop-i.invariant c.loop-i.auto.i-end c.loop-i-test.false) c.requires.each

pub returns : goal.returns
returns c = (
  join-some c.args.wide (terms_of c.args.forms.now) c.args.bytes.now (take (length c.args.bytes.now) c.loop-i.all)
      (filled-whole c.args.bytes.now c.loop-i.all c.loop-i.i c.loop-i.invariant c.loop-i.auto.i-end c.loop-i-test.false)
      ∙ ap (λ n. Some (Number n)) (sym c.join.ensures),
  tt,
)
