use Rattle.std.proofs.Common.{◌≡◌, map, ap, sym, ◌∙◌, true, false}
use Rattle.path_report.specs.Report.{path_text}
use Rattle.path_report.specs.Reading.{IsOutcomeRow}
use Rattle.path_report.specs.code.Words.{words_between}
use Rattle.path_report.proofs.ReadLemmas.{some_is_none, some_some, some_has, apart}
use Rattle.path_report.proofs.WordLemmas.{words_of_row}
use Rattle.path_report.proofs.reading.read_row.Goals as goal

-- src/reading.rt:29:9
pub returns-in_default : goal.returns-in_default
returns-in_default c = λ same row spelled.
    some_is_none c.in_ok-row.field-0 row (c.in_ok-row.ensures.only row spelled.0 (ap (λ l. map (λ w. w.now) l) c.as_slice.ensures.value ∙ c.in_ok-words.ensures ∙ ap words_between spelled.1 ∙ words_of_row row spelled.0)) c.in_default.is

-- src/reading.rt:32:9
pub returns-then-not-branch : goal.returns-then-not-branch
returns-then-not-branch c = λ same row spelled.
    let read = some_some c.in_ok-row.field-0 c.in-Some.row row c.in-Some.is (c.in_ok-row.ensures.only row spelled.0 (ap (λ l. map (λ w. w.now) l) c.as_slice.ensures.value ∙ c.in_ok-words.ensures ∙ ap words_between spelled.1 ∙ words_of_row row spelled.0)) in
    apart c.in_ok-is_line_of.field-0 (c.in_ok-is_line_of.ensures.1 (spelled.1 ∙ ap path_text (sym read))) c.if-not-branch.true

-- src/reading.rt:22:1
pub returns : goal.returns
returns c = (
  (some_has IsOutcomeRow c.in_ok-row.field-0 c.in-Some.row c.in-Some.is c.in_ok-row.ensures.fits, c.in_ok-is_line_of.ensures.0 c.if-not-branch.false),
  λ other spelled. some_some c.in_ok-row.field-0 c.in-Some.row other c.in-Some.is (c.in_ok-row.ensures.only other spelled.0 (ap (λ l. map (λ w. w.now) l) c.as_slice.ensures.value ∙ c.in_ok-words.ensures ∙ ap words_between spelled.1 ∙ words_of_row other spelled.0)),
)
