use Rattle.std.proofs.Common.{◌≡◌, List, map, take, subst, take_all, ap, ◌∙◌, Some}
use Rattle.std.specs.List.{AllZip}
use Rattle.path_report.specs.Report.{value_text}
use Rattle.path_report.specs.Reading.{Fits}
use Rattle.path_report.proofs.ReadLemmas.{some_is_none, some_some}
use Rattle.path_report.proofs.ZipLemmas.{ReadsAs, zip_more, zip_good, zip_only, none_read}
use Rattle.path_report.proofs.reading_values.each_value.Goals as goal

-- src/reading_values.rt:47:13
pub returns-in_default-clause-only : goal.returns-in_default-clause-only
returns-in_default-clause-only c = λ values good e.
    absurd (none_read value_text Fits (λ w. w.now) c.args.words.now c.loop-word.word-index _ c.loop-word-test.true (λ v fits same. some_is_none c.value_of.result v (c.value_of.ensures.only v fits same) c.in_default.is) values good e)

-- src/reading_values.rt:45:5
pub loop-word-preserved : goal.loop-word-preserved
loop-word-preserved c =
    rw c.in_ok-push.ensures.items (zip_more (λ w. w.now) (ReadsAs value_text Fits) c.args.words.now c.loop-word.values.items c.loop-word.word-index _ c.in-Some.value c.loop-word-test.true c.loop-word.invariant
    (c.in-Some.ensures.fits, λ v fits same. some_some c.value_of.result c.in-Some.value v c.in-Some.is (c.value_of.ensures.only v fits same)))

-- src/reading_values.rt:40:1
pub returns-clause-fits : goal.returns-clause-fits
returns-clause-fits c = rw c.new.ensures (zip_good value_text Fits _ c.loop-word.values.items c.loop-word.invariant)

-- src/reading_values.rt:40:1
pub returns-clause-only : goal.returns-clause-only
returns-clause-only c = λ values good e.
    let read = subst (λ l. AllZip (ReadsAs value_text Fits) (map (λ w. w.now) l) c.loop-word.values.items) (take_all c.loop-word.word-index c.args.words.now c.loop-word-test.false) c.loop-word.invariant in
    ap (λ l. Some l) (c.new.ensures ∙ zip_only value_text Fits (map (λ w. w.now) c.args.words.now) c.loop-word.values.items values read good e)
