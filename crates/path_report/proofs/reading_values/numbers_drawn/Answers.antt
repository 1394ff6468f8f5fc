use Rattle.std.proofs.Common.{◌≡◌, List, map, take, subst, take_all, map-id, ap, ◌∙◌, Some}
use Rattle.std.specs.List.{AllZip}
use Rattle.path_report.specs.Report.{draw_value}
use Rattle.path_report.specs.Reading.{Fits}
use Rattle.path_report.proofs.ReadLemmas.{some_is_none, some_some}
use Rattle.path_report.proofs.ZipLemmas.{ReadsAs, zip_more, zip_good, zip_only, none_read}
use Rattle.path_report.proofs.reading_values.numbers_drawn.Goals as goal

-- src/reading_values.rt:132:13
pub returns-in_default-clause-only : goal.returns-in_default-clause-only
returns-in_default-clause-only c = λ draws good e.
    absurd (none_read draw_value (λ draw. Fits (draw_value draw)) (λ v. v) c.args.values.now c.loop-value.value-index _ c.loop-value-test.true
    (λ draw fits same. some_is_none c.number_drawn.result draw (c.number_drawn.ensures.only draw same) c.in_default.is) draws good (map-id c.args.values.now ∙ e))

-- src/reading_values.rt:130:5
pub loop-value-preserved : goal.loop-value-preserved
loop-value-preserved c =
    rw c.in_ok-push.ensures.items (zip_more (λ v. v) (ReadsAs draw_value (λ draw. Fits (draw_value draw))) c.args.values.now c.loop-value.draws.items c.loop-value.value-index _ c.in-Some.draw c.loop-value-test.true c.loop-value.invariant
    (c.in-Some.ensures.fits, λ draw fits same. some_some c.number_drawn.result c.in-Some.draw draw c.in-Some.is (c.number_drawn.ensures.only draw same)))

-- src/reading_values.rt:125:1
pub returns-clause-fits : goal.returns-clause-fits
returns-clause-fits c = rw c.new.ensures (zip_good draw_value (λ draw. Fits (draw_value draw)) _ c.loop-value.draws.items c.loop-value.invariant)

-- src/reading_values.rt:125:1
pub returns-clause-only : goal.returns-clause-only
returns-clause-only c = λ draws good e.
    let read = subst (λ l. AllZip (ReadsAs draw_value (λ draw. Fits (draw_value draw))) (map (λ v. v) l) c.loop-value.draws.items) (take_all c.loop-value.value-index c.args.values.now c.loop-value-test.false) c.loop-value.invariant in
    ap (λ l. Some l) (c.new.ensures ∙ zip_only draw_value (λ draw. Fits (draw_value draw)) (map (λ v. v) c.args.values.now) c.loop-value.draws.items draws read good (map-id c.args.values.now ∙ e))
