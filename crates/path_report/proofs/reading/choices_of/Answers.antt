use Rattle.std.proofs.Common.{◌≡◌, ℕ, ◌+◌, ◌≤◌, List, map, take, subst, take_all, map-id, ap, ◌∙◌, Some}
use Rattle.std.specs.List.{AllZip}
use Rattle.path_report.proofs.ReadLemmas.{is_text, is_not_text, some_is_none, some_some}
use Rattle.path_report.proofs.ValueLemmas.{no_choices, some_choices}
use Rattle.path_report.proofs.ZipLemmas.{ReadsAs, zip_more, zip_good, zip_only, none_read}
use Rattle.path_report.proofs.reading.choices_of.Goals as goal

-- src/reading.rt:92:9
pub returns-then-eq-clause-only : goal.returns-then-eq-clause-only
returns-then-eq-clause-only c = λ choices low e.
    ap (λ l. Some l) (c.new.ensures ∙ c.new-choices.ensures.items ∙ no_choices c.args.text.now choices low (is_text _ _ c.if-eq.ensures) e)

-- src/reading.rt:96:13
pub returns-in_default-clause-only : goal.returns-in_default-clause-only
returns-in_default-clause-only c = λ choices low e.
    absurd (none_read (λ side. 48 + side) (λ side. side ≤ 1) (λ d. d) c.as_bytes-digit-items.result.now c.loop-digit.digit-index _ c.loop-digit-test.true
    (λ side good same. some_is_none c.side_of.result side (c.side_of.ensures.only side good same) c.in_default.is) choices low
    (map-id c.as_bytes-digit-items.result.now ∙ c.as_bytes-digit-items.ensures.value ∙ some_choices c.args.text.now choices low (is_not_text _ _ c.eq.result c.eq.ensures c.if-eq.false) e))

-- src/reading.rt:94:5
pub loop-digit-preserved : goal.loop-digit-preserved
loop-digit-preserved c =
    rw c.in_ok-push.ensures.items (zip_more (λ d. d) (ReadsAs (λ side. 48 + side) (λ side. side ≤ 1)) c.as_bytes-digit-items.result.now c.loop-digit.choices.items c.loop-digit.digit-index _ c.in-Some.side c.loop-digit-test.true c.loop-digit.invariant
    (c.in-Some.ensures.fits, λ side good same. some_some c.side_of.result c.in-Some.side side c.in-Some.is (c.side_of.ensures.only side good same)))

-- src/reading.rt:86:1
pub returns-clause-fits : goal.returns-clause-fits
returns-clause-fits c = rw c.new-2.ensures (zip_good (λ side. 48 + side) (λ side. side ≤ 1) _ c.loop-digit.choices.items c.loop-digit.invariant)

-- src/reading.rt:86:1
pub returns-clause-only : goal.returns-clause-only
returns-clause-only c = λ choices low e.
    let read = subst (λ l. AllZip (ReadsAs (λ side. 48 + side) (λ side. side ≤ 1)) (map (λ d. d) l) c.loop-digit.choices.items) (take_all c.loop-digit.digit-index c.as_bytes-digit-items.result.now c.loop-digit-test.false) c.loop-digit.invariant in
    ap (λ l. Some l) (c.new-2.ensures ∙ zip_only (λ side. 48 + side) (λ side. side ≤ 1) (map (λ d. d) c.as_bytes-digit-items.result.now) c.loop-digit.choices.items choices read low
    (map-id c.as_bytes-digit-items.result.now ∙ c.as_bytes-digit-items.ensures.value ∙ some_choices c.args.text.now choices low (is_not_text _ _ c.eq.result c.eq.ensures c.if-eq.false) e))
