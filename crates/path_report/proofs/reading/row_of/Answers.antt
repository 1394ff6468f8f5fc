use Rattle.std.proofs.Common.{◌≡◌, [], map, ap, sym, ◌∙◌, Some, codes}
use Rattle.path_report.specs.Report.{draw_text}
use Rattle.path_report.specs.code.Words.{list_words, kind_words}
use Rattle.path_report.proofs.ReadLemmas.{some_is_none, some_some, no_input_kind, two_first, same_row}
use Rattle.path_report.proofs.reading.row_of.Goals as goal

-- src/reading.rt:65:9
pub returns-in_default-around_input-clause-only : goal.returns-in_default-around_input-clause-only
returns-in_default-around_input-clause-only c = λ row is e.
    absurd (c.in_default-around_input.ensures (kind_words row.kind) (list_words (map draw_text row.draws)) (no_input_kind row.kind is.kind) (two_first c.args.words.now (record { ref_ptr = (0, 0); now = [] }) _ _ _ e).1)

-- src/reading.rt:68:9
pub returns-in_default-3-clause-only : goal.returns-in_default-3-clause-only
returns-in_default-3-clause-only c = λ row is e.
    let parts = c.in-Some-around_input.ensures (kind_words row.kind) (list_words (map draw_text row.draws)) (no_input_kind row.kind is.kind) (two_first c.args.words.now (record { ref_ptr = (0, 0); now = [] }) _ _ _ e).1 in
    absurd (some_is_none c.in_ok-kind.field-0 row.kind (c.in_ok-kind.ensures.only row.kind is.kind parts.0) c.in_default-3.is)

-- src/reading.rt:71:9
pub returns-in_default-4-clause-only : goal.returns-in_default-4-clause-only
returns-in_default-4-clause-only c = λ row is e.
    let parts = c.in-Some-around_input.ensures (kind_words row.kind) (list_words (map draw_text row.draws)) (no_input_kind row.kind is.kind) (two_first c.args.words.now (record { ref_ptr = (0, 0); now = [] }) _ _ _ e).1 in
    absurd (some_is_none c.in_ok-draws.field-0 row.draws (c.in_ok-draws.ensures.only row.draws is.draws parts.1) c.in_default-4.is)

-- src/reading.rt:54:1
pub returns-clause-only : goal.returns-clause-only
returns-clause-only c = λ row is e.
    let two = two_first c.args.words.now _ _ _ _ e in
    let parts = c.in-Some-around_input.ensures (kind_words row.kind) (list_words (map draw_text row.draws)) (no_input_kind row.kind is.kind) two.1 in
    let choices = some_some c.in_ok-choices.field-0 c.in-Some.choices row.choices c.in-Some.is (c.in_ok-choices.ensures.only row.choices is.choices two.0) in
    let kind = some_some c.in_ok-kind.field-0 c.in-Some-2.kind row.kind c.in-Some-2.is (c.in_ok-kind.ensures.only row.kind is.kind parts.0) in
    let draws = some_some c.in_ok-draws.field-0 c.in-Some-3.draws row.draws c.in-Some-3.is (c.in_ok-draws.ensures.only row.draws is.draws parts.1) in
    ap (λ r. Some r) (same_row _ row choices kind draws (ap (λ l. record { lines = l; results = c.new-4.result }) (c.new-2.ensures ∙ c.new.ensures.items) ∙ ap (λ l. record { lines = []; results = l }) (c.new-4.ensures ∙ c.new-3.ensures.items) ∙ sym is.terms))
