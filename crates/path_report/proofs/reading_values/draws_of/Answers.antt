use Rattle.std.proofs.Common.{◌≡◌, List, map, ap, sym, ◌∙◌, Some}
use Rattle.path_report.specs.Report.{draw_value}
use Rattle.path_report.specs.code.Words.{list_words}
use Rattle.path_report.proofs.ReadLemmas.{if_ok, some_is_none, some_some}
use Rattle.path_report.proofs.ValueLemmas.{values_of_draws, fits_of_draws}
use Rattle.path_report.proofs.reading_values.draws_of.Goals as goal

-- src/reading_values.rt:114:1
pub returns-in-Some-clause-only : goal.returns-in-Some-clause-only
returns-in-Some-clause-only c =
    if_ok c.numbers_drawn.result c.numbers_drawn.ensures.only (λ read only draws good e.
    only draws good (c.as_slice.ensures ∙ some_some c.in_ok-values.field-0 c.in-Some.values (map draw_value draws) c.in-Some.is
    (c.in_ok-values.ensures.only (map draw_value draws) (fits_of_draws draws good) (e ∙ ap list_words (values_of_draws draws)))))

-- src/reading_values.rt:114:1
pub returns-in-None-clause-only : goal.returns-in-None-clause-only
returns-in-None-clause-only c = λ draws good e.
    absurd (some_is_none c.in_ok-values.field-0 (map draw_value draws) (c.in_ok-values.ensures.only (map draw_value draws) (fits_of_draws draws good) (e ∙ ap list_words (values_of_draws draws))) c.in-None.is)
