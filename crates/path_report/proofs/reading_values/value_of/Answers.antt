use Rattle.std.proofs.Common.{sym, ◌∙◌}
use Rattle.path_report.proofs.ReadLemmas.{is_text}
use Rattle.path_report.proofs.ValueLemmas.{is_null}
use Rattle.path_report.proofs.reading_values.value_of.Goals as goal

-- src/reading_values.rt:72:9
pub returns-then-eq-clause-only : goal.returns-then-eq-clause-only
returns-then-eq-clause-only c = λ value fits e. is_null value fits (sym (is_text _ _ c.if-eq.ensures) ∙ e)
