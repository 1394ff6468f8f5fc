use Rattle.std.proofs.Common.{map, take}
use Rattle.std.specs.List.{AllZip}
use Rattle.path_report.specs.Report.{draw_value}
use Rattle.path_report.specs.Reading.{Fits}
use Rattle.path_report.proofs.ZipLemmas.{ReadsAs}
use Rattle.path_report.proofs.reading_values.numbers_drawn.Given as goal

abbrev pub invariant-loop-value : goal.invariant-loop-value
invariant-loop-value l = AllZip (ReadsAs draw_value (λ draw. Fits (draw_value draw))) (map (λ v. v) (take l.value-index l.values)) l.draws.items
