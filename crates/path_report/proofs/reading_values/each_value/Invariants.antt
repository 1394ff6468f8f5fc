use Rattle.std.proofs.Common.{map, take}
use Rattle.std.specs.List.{AllZip}
use Rattle.path_report.specs.Report.{value_text}
use Rattle.path_report.specs.Reading.{Fits}
use Rattle.path_report.proofs.ZipLemmas.{ReadsAs}
use Rattle.path_report.proofs.reading_values.each_value.Given as goal

abbrev pub invariant-loop-word : goal.invariant-loop-word
invariant-loop-word l = AllZip (ReadsAs value_text Fits) (map (λ w. w.now) (take l.word-index l.words)) l.values.items
