use Rattle.std.proofs.Common.{ℕ, ◌≤◌, ◌+◌, map, take}
use Rattle.std.specs.List.{AllZip}
use Rattle.path_report.proofs.ZipLemmas.{ReadsAs}
use Rattle.path_report.proofs.reading.choices_of.Given as goal

abbrev pub invariant-loop-digit : goal.invariant-loop-digit
invariant-loop-digit l = AllZip (ReadsAs (λ side. 48 + side) (λ side. side ≤ 1)) (map (λ d. d) (take l.digit-index l.digit-items)) l.choices.items
