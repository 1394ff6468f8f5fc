use Rattle.std.proofs.Common.{◌≢◌, All, take, codes}
use Rattle.path_report.proofs.reading.around_input.Given as goal

abbrev pub invariant-loop-i : goal.invariant-loop-i
invariant-loop-i l = All (λ w. w.now ≢ codes "input") (take l.i l.words)
