-- When the two listeners leave, and what they say at the end.
use Rattle.std.specs.Prelude.{◌==◌, ℕ, Bool, true, false, not, ◌&&◌, List, ◌++◌, codes, decimal}
use Rattle.path_report.specs.declared.counts.Counts.{Counts}

-- a row trapped or failed
abbrev pub clean_enough : Counts → Bool
clean_enough c = not (c.traps == 0 && c.fails == 0)

abbrev pub clean_ending : Counts → List ℕ
clean_ending c = codes "clean\n"

abbrev pub tally_enough : Counts → Bool
tally_enough c = false

abbrev pub tally_ending : Counts → List ℕ
tally_ending c =
    codes "tally returns " ++ decimal c.returns ++ codes " traps " ++ decimal c.traps ++ codes " fails " ++ decimal c.fails ++ codes " bound " ++ decimal c.bound
    ++ codes " deep " ++ decimal c.deep ++ codes " cut " ++ decimal c.cut ++ codes " undecided " ++ decimal c.undecided ++ codes " void " ++ decimal c.void ++ codes "\n"
