-- The trouble of least place so far.
use Rattle.std.specs.Prelude.{nat_le, if◌then◌else◌, List, [], ◌∷◌, Option, Some, None}
use Rattle.wasm_text.specs.declared.bad.TextBad.{TextBad}
use Rattle.wasm_text.specs.NameTroubles.{at_of}

-- after one more trouble
abbrev pub sooner : Option TextBad → TextBad → Option TextBad
sooner None bad = Some bad
sooner (Some found) bad = if nat_le (at_of found) (at_of bad) then Some found else Some bad

-- after these troubles
abbrev pub noted : List TextBad → Option TextBad → Option TextBad
noted [] found = found
noted (bad ∷ rest) found = noted rest (sooner found bad)

-- after what was found later
abbrev pub joined : Option TextBad → Option TextBad → Option TextBad
joined found None = found
joined found (Some bad) = sooner found bad
