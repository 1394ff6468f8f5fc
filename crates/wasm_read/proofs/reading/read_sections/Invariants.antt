use Rattle.std.proofs.Common.{◌≤◌, ◌-◌, length}
use Rattle.wasm_read.proofs.PassingLaws.{IsReadTo}
use Rattle.wasm_read.proofs.reading.read_sections.Given as goal

-- what is read from here on is what is read from the start, with the custom sections so far
abbrev pub invariant-sections : goal.invariant-sections
invariant-sections l = (l.at ≤ length l.view.bytes) × IsReadTo l.keeps l.view l.start l.sections l.at

abbrev pub decreases-sections : goal.decreases-sections
decreases-sections l = length l.view.bytes - l.at
