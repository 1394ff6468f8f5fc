use Rattle.std.proofs.Common.{◌+◌, ◌-◌, ◌<◌, ◌≤◌, take, length}
use Rattle.std.specs.Prelude.{sum_by}
use Rattle.wasm_check.proofs.locals.group_of.Given as goal

abbrev pub invariant-loop-low : goal.invariant-loop-low
invariant-loop-low l =
    (l.low ≤ l.high) × (l.high ≤ length l.ends) × (sum_by (λ g. g.count) (take l.low l.groups) ≤ l.x)
    × (l.high < length l.ends → l.x < sum_by (λ g. g.count) (take (l.high + 1) l.groups))

abbrev pub decreases-loop-low : goal.decreases-loop-low
decreases-loop-low l = l.high - l.low
