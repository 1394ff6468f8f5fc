use Rattle.std.proofs.Common.{◌≡◌, ◌≤◌, ◌-◌, length}
use Rattle.wasm_binary.specs.Instructions.{expression}
use Rattle.wasm_read.specs.Nests.{IsNest, rest}
use Rattle.wasm_read.proofs.expressions.read_expr.Given as goal

-- reading on from here gives what the form gives from the start
abbrev pub invariant-turns : goal.invariant-turns
invariant-turns l =
    (l.at ≤ length l.view.bytes)
    × IsNest l.nest
    × ((expression l.has_data_count).read l.view l.start ≡ rest l.view l.has_data_count l.nest l.at)

abbrev pub decreases-turns : goal.decreases-turns
decreases-turns l = length l.view.bytes - l.at
