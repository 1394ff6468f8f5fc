use Rattle.std.proofs.Common.{◌≡◌, ◌++◌, string_bytes, flat_map, take, decimal}
use Rattle.path_report.proofs.rows.put_choices.Given as goal

abbrev pub invariant-loop-side : goal.invariant-loop-side
invariant-loop-side l = string_bytes l.out ≡ string_bytes l.initial.out ++ flat_map decimal (take l.side-index l.choices)
