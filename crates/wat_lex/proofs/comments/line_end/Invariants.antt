use Rattle.std.proofs.Common.{◌≡◌, ◌-◌, ◌≤◌, length, drop}
use Rattle.wasm_text.specs.Characters.{is_in_line}
use Rattle.wasm_text.specs.Lexing.{run_end}
use Rattle.wat_lex.proofs.comments.line_end.Given as goal

abbrev pub invariant-loop-at : goal.invariant-loop-at
invariant-loop-at l = record {
  same : run_end is_in_line l.fn.from (drop l.fn.from l.bytes) ≡ run_end is_in_line l.at (drop l.at l.bytes);
  start : l.fn.from ≤ l.at;
  within : l.at ≤ length l.bytes;
}

abbrev pub decreases-loop-at : goal.decreases-loop-at
decreases-loop-at l = length l.bytes - l.at
