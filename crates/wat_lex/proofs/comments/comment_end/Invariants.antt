use Rattle.std.proofs.Common.{◌≡◌, ◌-◌, ◌≤◌, length, drop}
use Rattle.wasm_text.specs.Lexing.{comment_end}
use Rattle.wat_lex.proofs.comments.comment_end.Given as goal

abbrev pub invariant-loop-at : goal.invariant-loop-at
invariant-loop-at l = record {
  same : comment_end 0 l.fn.from (drop l.fn.from l.bytes) ≡ comment_end l.inner l.at (drop l.at l.bytes);
  start : l.fn.from ≤ l.at;
  within : l.at ≤ length l.bytes;
  few : l.inner ≤ l.at;
}

abbrev pub decreases-loop-at : goal.decreases-loop-at
decreases-loop-at l = length l.bytes - l.at
