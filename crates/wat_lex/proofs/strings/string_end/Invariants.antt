use Rattle.std.proofs.Common.{◌≡◌, ◌+◌, ◌-◌, ◌<◌, ◌≤◌, length, drop}
use Rattle.wasm_text.specs.Lexing.{string_end}
use Rattle.wat_lex.proofs.strings.string_end.Given as goal

abbrev pub invariant-loop-at : goal.invariant-loop-at
invariant-loop-at l = record {
  same : string_end l.fn.quote 0 (l.fn.quote + 1) (drop (l.fn.quote + 1) l.bytes) ≡ string_end l.fn.quote 0 l.at (drop l.at l.bytes);
  start : l.fn.quote < l.at;
  within : l.at ≤ length l.bytes;
}

abbrev pub decreases-loop-at : goal.decreases-loop-at
decreases-loop-at l = length l.bytes - l.at
