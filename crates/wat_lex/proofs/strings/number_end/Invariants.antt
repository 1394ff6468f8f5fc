use Rattle.std.proofs.Common.{◌≡◌, ◌+◌, ◌-◌, ◌<◌, ◌≤◌, false, length, drop}
use Rattle.wasm_text.specs.Lexing.{number_end}
use Rattle.wat_lex.proofs.strings.number_end.Given as goal

abbrev pub invariant-loop-at : goal.invariant-loop-at
invariant-loop-at l = record {
  same : number_end l.fn.quote l.fn.slash (l.fn.slash + 3) 0 false (drop (l.fn.slash + 3) l.bytes)
      ≡ number_end l.fn.quote l.fn.slash l.at l.number l.digit (drop l.at l.bytes);
  start : l.fn.slash < l.at;
  within : l.at ≤ length l.bytes;
}

abbrev pub decreases-loop-at : goal.decreases-loop-at
decreases-loop-at l = length l.bytes - l.at
