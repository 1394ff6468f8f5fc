use Rattle.std.proofs.Common.{◌≡◌, length}
use Rattle.term_rows.specs.Sessions.{HaveSymbols}
use Rattle.term_rows.proofs.drawn.flags_of.Given as goal

abbrev pub invariant-loop-place : goal.invariant-loop-place
invariant-loop-place l = record {
  so_far : HaveSymbols l.g l.draws l.flags.items;
  count : length l.flags.items ≡ l.place;
}
