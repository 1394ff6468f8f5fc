use Rattle.std.proofs.Common.{All}
use Rattle.term_rows.specs.Sessions.{IsWord}
use Rattle.term_rows.proofs.session.Session.bytes.Given as goal

abbrev pub invariant-loop-place : goal.invariant-loop-place
invariant-loop-place l = All (IsWord l.self 8) l.words.items
