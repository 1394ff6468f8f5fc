use Rattle.std.proofs.Common.{All}
use Rattle.term_rows.specs.Sessions.{IsAsked}
use Rattle.term_rows.proofs.questions.put_conds.Given as goal

abbrev pub invariant-loop-place : goal.invariant-loop-place
invariant-loop-place l = All (λ cond. IsAsked l.session l.drawn cond.term) l.conds.items
