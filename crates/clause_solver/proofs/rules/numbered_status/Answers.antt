use Rattle.std.proofs.Common.{sym, ap, ◌∙◌, arith}
use Rattle.refute_check.specs.Machine.{status}
use Rattle.clause_solver.specs.code.Watching.{status_at}
use Rattle.clause_solver.proofs.Watching.{status_past}
use Rattle.clause_solver.proofs.rules.numbered_status.Goals as goal

pub returns-then-number-len : goal.returns-then-number-len
returns-then-number-len c = status_past c.args.trail.now c.args.clauses.now c.args.number (omega arith)

pub returns : goal.returns
returns c = c.clause_status.ensures ∙ ap (λ x. status c.args.trail.now x) c.as_slice.ensures ∙ ap (λ o. status_at c.args.trail.now o) (sym c.get.ensures)
