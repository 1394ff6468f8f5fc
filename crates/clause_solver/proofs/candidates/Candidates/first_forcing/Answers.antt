use Rattle.std.proofs.Common.{sym, ◌∙◌}
use Rattle.clause_solver.proofs.Statuses.{not_forces}
use Rattle.clause_solver.proofs.Watching.{seen_spent, forced_found, forced_absent}
use Rattle.clause_solver.proofs.candidates.Candidates.first_forcing.Goals as goal

pub returns-in-Forces-clause-found : goal.returns-in-Forces-clause-found
returns-in-Forces-clause-found c = sym (forced_found c.args.trail.now c.args.clauses.now c.loop-number.self.falsified.keys c.loop-number.self.forcing.keys c.loop-number.invariant c.in-Some.number c.in-Forces.literal c.in-Some.ensures.1 c.in-Forces.ensures)

pub loop-number-preserved : goal.loop-number-preserved
loop-number-preserved c = seen_spent c.args.trail.now c.args.clauses.now c.loop-number.self.falsified.keys c.loop-number.self.forcing.keys c.take_off.new.numbers.keys c.in-Some.number c.loop-number.invariant c.take_off.ensures.kept
    (λ l e. not_forces c.numbered_status.result c.in_default-numbered_status.not-Forces l (c.numbered_status.ensures ∙ e))

pub loop-number-smaller : goal.loop-number-smaller
loop-number-smaller c = c.take_off.ensures.fewer

pub returns-clause-found : goal.returns-clause-found
returns-clause-found c = sym (forced_absent c.args.trail.now c.args.clauses.now c.loop-number.self.falsified.keys c.loop-number.self.forcing.keys c.loop-number.invariant c.in_default.ensures)
