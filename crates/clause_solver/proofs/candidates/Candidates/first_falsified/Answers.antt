use Rattle.std.proofs.Common.{◌∙◌}
use Rattle.clause_solver.proofs.Statuses.{not_falsified}
use Rattle.clause_solver.proofs.Watching.{seen_taken, falsified_found, falsified_absent}
use Rattle.clause_solver.proofs.candidates.Candidates.first_falsified.Goals as goal

pub returns-in-Falsified-clause-found : goal.returns-in-Falsified-clause-found
returns-in-Falsified-clause-found c = falsified_found c.args.trail.now c.args.clauses.now c.loop-number.self.falsified.keys c.loop-number.self.forcing.keys c.loop-number.invariant c.in-Some.number c.in-Some.ensures.1 c.in-Falsified.ensures

pub loop-number-preserved : goal.loop-number-preserved
loop-number-preserved c = seen_taken c.args.trail.now c.args.clauses.now c.loop-number.self.falsified.keys c.loop-number.self.forcing.keys c.take_off.new.numbers.keys c.in-Some.number c.loop-number.invariant c.take_off.ensures.kept
    (λ e. not_falsified c.numbered_status.result c.in_default-numbered_status.not-Falsified (c.numbered_status.ensures ∙ e))

pub loop-number-smaller : goal.loop-number-smaller
loop-number-smaller c = c.take_off.ensures.fewer

pub returns-clause-found : goal.returns-clause-found
returns-clause-found c = falsified_absent c.args.trail.now c.args.clauses.now c.loop-number.self.falsified.keys c.loop-number.self.forcing.keys c.loop-number.invariant c.in_default.ensures
