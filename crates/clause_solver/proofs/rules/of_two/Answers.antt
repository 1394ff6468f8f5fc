use Rattle.clause_solver.proofs.Guarding.{two_swapped, chosen_two, chosen_beside}
use Rattle.clause_solver.proofs.rules.of_two.Goals as goal

pub returns-then-one-second : goal.returns-then-one-second
returns-then-one-second c = chosen_two c.args.trail.now c.args.clause.now c.args.watched.0 c.args.watched.1 c.args.unset.1 c.args.unset.0
    (two_swapped c.args.clause.now c.args.unset.0 c.args.unset.1 c.requires.two.0) c.requires.two.2 c.requires.two.1

pub returns-then-is_unset : goal.returns-then-is_unset
returns-then-is_unset c = chosen_beside c.args.trail.now c.args.clause.now c.args.watched.0 c.args.watched.1 c.args.unset.0 c.args.unset.1
    c.requires.held c.requires.two.0 c.requires.two.1 c.if-one-second.false (c.is_unset.ensures c.if-is_unset.true)

pub returns : goal.returns
returns c = chosen_two c.args.trail.now c.args.clause.now c.args.watched.0 c.args.watched.1 c.args.unset.0 c.args.unset.1 c.requires.two.0 c.requires.two.1 c.requires.two.2
