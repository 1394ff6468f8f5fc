use Rattle.std.proofs.Common.{arith}
use Rattle.clause_solver.proofs.Visiting.{visited_second, visited_not, at_index}
use Rattle.clause_solver.proofs.watches.Watches.visit.Goals as goal

pub returns-then-second-literal : goal.returns-then-second-literal
returns-then-second-literal c = visited_second c.args.trail.now c.args.clauses.now c.args.literal c.args.number c.args.self.now c.renew-then-second-literal.new.self c.index.result.now
    (at_index c.args.self.now.pairs.items c.args.number c.index.result.now (omega (arith, c.if-at-len.false, c.len.ensures, c.requires.count)) c.index.ensures) c.if-second-literal.true c.in_ok-renew-2.ensures

pub returns : goal.returns
returns c = visited_not c.args.trail.now c.args.clauses.now c.args.literal c.args.number c.args.self.now c.index.result.now
    (at_index c.args.self.now.pairs.items c.args.number c.index.result.now (omega (arith, c.if-at-len.false, c.len.ensures, c.requires.count)) c.index.ensures) c.if-first-literal.false c.if-second-literal.false
