use Rattle.refute_check.proofs.Deciding.{open_accepted}
use Rattle.refute_check.proofs.refutation.Refutation.log.Goals as goal

pub returns-clause-accepted : goal.returns-clause-accepted
returns-clause-accepted c = open_accepted c.args.self.now.cnf.clauses c.args.self.now.log c.args.self.now.accepted
