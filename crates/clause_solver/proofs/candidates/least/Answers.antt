use Rattle.std.proofs.Common.{subst}
use Rattle.std.specs.Prelude.{IsSome}
use Rattle.std.proofs.lemmas.Bool.{false≢true}
use Rattle.clause_solver.proofs.Numbers.{no_least, least_there, least_below}
use Rattle.clause_solver.proofs.candidates.least.Goals as goal

pub returns-in-None : goal.returns-in-None
returns-in-None c = no_least c.args.numbers.now (λ l. false≢true (subst (λ r. IsSome r) c.in-None.is (c.first.ensures.variant.1 l)))

pub returns-in-Some : goal.returns-in-Some
returns-in-Some c = (least_there c.args.numbers.now c.in-Some.number.now c.in-Some.ensures.member, least_below c.args.numbers.now c.in-Some.number.now c.in-Some.ensures.least)
