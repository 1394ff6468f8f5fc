use Rattle.std.proofs.Common.{ap, arith}
use Rattle.sym_step.proofs.AnswerLemmas.{before-resumed, few-somewhere, goes-resumed, least-resumed}
use Rattle.sym_step.proofs.resuming.resume.Goals as goal

pub overflow_add-s : goal.overflow_add-s
overflow_add-s c =
    let few = few-somewhere c.args.s.now c.requires.somewhere.0 c.requires.answers.q c.requires.answers.t c.requires.answers.asks c.requires.somewhere.1 in
    omega (arith, few, ap (λ s. s.asks) c.s.view_is)

pub returns-in-Asks-clause-before : goal.returns-in-Asks-clause-before
returns-in-Asks-clause-before c = before-resumed c.args.s.now _ c.s.view_is c.in-Asks.q c.in-Asks.t c.args.answer c.in-Asks.is

pub returns-in-Asks-clause-goes_on : goal.returns-in-Asks-clause-goes_on
returns-in-Asks-clause-goes_on c = goes-resumed c.args.s.now _ c.s.view_is c.in-Asks.q c.in-Asks.t c.args.answer c.in-Asks.is c.requires.answers

pub returns-in-Asks-clause-least : goal.returns-in-Asks-clause-least
returns-in-Asks-clause-least c = least-resumed c.args.s.now _ c.s.view_is c.in-Asks.q c.in-Asks.t c.args.answer c.in-Asks.is c.requires.answers
