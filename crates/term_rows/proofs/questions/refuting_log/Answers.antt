use Rattle.bit_blast.specs.GraphConditions.{conditions_of, first_of}
use Rattle.path_ask.proofs.VerdictLemmas.{takes}
use Rattle.term_rows.proofs.QuestionLemmas.{conds_proper, can_be_least}
use Rattle.term_rows.proofs.questions.refuting_log.Goals as goal

pub solve-requires-clause-formula : goal.solve-requires-clause-formula
solve-requires-clause-formula c =
    takes (conditions_of c.args.g.now c.args.q.now.conds.items) c.args.q.now.drawn.draws.items (first_of c.args.g.now c.args.q.now.least)
    (conds_proper c.args.g.now c.args.q.now c.requires.question) (can_be_least c.args.g.now c.args.q.now c.requires.question) c.in_ok-cnf.cnf c.in_ok-cnf.ensures
