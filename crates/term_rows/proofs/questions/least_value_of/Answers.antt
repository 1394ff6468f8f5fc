use Rattle.term_rows.proofs.QuestionLemmas.{read_proper}
use Rattle.term_rows.proofs.questions.least_value_of.Goals as goal

pub least_value-requires-clause-proper : goal.least_value-requires-clause-proper
least_value-requires-clause-proper c = read_proper c.args.g.now c.args.q.now c.requires.question c.as_slice.result.now c.as_slice-in-Least.result.now c.as_slice.ensures.value c.as_slice-in-Least.ensures.value
