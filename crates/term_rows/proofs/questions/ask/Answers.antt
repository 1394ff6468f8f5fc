use Rattle.term_rows.proofs.QuestionLemmas.{read_proper}
use Rattle.term_rows.proofs.questions.ask.Goals as goal

pub other_side-requires-clause-proper : goal.other_side-requires-clause-proper
other_side-requires-clause-proper c = read_proper c.args.g.now c.args.q.now c.requires.question c.as_slice.result.now c.as_slice-2.result.now c.as_slice.ensures.value c.as_slice-2.ensures.value
