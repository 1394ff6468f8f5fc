use Rattle.owi_cmd.proofs.AnswerLemmas.{explore_can_run}
use Rattle.owi_cmd.proofs.explore.explore_entry.Goals as goal

pub run-requires : goal.run-requires
run-requires c =
    rw c.as_slice.ensures (explore_can_run c.args.entry.now.image c.args.name c.args.args c.args.bounds c.args.entry.now.function c.requires.spelled c.requires.ready.ready c.requires.entry)
