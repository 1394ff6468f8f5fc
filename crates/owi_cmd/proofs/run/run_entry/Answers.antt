use Rattle.owi_cmd.proofs.AnswerLemmas.{run_can_run}
use Rattle.owi_cmd.proofs.run.run_entry.Goals as goal

pub run-requires : goal.run-requires
run-requires c =
    rw c.as_slice.ensures (run_can_run c.args.entry.now.image c.args.name.now c.args.args.now c.args.options.now c.args.entry.now.function c.requires.spelled c.requires.ready.ready c.requires.entry)
