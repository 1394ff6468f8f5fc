use Rattle.std.proofs.Common.{arith}
use Rattle.std.proofs.lemmas.Grind.{common_steps}
use Rattle.std.proofs.lemmas.List.{append-nil}
use Rattle.wat_resolve.proofs.NotingLaws.{noted_append}
use Rattle.wat_resolve.proofs.modules.note_starts.Goals as goal

pub loop-start-preserved : goal.loop-start-preserved
loop-start-preserved c = grind (arith, common_steps, noted_append, append-nil)
