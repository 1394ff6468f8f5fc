use Rattle.refute_check.proofs.Ends.{machine_ends as proof_of}
use Rattle.refute_check.proofs.laws.machine_ends.Goals as goal

pub returns : goal.returns
returns c = proof_of
