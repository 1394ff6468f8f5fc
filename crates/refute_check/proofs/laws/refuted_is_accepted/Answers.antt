use Rattle.refute_check.proofs.Refutes.{refuted_accepted as proof_of}
use Rattle.refute_check.proofs.laws.refuted_is_accepted.Goals as goal

pub returns : goal.returns
returns c = proof_of
