use Rattle.refute_check.proofs.Soundness.{accepted_refutes as proof_of}
use Rattle.refute_check.proofs.laws.accepted_refutes.Goals as goal

pub returns : goal.returns
returns c = proof_of
