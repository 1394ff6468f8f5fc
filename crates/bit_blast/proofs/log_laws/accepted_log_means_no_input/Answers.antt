use Rattle.refute_check.proofs.Soundness.{accepted_refutes}
use Rattle.bit_blast.specs.Formulas.{formula}
use Rattle.bit_blast.proofs.InputLemmas.{computed, computes}
use Rattle.bit_blast.proofs.LawLemmas.{computes-meets}
use Rattle.bit_blast.proofs.log_laws.accepted_log_means_no_input.Goals as goal

pub returns : goal.returns
returns c conditions draws first log proper least accepted input is answered =
    accepted_refutes (formula conditions draws first).clauses log accepted (computed conditions draws first input)
    (computes-meets (computed conditions draws first input) conditions draws first proper least (computes conditions draws first proper least input is answered))
