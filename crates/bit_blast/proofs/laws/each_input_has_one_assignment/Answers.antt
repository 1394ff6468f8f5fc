use Rattle.bit_blast.proofs.InputLemmas.{computed, input_computed, computes, one_each}
use Rattle.bit_blast.proofs.LawLemmas.{meets-computes, computes-meets}
use Rattle.bit_blast.proofs.DecisionLemmas.{below_next}
use Rattle.bit_blast.proofs.laws.each_input_has_one_assignment.Goals as goal

pub returns-clause-some : goal.returns-clause-some
returns-clause-some c conditions draws first proper least input i answered = (
  computed conditions draws first input,
  computes-meets (computed conditions draws first input) conditions draws first proper least (computes conditions draws first proper least input i answered),
  input_computed conditions draws first proper least input i,
)

pub returns-clause-only : goal.returns-clause-only
returns-clause-only c conditions draws first proper least one other h k same variable low high =
    one_each conditions draws first proper least one other (meets-computes one conditions draws first proper least h) (meets-computes other conditions draws first proper least k) same
    variable low (below_next conditions draws first proper least variable high)
