use Rattle.bit_blast.proofs.LawLemmas.{meets-computes, computes-meets}
use Rattle.bit_blast.proofs.laws.formula_means_conditions.Goals as goal

pub returns : goal.returns
returns c conditions draws first proper least assignment =
    (meets-computes assignment conditions draws first proper least, computes-meets assignment conditions draws first proper least)
