use Rattle.bit_blast.proofs.InputLemmas.{input_fits}
use Rattle.bit_blast.proofs.laws.assignments_give_inputs.Goals as goal

pub returns : goal.returns
returns c assignment draws = input_fits assignment 2 draws
