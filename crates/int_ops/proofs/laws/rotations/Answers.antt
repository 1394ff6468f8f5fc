use Rattle.std.proofs.Common.{◌%◌, le_of_lt}
use Rattle.std.proofs.lemmas.Nat.{mod_below}
use Rattle.int_ops.proofs.LawLemmas.{rotated-back}
use Rattle.int_ops.proofs.laws.rotations.Goals as goal

pub returns : goal.returns
returns c = λ N x count some below. rotated-back N x (count % N) (le_of_lt (mod_below count N some)) below
