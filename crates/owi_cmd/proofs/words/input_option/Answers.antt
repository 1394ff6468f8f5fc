use Rattle.std.proofs.Common.{◌∷◌, [], inr, refl, codes}
use Rattle.owi_cmd.proofs.words.input_option.Goals as goal

pub returns-clause-given : goal.returns-clause-given
returns-clause-given c =
    (codes "--input" ∷ c.in-Some.text.now ∷ [], inr (c.in-Some.text.now, refl, rw c.in-Some-2.is at c.in_ok-input.ensures), c.in-Some.ensures, λ none. cc)
