use Rattle.std.proofs.Common.{◌∷◌, [], inr, refl}
use Rattle.owi_cmd.proofs.words.option.Goals as goal

pub returns-clause-given : goal.returns-clause-given
returns-clause-given c =
    (c.args.name.now ∷ c.in-Some.text.now ∷ [], inr (c.in-Some.text.now, refl, c.in-Some-number.ensures), c.in-Some.ensures, λ none. cc)
