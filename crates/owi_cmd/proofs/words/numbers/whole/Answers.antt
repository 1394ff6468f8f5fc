use Rattle.std.proofs.Common.{inr}
use Rattle.owi_cmd.proofs.words.numbers.whole.Goals as goal

pub returns-in-Some-number : goal.returns-in-Some-number
returns-in-Some-number c = inr (c.in-Some.digits.now, c.in-Some-number.below, c.in-Some.ensures, c.in-Some-number.ensures, c.negative.ensures)
