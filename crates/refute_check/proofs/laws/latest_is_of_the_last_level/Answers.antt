use Rattle.refute_check.proofs.Latest.{latest_is}
use Rattle.refute_check.proofs.laws.latest_is_of_the_last_level.Goals as goal

pub returns : goal.returns
returns c = latest_is
