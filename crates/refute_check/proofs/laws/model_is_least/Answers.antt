use Rattle.refute_check.proofs.Least.{model_meets, model_least}
use Rattle.refute_check.proofs.laws.model_is_least.Goals as goal

pub returns-clause-meets : goal.returns-clause-meets
returns-clause-meets c = model_meets

pub returns-clause-least : goal.returns-clause-least
returns-clause-least c = model_least
