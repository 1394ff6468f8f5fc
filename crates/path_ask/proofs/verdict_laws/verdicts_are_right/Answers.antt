use Rattle.path_ask.proofs.VerdictLaws.{input_is_least, none_do_meet, log_accepted}
use Rattle.path_ask.proofs.verdict_laws.verdicts_are_right.Goals as goal

pub returns-clause-least : goal.returns-clause-least
returns-clause-least c = input_is_least

pub returns-clause-none : goal.returns-clause-none
returns-clause-none c = none_do_meet

pub returns-clause-accepted : goal.returns-clause-accepted
returns-clause-accepted c conditions draws bound refutation proper v = log_accepted conditions draws bound refutation.log proper v.0
