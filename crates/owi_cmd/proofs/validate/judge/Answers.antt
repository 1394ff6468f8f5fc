use Rattle.std.proofs.Common.{rules}
use Rattle.owi_cmd.proofs.StrippedLemmas.{of_valid, of_invalid}
use Rattle.owi_cmd.proofs.validate.judge.Goals as goal

pub returns-in_ok-bytes-in-Ok-clause-answered : goal.returns-in_ok-bytes-in-Ok-clause-answered
returns-in_ok-bytes-in-Ok-clause-answered c = of_valid c.args.source.now c.args.m c.in_ok-bytes-in-Ok.bytes.items c.requires.spelled c.in-Ok.ensures.valid.1 (search rules)

pub returns-in-Err-clause-answered : goal.returns-in-Err-clause-answered
returns-in-Err-clause-answered c = of_invalid c.args.source.now c.args.m c.in-Err.unchecked.why c.invalid.result c.requires.spelled c.in-Err.ensures.fault c.invalid.ensures.known c.invalid.ensures.status c.invalid.ensures.bytes
