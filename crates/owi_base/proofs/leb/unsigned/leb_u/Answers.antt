use Rattle.std.proofs.Common.{drop}
use Rattle.owi_base.proofs.UnsignedLaws.{spelled_at, only_at, trouble_at}
use Rattle.owi_base.proofs.leb.unsigned.leb_u.Goals as goal

pub returns-clause-spelled : goal.returns-clause-spelled
returns-clause-spelled c = spelled_at c.args.width c.args.at (drop c.args.at c.args.bytes.now) c.unsigned_at.result c.unsigned_at.ensures.exact

pub returns-clause-only : goal.returns-clause-only
returns-clause-only c = only_at c.args.width c.args.at (drop c.args.at c.args.bytes.now) c.unsigned_at.result c.unsigned_at.ensures.exact

pub returns-clause-trouble : goal.returns-clause-trouble
returns-clause-trouble c = trouble_at c.args.width c.args.at (drop c.args.at c.args.bytes.now) c.unsigned_at.result c.unsigned_at.ensures.exact
