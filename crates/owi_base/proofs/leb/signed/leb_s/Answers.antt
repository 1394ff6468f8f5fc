use Rattle.std.proofs.Common.{drop}
use Rattle.owi_base.proofs.SignedReading.{spelled_at, only_at, trouble_at}
use Rattle.owi_base.proofs.leb.signed.leb_s.Goals as goal

pub returns-clause-spelled : goal.returns-clause-spelled
returns-clause-spelled c = spelled_at c.args.width c.args.at (drop c.args.at c.args.bytes.now) c.signed_at.result c.signed_at.ensures.exact

pub returns-clause-only : goal.returns-clause-only
returns-clause-only c = only_at c.args.width c.args.at (drop c.args.at c.args.bytes.now) c.signed_at.result c.signed_at.ensures.exact

pub returns-clause-trouble : goal.returns-clause-trouble
returns-clause-trouble c = trouble_at c.args.width c.args.at (drop c.args.at c.args.bytes.now) c.signed_at.result c.signed_at.ensures.exact
