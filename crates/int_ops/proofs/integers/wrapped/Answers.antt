use Rattle.int_ops.proofs.IntegerLemmas.{masked}
use Rattle.int_ops.proofs.integers.wrapped.Goals as goal

pub returns-then-bits-lt64 : goal.returns-then-bits-lt64
returns-then-bits-lt64 c = masked c.args.x c.args.bits c.if-bits-lt64.true
