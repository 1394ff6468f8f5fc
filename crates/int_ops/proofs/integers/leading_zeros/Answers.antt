use Rattle.std.proofs.Common.{◌∙◌}
use Rattle.int_ops.proofs.IntegerLemmas.{leading}
use Rattle.int_ops.proofs.integers.leading_zeros.Goals as goal

pub overflow_sub-x : goal.overflow_sub-x
overflow_sub-x c = (leading c.args.bits c.args.x c.requires.fits c.requires.x_fits).0

pub returns : goal.returns
returns c = c.from.ensures ∙ (leading c.args.bits c.args.x c.requires.fits c.requires.x_fits).1
