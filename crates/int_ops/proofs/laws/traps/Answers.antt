use Rattle.int_ops.proofs.TrapLemmas.{overflow}
use Rattle.int_ops.proofs.laws.traps.Goals as goal

pub returns-clause-overflow : goal.returns-clause-overflow
returns-clause-overflow c = overflow
