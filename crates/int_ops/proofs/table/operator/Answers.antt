use Rattle.int_ops.specs.Operators.{operator_of, operators}
use Rattle.int_ops.proofs.TableLemmas.{find-absent}
use Rattle.int_ops.proofs.table.operator.Goals as goal

pub returns-in_default : goal.returns-in_default
unfolding operator_of
returns-in_default c = find-absent c.args.op operators (assumption c)
