use Rattle.path_ask.proofs.ReadingLemmas.{number-fits-at, next-fits-at, next-spelled-at}
use Rattle.path_ask.proofs.inputs.number_at.Goals as goal

pub overflow_mul-number : goal.overflow_mul-number
overflow_mul-number c = record { fits = number-fits-at c.args.values.now c.args.variables.now c.loop-variable.variable-index c.loop-variable.number c.loop-variable-test.true c.requires.few c.loop-variable.invariant }

pub overflow_add-number : goal.overflow_add-number
overflow_add-number c =
    record { fits = next-fits-at c.args.values.now c.args.variables.now c.loop-variable.variable-index c.loop-variable.number c.from.result c.loop-variable-test.true c.requires.few c.loop-variable.invariant c.from.ensures }

pub loop-variable-preserved : goal.loop-variable-preserved
loop-variable-preserved c =
    next-spelled-at c.args.values.now c.args.variables.now c.loop-variable.variable-index c.loop-variable.number c.from.result c.loop-variable-test.true c.loop-variable.invariant c.from.ensures
