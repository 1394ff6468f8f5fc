use Rattle.sym_state.proofs.ValueLemmas.{keeps-operations, keeps-symbols}
use Rattle.sym_state.proofs.laws.values_keep_operations.Goals as goal

pub returns-clause-operations : goal.returns-clause-operations
returns-clause-operations c = keeps-operations

pub returns-clause-symbols : goal.returns-clause-symbols
returns-clause-symbols c = keeps-symbols
