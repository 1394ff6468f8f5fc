use Rattle.bit_blast.proofs.DecisionLemmas.{formula_names, formula_only, formula_length, formula_literals}
use Rattle.bit_blast.proofs.laws.order_names_each_variable_once.Goals as goal

pub returns-clause-names : goal.returns-clause-names
returns-clause-names c = formula_names

pub returns-clause-only : goal.returns-clause-only
returns-clause-only c = formula_only

pub returns-clause-once : goal.returns-clause-once
returns-clause-once c = formula_length

pub returns-clause-literals : goal.returns-clause-literals
returns-clause-literals c = formula_literals
