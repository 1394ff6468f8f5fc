use Rattle.wasm_reduction.proofs.ScriptExampleRuns.{script_examples}
use Rattle.wasm_reduction.proofs.ExampleRuns.{numeric_examples, parametric_examples, control_examples, table_examples, memory_examples, instantiation_examples, host_examples}
use Rattle.wasm_reduction.proofs.examples.reduction_examples.Goals as goal

pub returns-clause-numeric : goal.returns-clause-numeric
returns-clause-numeric c = numeric_examples

pub returns-clause-parametric : goal.returns-clause-parametric
returns-clause-parametric c = parametric_examples

pub returns-clause-control : goal.returns-clause-control
returns-clause-control c = control_examples

pub returns-clause-tables : goal.returns-clause-tables
returns-clause-tables c = table_examples

pub returns-clause-memory : goal.returns-clause-memory
returns-clause-memory c = memory_examples

pub returns-clause-instantiation : goal.returns-clause-instantiation
returns-clause-instantiation c = instantiation_examples

pub returns-clause-hosts : goal.returns-clause-hosts
returns-clause-hosts c = host_examples

pub returns-clause-scripts : goal.returns-clause-scripts
returns-clause-scripts c = script_examples
