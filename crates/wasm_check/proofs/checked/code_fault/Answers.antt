use Rattle.std.proofs.Common.{arith}
use Rattle.wasm_check.specs.declared.sections.Section.TheVariants.{Functions}
use Rattle.wasm_check.proofs.checked.code_fault.Goals as goal

pub first_body-requires-clause-typed : goal.first_body-requires-clause-typed
first_body-requires-clause-typed c = c.requires.front Functions (omega arith)
