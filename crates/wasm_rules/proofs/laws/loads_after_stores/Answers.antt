use Rattle.wasm_rules.proofs.LoadLemmas.{loaded-part, loaded-i32, loaded-i64}
use Rattle.wasm_rules.proofs.laws.loads_after_stores.Goals as goal

pub returns-clause-part : goal.returns-clause-part
returns-clause-part c = loaded-part

pub returns-clause-i32 : goal.returns-clause-i32
returns-clause-i32 c = loaded-i32

pub returns-clause-i64 : goal.returns-clause-i64
returns-clause-i64 c = loaded-i64
