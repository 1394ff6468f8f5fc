use Rattle.std.proofs.lemmas.Option.{MatchOption-at_some}
use Rattle.wasm_check.specs.Faults.{FirstFault}
use Rattle.wasm_check.specs.Modules.{IsValid}
use Rattle.wasm_check.proofs.ModuleLemmas.{fault-invalid}
use Rattle.wasm_check.proofs.checked.check.Goals as goal

pub returns-in-Ok-Some-clause-invalid : goal.returns-in-Ok-Some-clause-invalid
returns-in-Ok-Some-clause-invalid c = λ known valid.
    fault-invalid c.args.m c.in-Ok-Some.why (MatchOption-at_some (IsValid c.args.m) (FirstFault c.args.m) c.in-Ok-Some.why c.in-Ok-Some.field-0-is c.in-Ok-Some.ensures) valid
