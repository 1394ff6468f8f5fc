use Rattle.std.proofs.lemmas.Option.{MatchOption-at_none}
use Rattle.wasm_check.specs.declared.sections.Section.TheVariants.{Code}
use Rattle.wasm_check.specs.Faults.{FirstFault, ValidBelow}
use Rattle.wasm_check.specs.Modules.{SectionIsValid}
use Rattle.wasm_check.proofs.FaultLemmas.{whole-first}
use Rattle.wasm_check.proofs.checked.first_fault.Goals as goal

pub returns : goal.returns
returns c =
    whole-first c.args.m.now c.in_ok-field_fault.field-0 (MatchOption-at_none (ValidBelow c.args.m.now 10) (FirstFault c.args.m.now) c.in_default.is c.in_ok-why.ensures)
    (MatchOption-at_none (SectionIsValid c.args.m.now Code) (FirstFault c.args.m.now) c.in_default-2.is c.in_ok-why-2.ensures)
    c.in_ok-field_fault.ensures
