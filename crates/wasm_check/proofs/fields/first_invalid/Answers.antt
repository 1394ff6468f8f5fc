use Rattle.std.proofs.Common.{sym, subst}
use Rattle.std.specs.Prelude.{MatchOption}
use Rattle.wasm_check.specs.Faults.{IsFirstOf}
use Rattle.wasm_check.specs.Modules.{SectionIsValid}
use Rattle.wasm_check.proofs.fields.first_invalid.Goals as goal

pub returns-in_ok-first_invalid_export-in-Exports : goal.returns-in_ok-first_invalid_export-in-Exports
returns-in_ok-first_invalid_export-in-Exports c =
    subst (λ s. MatchOption c.in_ok-first_invalid_export-in-Exports.field-0 (SectionIsValid c.args.m.now s) (IsFirstOf c.args.m.now s)) (sym c.in-Exports.is) c.in_ok-first_invalid_export-in-Exports.ensures
