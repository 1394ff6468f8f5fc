use Rattle.std.proofs.Common.{ap, arith, length}
use Rattle.std.proofs.lemmas.Result.{err_from_is_err_and}
use Rattle.wasm_binary.specs.Modules.{Sections, module_of}
use Rattle.wasm_read.specs.Refusals.{fault_of}
use Rattle.wasm_read.proofs.PassingLaws.{under, told_is}
use Rattle.wasm_read.proofs.WholeLaws.{front_told, sections_told, whole_read, few_customs}
use Rattle.wasm_read.proofs.reading.read_whole.Goals as goal

pub returns-in_err-at-clause-answers : goal.returns-in_err-at-clause-answers
returns-in_err-at-clause-answers c =
    let told = front_told c.args.bytes.now (fault_of c.in_err-at.field-0.0) (rw c.whole-view.ensures at c.in_err-at.ensures.agrees) in
    let p = err_from_is_err_and c.from_residual.result c.from_residual.ensures.1 in
    rw (p.1, p.2) told

pub returns-in_err-sections-clause-answers : goal.returns-in_err-sections-clause-answers
returns-in_err-sections-clause-answers c =
    let told = sections_told c.args.bytes.now c.in_ok-at.field-0-0 c.in_ok-at.at (fault_of c.in_err-sections.field-0.0) (rw c.whole-view.ensures at c.in_ok-at.ensures.agrees) (rw c.whole-view.ensures at c.in_err-sections.ensures.trouble) in
    let p = err_from_is_err_and c.from_residual-in_err-sections.result c.from_residual-in_err-sections.ensures.1 in
    rw (p.1, p.2) told

pub returns-clause-answers : goal.returns-clause-answers
returns-clause-answers c =
    let all = c.in_ok-sections.ensures.read.0 in (
      module_of (under all c.in_ok-sections.sections),
      whole_read c.args.bytes.now c.in_ok-at.field-0-0 c.in_ok-at.at _ (rw c.whole-view.ensures at c.in_ok-at.ensures.agrees) (rw c.whole-view.ensures at c.in_ok-sections.ensures.read.2),
      told_is c.args.keeps all c.in_ok-sections.sections c.in_ok-module_of.field-0 c.in_ok-sections.ensures.read.1 c.in_ok-module_of.ensures,
    )

pub returns-clause-few : goal.returns-clause-few
returns-clause-few c =
    let seen = ap (λ (s : Sections). length s.customs) c.sections.view_is in
    few_customs c.in_ok-sections.sections c.in_ok-module_of.field-0 c.in_ok-module_of.ensures (omega (arith, seen, c.len.ensures, c.if-len.false))
