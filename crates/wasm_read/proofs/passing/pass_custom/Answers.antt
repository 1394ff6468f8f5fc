use Rattle.std.proofs.lemmas.Result.{err_from_is_err_and}
use Rattle.wasm_read.specs.Refusals.{fault_of}
use Rattle.wasm_read.proofs.PassingLaws.{custom_read, custom_told}
use Rattle.wasm_read.proofs.passing.pass_custom.Goals as goal

pub returns-in_err-next-clause-passes : goal.returns-in_err-next-clause-passes
returns-in_err-next-clause-passes c = λ sections.
    let told = custom_told sections c.args.view.now c.up_to-inner.result c.args.at c.in_ok-len.len c.in_ok-len.start c.end_after-end.result (fault_of c.in_err-next.field-0.0) c.in_ok-len.ensures.agrees c.end_after-end.ensures c.up_to-inner.ensures.window (c.in_err-next.ensures.trouble sections.slot) in
    let p = err_from_is_err_and c.from_residual-in_err-next.result c.from_residual-in_err-next.ensures.1 in
    rw (p.1, p.2) told

pub returns-then-next-end-clause-passes : goal.returns-then-next-end-clause-passes
returns-then-next-end-clause-passes c = λ sections. (
  record { after = sections.slot; name = c.in_ok-next.field-0-0.now; bytes = c.in_ok-next.field-0-1.now },
  custom_read sections c.args.view.now c.up_to-inner.result c.args.at c.in_ok-len.len c.in_ok-len.start c.end_after-end.result _ c.in_ok-next.next c.in_ok-len.ensures.agrees c.end_after-end.ensures c.up_to-inner.ensures.window (c.in_ok-next.ensures.found sections.slot) c.if-next-end.true,
)
