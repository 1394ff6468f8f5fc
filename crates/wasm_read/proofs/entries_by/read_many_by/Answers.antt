use Rattle.std.proofs.Common.{◌∙◌, ap, sym, ◌-◌, ◌+◌}
use Rattle.std.proofs.lemmas.Result.{err_from_is_err_and}
use Rattle.grammar_forms.specs.Forms.{many}
use Rattle.wasm_read.specs.Refusals.{fault_of}
use Rattle.wasm_read.proofs.EntryLaws.{put_before, entry_read, told_of_all}
use Rattle.wasm_read.proofs.entries_by.read_many_by.Goals as goal

pub returns-in_err-entry-clause-trouble : goal.returns-in_err-entry-clause-trouble
returns-in_err-entry-clause-trouble g c =
    let form = g.T.EntryBy.form c.args.test in
    let all = (many form c.args.count).read c.args.view.now c.args.start in
    let told = told_of_all form c.args.count c.loop.counter c.args.view.now c.loop.at c.loop.entries.items all (fault_of c.in_err-entry.field-0.0) c.loop-test.true c.loop.invariant.1 c.in_err-entry.ensures.agrees in
    let p = err_from_is_err_and c.from_residual.result c.from_residual.ensures.1 in
    rw (p.1, p.2) told

pub loop-preserved : goal.loop-preserved
loop-preserved g c =
    let form = g.T.EntryBy.form c.args.test in (
      c.in_ok-entry.ensures.within,
      c.loop.invariant.1
          ∙ entry_read form c.args.count c.loop.counter c.args.view.now c.loop.at c.in_ok-entry.next c.in_ok-entry.entry c.loop.entries.items c.loop-test.true c.in_ok-entry.ensures.agrees
          ∙ ap (λ l. put_before l ((many form (c.args.count - (c.loop.counter + 1))).read c.args.view.now c.in_ok-entry.next)) (sym c.in_ok-push.ensures.items),
    )
