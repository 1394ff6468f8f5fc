use Rattle.std.proofs.Common.{refl, arith, below_more}
use Rattle.wasm_check.specs.declared.sections.Section.TheVariants.{Exports}
use Rattle.wasm_check.specs.Modules.{EntryIsValid}
use Rattle.wasm_check.proofs.EntryLemmas.{all_valid}
use Rattle.wasm_check.proofs.NameLemmas.{holds-more, export-valid, first-taken, name-is-new}
use Rattle.wasm_check.proofs.exports.first_invalid_export.Goals as goal

pub returns-then-not-branch : goal.returns-then-not-branch
returns-then-not-branch c =
    first-taken c.args.m.now c.loop-k.k c.get-export.result.now c.as_slice.result c.loop-k.names c.in_ok-insert.field-0 c.get-export.ensures c.as_slice.ensures c.loop-k.invariant.1
    c.in_ok-insert.ensures.added c.if-not-branch.true c.loop-k.invariant.0

pub loop-k-preserved : goal.loop-k-preserved
loop-k-preserved c =
    let new = name-is-new c.args.m.now c.loop-k.k c.get-export.result.now c.as_slice.result c.loop-k.names c.in_ok-insert.field-0 c.get-export.ensures c.as_slice.ensures c.loop-k.invariant.1
    c.in_ok-insert.ensures.added c.if-not-branch.false in (
      below_more (EntryIsValid c.args.m.now Exports) c.loop-k.k c.loop-k.invariant.0 (export-valid c.args.m.now c.loop-k.k c.get-export.result.now c.get-export.ensures (c.if-not-export_is_there.ensures.0 refl) new),
      holds-more c.args.m.now c.loop-k.k c.get-export.result.now c.as_slice.result c.loop-k.names c.insert.new.self c.get-export.ensures c.as_slice.ensures c.loop-k.invariant.1 c.in_ok-insert.ensures.updates,
    )

pub returns : goal.returns
returns c = all_valid c.args.m.now Exports (λ j lt. c.loop-k.invariant.0 j (omega (arith, lt, c.loop-k-test.false, c.len-k-end.ensures)))
