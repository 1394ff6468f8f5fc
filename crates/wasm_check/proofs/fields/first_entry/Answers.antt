use Rattle.std.proofs.Common.{refl, arith}
use Rattle.std.specs.Prelude.{true}
use Rattle.wasm_check.proofs.EntryLemmas.{one_more, all_valid}
use Rattle.wasm_check.proofs.fields.first_entry.Goals as goal

pub loop-k-preserved : goal.loop-k-preserved
loop-k-preserved c = one_more c.args.m.now c.args.s c.loop-k.k true refl c.if-not-entry_is_valid.ensures c.loop-k.invariant

pub returns : goal.returns
returns c = all_valid c.args.m.now c.args.s (λ j lt. c.loop-k.invariant j (omega (arith, lt, c.loop-k-test.false, c.section_size-k-end.ensures)))
