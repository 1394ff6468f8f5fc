use Rattle.std.proofs.Common.{◌≡◌, rules}
use Rattle.std.specs.Prelude.{true}
use Rattle.wasm_ast.specs.declared.types.ValType.TheVariants.{I32 as I32Type}
use Rattle.wasm_ast.specs.declared.runs.Value.TheVariants.{I32}
use Rattle.wasm_image.proofs.EntryLemmas.{types-more}
use Rattle.wasm_image.proofs.entries.have_types.Goals as goal

pub loop-i-preserved : goal.loop-i-preserved
loop-i-preserved c =
    let same : c.has_type.result ≡ true = search rules in
    types-more c.args.values.now c.args.types.now c.loop-i.i (I32 0) I32Type c.loop-i-test.true c.if-values-types.false
    (c.has_type.ensures.0 same) c.loop-i.invariant
