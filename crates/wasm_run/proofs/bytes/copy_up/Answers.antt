use Rattle.std.proofs.Common.{◌∙◌, arith}
use Rattle.wasm_run.proofs.PageLemmas.{copied-up}
use Rattle.wasm_run.proofs.bytes.copy_up.Goals as goal

pub loop-done-preserved : goal.loop-done-preserved
loop-done-preserved c =
    let done = c.loop-done.done in (
      omega (arith, c.loop-done-test.true, c.min-piece.ensures),
      c.copy_piece.ensures.long ∙ c.loop-done.invariant.1,
      copied-up c.args.pages.now c.loop-done.pages c.copy_piece.new.pages c.args.to c.args.from done c.min-piece.result c.args.count c.requires.whole c.requires.from_within c.requires.before (omega (arith, c.loop-done-test.true, c.min-piece.ensures))
          c.loop-done.invariant.2
          c.copy_piece.ensures.writes,
    )
