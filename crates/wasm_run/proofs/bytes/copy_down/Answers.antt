use Rattle.std.proofs.Common.{◌∙◌, ◌+◌, ◌-◌, ◌≡◌, subst, arith}
use Rattle.wasm_reduction.specs.Combinators.{part}
use Rattle.wasm_run.specs.code.Pages.{Writes, cells_of}
use Rattle.wasm_run.proofs.PageLemmas.{copied-down}
use Rattle.wasm_run.proofs.bytes.copy_down.Goals as goal

pub loop-left-preserved : goal.loop-left-preserved
loop-left-preserved c =
    let left = c.loop-left.left - c.min-piece.result in
    let is : c.loop-left.left ≡ left + c.min-piece.result = omega (arith, c.min-piece.ensures) in (
      omega (arith, c.loop-left.invariant.0),
      c.copy_piece.ensures.long ∙ c.loop-left.invariant.1,
      copied-down c.args.pages.now c.loop-left.pages c.copy_piece.new.pages c.args.to c.args.from left c.min-piece.result c.args.count c.requires.whole c.requires.to_within c.requires.after (omega (arith, is, c.loop-left.invariant.0))
          (subst (λ n. Writes c.args.pages.now (c.args.to + n) (part (c.args.from + n) (c.args.count - n) (cells_of c.args.pages.now)) c.loop-left.pages) is c.loop-left.invariant.2)
          c.copy_piece.ensures.writes,
    )
