use Rattle.std.proofs.Common.{◌≡◌, ◌≤◌, ◌<◌, ◌*◌, ◌∙◌, ◌+◌, ◌-◌, ◌%◌, ap, take, drop, arith, length}
use Rattle.wasm_run.specs.code.Pages.{cells_of}
use Rattle.wasm_reduction.specs.Combinators.{part}
use Rattle.wasm_reduction.specs.Memories.{page_bytes}
use Rattle.wasm_run.proofs.PageLemmas.{page-read, put-long, read_on, mid-long, long-read}
use Rattle.wasm_run.proofs.bytes.read.Goals as goal

pub loop-done-preserved : goal.loop-done-preserved
loop-done-preserved c =
    let done = c.loop-done.done in
    let count = c.min-count.result in
    let pages = c.args.pages.now in
    let more : done + count ≤ length c.loop-done.out = omega (arith, c.loop-done-test.true, c.min-count.ensures, c.loop-done.invariant.1) in
    let within : c.args.at + done + count ≤ page_bytes * length pages = omega (arith, more, c.loop-done.invariant.1, c.requires.within) in
    let some : 0 < count = omega (arith, c.loop-done-test.true, c.min-count.ensures) in
    let new : c.read.new.out ≡ part (c.args.at + done) count (cells_of pages) =
    page-read pages c.args.at done count _ c.read.new.out c.index-pages-place.result c.requires.whole within some
    (omega (arith, c.min-count.ensures)) (mid-long done count c.loop-done.out more) (c.read.ensures ∙ ap (λ p. part ((c.args.at + done) % page_bytes) (length (take (done + count - done) (drop done c.loop-done.out))) p.bytes) c.index-pages-place.is) in
    let counted : length c.read.new.out ≡ count = long-read pages (c.args.at + done) count c.read.new.out c.requires.whole within new in (
      omega (arith, more, c.loop-done.invariant.1),
      put-long c.loop-done.out c.read.new.out done count more counted ∙ c.loop-done.invariant.1,
      read_on c.loop-done.out c.read.new.out done count more counted c.args.at (cells_of pages) new c.loop-done.invariant.2,
    )
