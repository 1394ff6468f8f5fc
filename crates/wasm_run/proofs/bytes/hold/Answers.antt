use Rattle.std.proofs.Common.{◌∙◌, arith}
use Rattle.std.proofs.lemmas.List.{length-set}
use Rattle.wasm_run.proofs.PageLemmas.{page-held, page-same}
use Rattle.wasm_run.proofs.bytes.hold.Goals as goal

pub returns-in_err-hold-clause-same : goal.returns-in_err-hold-clause-same
returns-in_err-hold-clause-same c =
    (page-same c.args.pages.now _ c.loop-k.k c.loop-k.pages c.index-pages-k.result c.hold.new.self (omega (arith, c.requires.within, c.loop-k-test.true, c.loop-k.invariant.0)) c.hold.ensures.bytes c.loop-k.invariant.1).0

pub loop-k-preserved : goal.loop-k-preserved
loop-k-preserved c = (
  length-set c.loop-k.pages c.loop-k.k c.hold.new.self ∙ c.loop-k.invariant.0,
  page-held c.args.pages.now _ c.loop-k.k c.loop-k.pages c.index-pages-k.result c.hold.new.self (omega (arith, c.requires.within, c.loop-k-test.true, c.loop-k.invariant.0)) c.hold.ensures.bytes c.in_ok-hold.ensures.held c.loop-k.invariant.1,
)
