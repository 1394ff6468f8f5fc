use Rattle.std.proofs.Common.{◌∙◌, ◌+◌, ◌-◌, ap, sym, subst, arith, length, take, drop}
use Rattle.std.proofs.lemmas.List.{length-set}
use Rattle.wasm_run.specs.code.Pages.{AreHeld}
use Rattle.wasm_run.proofs.PageLemmas.{held-in, page-written, cut_is}
use Rattle.wasm_run.proofs.bytes.write.Goals as goal

pub write-requires-clause-held : goal.write-requires-clause-held
write-requires-clause-held c =
    held-in c.loop-done.pages c.args.at (length c.args.bytes.now) (c.args.at + c.loop-done.done) c.index-pages-place.result
    (subst (λ h. AreHeld h c.args.at (length c.args.bytes.now)) (sym c.loop-done.invariant.2.held) c.requires.held) (omega arith) (omega (arith, c.loop-done-test.true))

pub loop-done-preserved : goal.loop-done-preserved
loop-done-preserved c =
    let more = c.loop-done.done + c.min-count.result in (
      omega (arith, c.loop-done-test.true, c.min-count.ensures),
      length-set c.loop-done.pages _ c.write.new.self ∙ c.loop-done.invariant.1,
      page-written c.args.pages.now c.loop-done.pages c.args.at c.loop-done.done c.min-count.result c.args.bytes.now (take (more - c.loop-done.done) (drop c.loop-done.done c.args.bytes.now)) c.index-pages-place.result c.write.new.self
          c.requires.whole c.requires.within c.loop-done.invariant.1 (omega (arith, c.loop-done-test.true)) (omega (arith, c.loop-done-test.true, c.min-count.ensures))
          (omega (arith, c.min-count.ensures))
          (cut_is c.loop-done.done c.min-count.result c.args.bytes.now)
          (ap (λ p. p.bytes) c.write.ensures)
          (ap (λ p. p.held) c.write.ensures
          ∙ sym (held-in c.loop-done.pages c.args.at (length c.args.bytes.now) (c.args.at + c.loop-done.done) c.index-pages-place.result
          (subst (λ h. AreHeld h c.args.at (length c.args.bytes.now)) (sym c.loop-done.invariant.2.held) c.requires.held) (omega arith) (omega (arith, c.loop-done-test.true))))
          c.loop-done.invariant.2,
    )
