use Rattle.std.proofs.Common.{⊎_elim, inl, inr, ◌∙◌, ◌+◌, ap, sym, subst, arith}
use Rattle.std.proofs.lemmas.List.{length-set}
use Rattle.wasm_run.specs.code.Pages.{AreHeld}
use Rattle.wasm_run.proofs.PageLemmas.{held-in, page-filled}
use Rattle.wasm_run.proofs.bytes.fill.Goals as goal

pub fill-requires-clause-held : goal.fill-requires-clause-held
fill-requires-clause-held c =
    ⊎_elim
    (λ held. inl (held-in c.loop-done.pages c.args.at c.args.count (c.args.at + c.loop-done.done) c.index-pages-place.result
    (subst (λ h. AreHeld h c.args.at c.args.count) (sym c.loop-done.invariant.2.held) held) (omega arith) (omega (arith, c.loop-done-test.true))))
    (λ is. inr is)
    c.requires.held

pub loop-done-preserved : goal.loop-done-preserved
loop-done-preserved c = (
  omega (arith, c.loop-done-test.true, c.min-piece.ensures),
  length-set c.loop-done.pages _ c.fill.new.self ∙ c.loop-done.invariant.1,
  page-filled c.args.pages.now c.loop-done.pages c.args.at c.args.count c.loop-done.done c.min-piece.result c.args.byte c.index-pages-place.result c.fill.new.self
      c.requires.whole c.requires.within c.loop-done.invariant.1 (omega (arith, c.loop-done-test.true)) (omega (arith, c.loop-done-test.true, c.min-piece.ensures))
      (omega (arith, c.min-piece.ensures))
      (ap (λ p. p.bytes) c.fill.ensures)
      (ap (λ p. p.held) c.fill.ensures)
      c.loop-done.invariant.2,
)
