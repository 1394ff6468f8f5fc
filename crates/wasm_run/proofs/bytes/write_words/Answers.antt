use Rattle.std.proofs.Common.{◌∙◌, ◌+◌, ◌∷◌, [], ap, sym, subst, arith, length, take, get_or}
use Rattle.std.proofs.lemmas.List.{length-set, drop_more}
use Rattle.wasm_run.specs.code.Pages.{AreHeld}
use Rattle.wasm_run.proofs.PageLemmas.{held-in, page-written, place_within}
use Rattle.wasm_run.proofs.bytes.write_words.Goals as goal

pub write-requires-clause-held : goal.write-requires-clause-held
write-requires-clause-held c =
    held-in c.loop-i.pages c.args.at (length c.args.words.now) (c.args.at + c.loop-i.i) c.index-pages-place.result
    (subst (λ h. AreHeld h c.args.at (length c.args.words.now)) (sym c.loop-i.invariant.1.held) c.requires.held) (omega arith) (omega (arith, c.loop-i-test.true))

pub loop-i-preserved : goal.loop-i-preserved
loop-i-preserved c =
    let i = c.loop-i.i in (
      length-set c.loop-i.pages _ c.write.new.self ∙ c.loop-i.invariant.0,
      page-written c.args.pages.now c.loop-i.pages c.args.at i 1 c.args.words.now (get_or c.args.words.now i 0 ∷ []) c.index-pages-place.result c.write.new.self
          c.requires.whole c.requires.within c.loop-i.invariant.0 (omega (arith, c.loop-i-test.true)) (omega (arith, c.loop-i-test.true))
          (omega (arith, place_within (c.args.at + i)))
          (sym (ap (λ l. take 1 l) (drop_more c.args.words.now i 0 (omega (arith, c.loop-i-test.true)))))
          (ap (λ p. p.bytes) c.write.ensures)
          (ap (λ p. p.held) c.write.ensures
          ∙ sym (held-in c.loop-i.pages c.args.at (length c.args.words.now) (c.args.at + i) c.index-pages-place.result
          (subst (λ h. AreHeld h c.args.at (length c.args.words.now)) (sym c.loop-i.invariant.1.held) c.requires.held) (omega arith) (omega (arith, c.loop-i-test.true))))
          c.loop-i.invariant.1,
    )
