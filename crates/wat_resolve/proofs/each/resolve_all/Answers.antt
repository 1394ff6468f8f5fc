use Rattle.std.proofs.Common.{◌∙◌, ◌++◌, ◌∷◌, [], map, sym, ap, take}
use Rattle.std.proofs.lemmas.List.{map_more}
use Rattle.wat_resolve.proofs.NotingLaws.{noted_more}
use Rattle.wat_resolve.proofs.each.resolve_all.Goals as goal

pub loop-entry-preserved : goal.loop-entry-preserved
loop-entry-preserved g c =
    let xs = c.args.entries.now in
    let i = c.loop-entry.entry-index in
    let x = c.entry-item.result in
    let f = g.T.Entry.meaning c.args.inside.now in
    let one = c.in_ok-one.ensures.made ∙ ap f c.entry-item.is in (
      c.in_ok-push.ensures.ok ∙ ap (λ l. l ++ c.in_ok-one.one ∷ []) c.loop-entry.invariant.0 ∙ ap (λ y. map f (take i xs) ++ y ∷ []) one ∙ sym (map_more f xs i x c.loop-entry-test.true),
      noted_more (g.T.Entry.faults c.args.inside.now) xs i x c.args.found.now c.loop-entry.found c.resolve.new.found c.loop-entry-test.true c.entry-item.is c.loop-entry.invariant.1 c.in_ok-one.ensures.found,
    )
