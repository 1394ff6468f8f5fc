use Rattle.std.proofs.Common.{◌≡◌, ◌∙◌, sym, arith}
use Rattle.wat_resolve.proofs.PlaceLaws.{words_again, words_put}
use Rattle.wat_resolve.proofs.types.put_word.Goals as goal

pub returns-in-Some : goal.returns-in-Some
returns-in-Some c = λ words count are. words_again (λ k. k.items) words c.args.places.now c.args.word c.in-Some.field-0 (sym (c.copied.ensures ∙ c.get.ensures.value) ∙ c.in-Some.is) are

pub returns-in_ok-insert-in-None : goal.returns-in_ok-insert-in-None
returns-in_ok-insert-in-None c = λ words count are.
    let same : c.in-Ok.at ≡ c.args.place = omega (arith, c.in-Ok.ensures) in
    words_put (λ k. k.items) words c.args.places.now c.insert.new.self c.args.word c.in-Ok.at (sym (c.copied.ensures ∙ c.get.ensures.value) ∙ c.in-None.is) (same ∙ sym count) c.in_ok-insert-in-None.ensures.updates are
