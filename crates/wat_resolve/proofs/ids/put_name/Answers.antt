use Rattle.std.proofs.Common.{◌≡◌, ◌∙◌, sym, arith}
use Rattle.wat_resolve.proofs.PlaceLaws.{place_again, place_put, noted_again, noted_first}
use Rattle.wat_resolve.proofs.ids.put_name.Goals as goal

pub returns-in-Some-clause-places : goal.returns-in-Some-clause-places
returns-in-Some-clause-places c = λ before count are.
    place_again (λ k. k.now) c.args.text.now before c.args.places.now are c.name_of-name.result c.args.id c.in-Some.field-0 c.name_of-name.ensures (sym (c.copied.ensures ∙ c.get.ensures.value) ∙ c.in-Some.is)

pub returns-in-Some-clause-found : goal.returns-in-Some-clause-found
returns-in-Some-clause-found c = λ before are.
    c.note.ensures ∙ noted_again (λ k. k.now) c.args.text.now before c.args.places.now are c.name_of-name.result c.args.id c.in-Some.field-0 c.args.found.now c.name_of-name.ensures (sym (c.copied.ensures ∙ c.get.ensures.value) ∙ c.in-Some.is)

pub returns-in_ok-insert-in-None-clause-places : goal.returns-in_ok-insert-in-None-clause-places
returns-in_ok-insert-in-None-clause-places c = λ before count are.
    let same : c.in-Ok.at ≡ c.args.place = omega (arith, c.in-Ok.ensures) in
    place_put (λ k. k.now) c.args.text.now before c.args.places.now are c.name_of-name.result c.args.id c.insert.new.self c.in-Ok.at c.name_of-name.ensures
    (sym (c.copied.ensures ∙ c.get.ensures.value) ∙ c.in-None.is) (same ∙ sym count) c.in_ok-insert-in-None.ensures.updates

pub returns-in_ok-insert-in-None-clause-found : goal.returns-in_ok-insert-in-None-clause-found
returns-in_ok-insert-in-None-clause-found c = λ before are.
    noted_first (λ k. k.now) c.args.text.now before c.args.places.now are c.name_of-name.result c.args.id c.args.found.now c.name_of-name.ensures (sym (c.copied.ensures ∙ c.get.ensures.value) ∙ c.in-None.is)
