use Rattle.std.proofs.Common.{◌≡◌, ◌++◌, ◌∷◌, [], List, Option, length, sym, subst}
use Rattle.std.specs.Prelude.{OnOk}
use Rattle.wasm_text.specs.declared.named.Id.{Id}
use Rattle.wat_resolve.specs.code.Firsts.{AreFirsts, words_of}
use Rattle.wat_resolve.proofs.PlaceLaws.{place_none}
use Rattle.wat_resolve.proofs.ids.put_place.Goals as goal

pub returns-in-None-clause-places : goal.returns-in-None-clause-places
returns-in-None-clause-places c = λ before count are.
    subst (λ o. AreFirsts (λ k. k.now) (words_of c.args.text.now (before ++ o ∷ [])) c.args.places.now) (sym c.in-None.is) (place_none (λ k. k.now) c.args.text.now before c.args.places.now are)

pub returns-in-Some-clause-places : goal.returns-in-Some-clause-places
returns-in-Some-clause-places c =
    subst (λ (o : Option Id). OnOk c.put_name.result ((before : List (Option Id)) → length before ≡ c.args.place → AreFirsts (λ k. k.now) (words_of c.args.text.now before) c.args.places.now
    → AreFirsts (λ k. k.now) (words_of c.args.text.now (before ++ o ∷ [])) c.put_name.new.places)) (sym c.in-Some.is) c.put_name.ensures.places
