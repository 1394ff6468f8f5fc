use Rattle.std.proofs.Common.{◌≡◌, ◌∙◌, ◌++◌, None, replicate, sym, subst}
use Rattle.wasm_text.specs.declared.named.Idx.{Idx}
use Rattle.wasm_text.specs.Names.{position}
use Rattle.wat_resolve.specs.code.Spaces.{Ids}
use Rattle.wat_resolve.proofs.PlaceLaws.{found_called}
use Rattle.wat_resolve.proofs.ids.Ids.find.Goals as goal

pub returns-in-Called : goal.returns-in-Called
returns-in-Called c =
    let own = replicate c.self.inside.unnamed None ++ c.self.inside.ids.items in
    let there = found_called (λ k. k.now) c.self.inside.text.now own c.self.inside.places c.self.invariant c.name_of.result c.in-Called.id c.copied.result c.name_of.ensures (c.copied.ensures ∙ c.get.ensures.value) in
    subst (λ (s : Ids). c.copied.result ≡ position s.text s.ids c.args.x) c.self.view_is
    (subst (λ (x : Idx). c.copied.result ≡ position c.self.inside.text.now own x) (sym c.in-Called.is) there)
