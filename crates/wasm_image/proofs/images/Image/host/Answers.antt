use Rattle.std.proofs.Common.{◌≡◌, ◌≤◌, length, refl, subst}
use Rattle.std.specs.Prelude.{Some, MatchOption, slice_get}
use Rattle.std.proofs.lemmas.Option.{slice_get_past, slice_get_read}
use Rattle.wasm_image.specs.declared.hosts.Host.{Host}
use Rattle.wasm_image.specs.Hosts.{IsHostFunction}
use Rattle.wasm_image.proofs.HostLemmas.{host-found, host-past}
use Rattle.wasm_image.proofs.images.Image.host.Goals as goal

pub returns-in-None : goal.returns-in-None
returns-in-None c h =
    let past : length c.self.inside.hosts.items ≤ c.args.f = subst (λ xs. length xs ≤ c.args.f) c.deref.ensures.value c.in-None.ensures.lookup.3 in
    subst (λ m. IsHostFunction m c.args.f h → ⊥) c.self.view_is
    (host-past c.self.inside.checked c.self.inside.hosts.items c.args.f h c.self.invariant.1 (slice_get_past c.self.inside.hosts.items c.args.f past))

pub returns-in-Some : goal.returns-in-Some
returns-in-Some c =
    let at : slice_get c.deref.result.now c.args.f ≡ Some c.in-Some.host.now =
    slice_get_read c.deref.result.now (length c.deref.result.now) c.args.f c.in-Some.host.now refl c.in-Some.ensures.lookup.3.0 c.in-Some.ensures.lookup.1 in
    let kept : slice_get c.self.inside.hosts.items c.args.f ≡ Some c.in-Some.host.now =
    subst (λ xs. slice_get xs c.args.f ≡ Some c.in-Some.host.now) c.deref.ensures.value at in
    subst (λ m. MatchOption c.in-Some.host.now ((h : Host) → ¬ IsHostFunction m c.args.f h) (IsHostFunction m c.args.f)) c.self.view_is
    (host-found c.self.inside.checked c.self.inside.hosts.items c.args.f c.in-Some.host.now c.self.invariant.1 kept)
