use Rattle.std.proofs.Common.{rules, ◌≡◌, length, ◌∙◌, subst}
use Rattle.wasm_image.specs.Functions.{imported_functions}
use Rattle.wasm_image.specs.Kept.{IsHostOf}
use Rattle.wasm_image.proofs.HostLemmas.{zip-length}
use Rattle.wasm_image.proofs.images.Image.imported_count.Goals as goal

pub returns : goal.returns
returns c =
    let kept : c.len.result ≡ length c.self.inside.hosts.items = search rules in
    kept
    ∙ subst (λ m. length c.self.inside.hosts.items ≡ length (imported_functions m)) c.self.view_is
    (zip-length (IsHostOf c.self.inside.checked) (imported_functions c.self.inside.checked) c.self.inside.hosts.items c.self.invariant.1)
