use Rattle.std.proofs.Common.{◌≡◌, ◌+◌, ◌<◌, List, [], ◌∷◌, ◌++◌, length, get_or, sym, ap, ◌∙◌, subst}
use Rattle.wasm_ast.specs.declared.modules.Import.{Import}
use Rattle.wasm_image.proofs.HostLemmas.{AreHostsBelow, host-more, host-same}
use Rattle.wasm_image.proofs.images.hosts_of.Goals as goal
use Rattle.wasm_image.proofs.images.hosts_of.Goals.{then-is_function+in_ok-push, else-is_function}

pub loop-import-preserved : goal.loop-import-preserved
loop-import-preserved c =
    let lt : c.loop-import.import-index < length c.args.m.now.imports =
    subst (λ (xs : List Import). c.loop-import.import-index < length xs) c.as_slice-import-items.ensures c.loop-import-test.true in
    let here : c.import-item.result ≡ get_or c.args.m.now.imports c.loop-import.import-index c.import-item.result =
    subst (λ (xs : List Import). c.import-item.result ≡ get_or xs c.loop-import.import-index c.import-item.result) c.as_slice-import-items.ensures c.import-item.is in
    elim c.if-is_function.branch [
      | then-is_function+in_ok-push w ↦
          let items : c.if-is_function.hosts.items ≡ c.loop-import.hosts.items ++ w.host_of.result ∷ [] =
          ap (λ h. h.items) w.hosts-is ∙ w.in_ok-push.ensures.items in
          subst (AreHostsBelow c.args.m.now (c.loop-import.import-index + 1)) (sym items)
          (host-more c.args.m.now c.loop-import.import-index c.import-item.result w.host_of.result c.loop-import.hosts.items lt here
          (sym c.is_function.ensures ∙ w.if-is_function.true) c.loop-import.invariant w.host_of.ensures)
      | else-is_function w ↦
          subst (λ h. AreHostsBelow c.args.m.now (c.loop-import.import-index + 1) h.items) (sym w.hosts-is)
          (host-same c.args.m.now c.loop-import.import-index c.import-item.result c.loop-import.hosts.items lt here
          (sym c.is_function.ensures ∙ w.if-is_function.false) c.loop-import.invariant)
    ]
