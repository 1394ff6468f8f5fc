use Rattle.std.proofs.Common.{◌∙◌, ap, sym, vec_len, length}
use Rattle.wasm_reduction.specs.Memories.{page_bytes}
use Rattle.wasm_run.proofs.ZeroLemmas.{held-fresh, none_of, resized}
use Rattle.wasm_run.proofs.page.Page.hold.Goals as goal

pub returns-in_ok-resize-clause-bytes : goal.returns-in_ok-resize-clause-bytes
returns-in_ok-resize-clause-bytes c =
    let none = none_of c.as_slice.result.now c.self.inside.block.items c.is_empty.result c.as_slice.ensures.value c.is_empty.ensures c.if-is_empty.true in
    held-fresh c.self.inside.block.items c.resize.new.self.items none
    (resized page_bytes (vec_len c.self.inside.block) c.self.inside.block.items c.resize.new.self.items none (sym c.as_slice.ensures.len ∙ ap (λ l. length l) c.as_slice.ensures.value) c.in_ok-resize.ensures.items)
    ∙ ap (λ p. p.bytes) c.self.view_is
