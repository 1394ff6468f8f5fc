use Rattle.std.proofs.Common.{◌∙◌, ap, sym, length}
use Rattle.wasm_reduction.specs.Combinators.{part}
use Rattle.wasm_run.proofs.ZeroLemmas.{zeros-part, page-without, none_of}
use Rattle.wasm_run.proofs.page.Page.read.Goals as goal

pub returns-then-is_empty : goal.returns-then-is_empty
returns-then-is_empty c =
    let none = none_of c.as_slice-block.result.now c.self.inside.block.items c.is_empty.result c.as_slice-block.ensures.value c.is_empty.ensures c.if-is_empty.true in
    c.fill.ensures.after (λ y e. e)
    ∙ sym (zeros-part c.args.at (length c.args.out.now) c.requires)
    ∙ ap (λ p. part c.args.at (length c.args.out.now) p.bytes) (sym (page-without c.self.inside.block.items none) ∙ c.self.view_is)
