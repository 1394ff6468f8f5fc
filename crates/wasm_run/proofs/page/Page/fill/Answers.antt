use Rattle.std.proofs.Common.{◌≡◌, ◌⊎◌, ◌∙◌, sym, subst, true, replicate}
use Rattle.wasm_reduction.specs.Combinators.{written}
use Rattle.wasm_run.specs.code.Pages.{Page}
use Rattle.wasm_run.proofs.ZeroLemmas.{fill-fresh, page-without, none_of}
use Rattle.wasm_run.proofs.page.Page.fill.Goals as goal

pub returns-else-not-is_empty : goal.returns-else-not-is_empty
returns-else-not-is_empty c =
    let none = none_of c.as_slice.result.now c.self.inside.block.items c.is_empty.result c.as_slice.ensures.value c.is_empty.ensures c.if-not-is_empty.false in
    let is = sym (page-without c.self.inside.block.items none) ∙ c.self.view_is in
    subst (λ (p : Page). p ≡ record { bytes = written c.args.at (replicate c.args.count c.args.byte) p.bytes; held = p.held }) is
    (fill-fresh c.args.at c.args.count c.args.byte (subst (λ (p : Page). (p.held ≡ true) ⊎ (c.args.byte ≡ 0)) (sym is) c.requires.held) c.requires.within)
