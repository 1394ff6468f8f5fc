use Rattle.std.proofs.Common.{◌∙◌, ◌++◌, ◌*◌, ℕ, ap, sym, subst, arith, length, length-append, replicate}
use Rattle.std.proofs.lemmas.List.{length-replicate}
use Rattle.wasm_reduction.specs.Memories.{page_bytes}
use Rattle.wasm_run.specs.code.Pages.{AreWhole, cells_of, fresh}
use Rattle.wasm_run.proofs.PageLemmas.{cells-added, whole-added}
use Rattle.wasm_run.proofs.bytes.BytesMemoryNumbers.grow.Goals as goal

pub invariant_of-self-2 : goal.invariant_of-self-2
invariant_of-self-2 c = (
  subst (λ l. AreWhole l) (sym c.in_ok-add_pages.ensures.added) (whole-added c.self.inside.pages.items c.args.pages c.self.invariant.0),
  omega (
    arith,
    ap (λ l. length l) c.in_ok-add_pages.ensures.added,
    length-append c.self.inside.pages.items (replicate c.args.pages fresh),
    length-replicate c.args.pages fresh,
    c.in_ok-add_pages.ensures.few,
  ),
)

pub returns-clause-grown : goal.returns-clause-grown
returns-clause-grown c =
    ap (λ l. cells_of l) c.in_ok-add_pages.ensures.added ∙ cells-added c.self.inside.pages.items c.args.pages ∙ ap (λ l. l ++ replicate {A = ℕ} (c.args.pages * page_bytes) 0) c.self.view_is
