use Rattle.std.proofs.Common.{◌≡◌, ◌≤◌, subst, Some, slice_get, length}
use Rattle.wasm_run.proofs.ZeroLemmas.{get-past, past_of}
use Rattle.wasm_run.proofs.page.Page.get.Goals as goal

pub returns-in-None : goal.returns-in-None
returns-in-None c =
    subst (λ p. slice_get p.bytes c.args.at ≡ Some 0) c.self.view_is
    (get-past c.self.inside.block.items c.args.at c.self.invariant c.requires
    (subst (λ l. length l ≤ c.args.at) c.as_slice.ensures.value (past_of c.args.at (length c.as_slice.result.now) c.in-None.ensures.lookup.0)))
