use Rattle.wasm_run.proofs.ZeroLemmas.{zeros-length}
use Rattle.wasm_run.proofs.page.Page.new.Goals as goal

pub invariant_of-result : goal.invariant_of-result
invariant_of-result c = rw c.new.ensures.items zeros-length
