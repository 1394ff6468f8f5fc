use Rattle.wasm_check.specs.code.Kept.{context}
use Rattle.wasm_check.proofs.OpenLemmas.{started}
use Rattle.wasm_check.proofs.body.start.Goals as goal

pub returns : goal.returns
returns c =
    started (context c.args.scope.now) c.args.scope.now.types c.results.result c.results-2.result c.new-stack.result c.new-seqs.result.items c.push.new.self.items
    c.results.ensures c.results-2.ensures c.new-stack.ensures c.new-seqs.ensures.items c.in_ok-push.ensures.items
