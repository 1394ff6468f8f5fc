use Rattle.wasm_start.proofs.EvaluationLemmas.{stack-more}
use Rattle.wasm_start.proofs.constants.push.Goals as goal

pub returns : goal.returns
returns c = stack-more c.args.stack.now.items c.push.new.self.items c.args.v c.in_ok-push.ensures.items
