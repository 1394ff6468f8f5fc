use Rattle.std.proofs.Common.{◌≡◌, length, arith}
use Rattle.wasm_start.proofs.EvaluationLemmas.{stack-more, stack-none}
use Rattle.wasm_start.proofs.constants.pop.Goals as goal

pub returns-in-None : goal.returns-in-None
returns-in-None c =
    let none : length c.pop.new.self.items ≡ 0 = omega (arith, c.pop.new.self.ok.0, c.in-None.ensures.cases.1) in
    stack-none c.args.stack.now.items c.pop.new.self.items c.in-None.ensures.items none

pub returns-in-Some : goal.returns-in-Some
returns-in-Some c = stack-more c.pop.new.self.items c.args.stack.now.items c.in-Some.v c.in-Some.ensures.items
