use Rattle.std.proofs.Common.{refl}
use Rattle.type_suffixes.specs.Lists.{listed}
use Rattle.wasm_check.specs.code.Runs.{known, peeked}
use Rattle.wasm_check.proofs.Carrying.{take-answers}
use Rattle.wasm_check.proofs.open.can_take.Goals as goal

pub returns-then-ends_alike : goal.returns-then-ends_alike
returns-then-ends_alike c = c.requires.decide (listed c.args.scope.now.types c.args.list) c.requires.count (c.if-ends_alike.ensures refl)

pub returns : goal.returns
returns c =
    let types = c.args.scope.now.types in
    take-answers c.take_list.result (listed types c.args.list) (known types c.args.s.now) (peeked types c.peek-rest.result) (peeked types c.take_list.new.self) c.peek-rest.ensures c.take_list.ensures
