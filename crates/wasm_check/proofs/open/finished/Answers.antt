use Rattle.type_suffixes.specs.Lists.{listed}
use Rattle.wasm_check.specs.code.Runs.{known, peeked}
use Rattle.wasm_check.proofs.OpenLemmas.{ends-not, ends-as}
use Rattle.wasm_check.proofs.open.finished.Goals as goal

pub returns-then-not-take_list : goal.returns-then-not-take_list
returns-then-not-take_list c =
    let types = c.args.scope.now.types in
    ends-not (listed types c.args.results) (known types c.args.s.now) (peeked types c.peek-rest.result) c.peek-rest.ensures c.if-not-take_list.ensures

pub returns : goal.returns
returns c =
    let types = c.args.scope.now.types in
    ends-as (listed types c.args.results) (known types c.args.s.now) (peeked types c.peek-rest.result) (peeked types c.take_list.new.self) c.is_empty.result
    c.peek-rest.ensures c.if-not-take_list.ensures c.is_empty.ensures
