use Rattle.std.proofs.Common.{◌≡◌, length, refl, ap, arith}
use Rattle.type_suffixes.specs.Lists.{listed}
use Rattle.wasm_check.specs.code.Runs.{known, peeked}
use Rattle.wasm_check.proofs.RunLemmas.{none-left}
use Rattle.wasm_check.proofs.Deciding.{hangs-on-all, hangs-on-lowest, down-run}
use Rattle.wasm_check.proofs.stack.Stack.decisive.Goals as goal

pub returns-in_default : goal.returns-in_default
unfolding peeked
returns-in_default c =
    let types = c.args.scope.now.types in
    let rest = c.loop-run.rest in
    let most : length c.list-most.result.now ≡ length (listed types c.args.list) = ap (λ l. length l) c.list-most.ensures in
    hangs-on-lowest types (known types c.args.self.now) (listed types c.args.list) rest.dead rest.last rest.below.now c.loop-run.count c.lowest.result c.min.result (length c.list-most.result.now)
    (none-left rest.below.now (length rest.below.now) refl c.in_default.ensures.cases) most c.loop-run.invariant.0 c.loop-run.invariant.1 c.lowest.ensures c.min.ensures

pub returns-then-most-count : goal.returns-then-most-count
returns-then-most-count c =
    let types = c.args.scope.now.types in
    let most : length c.list-most.result.now ≡ length (listed types c.args.list) = ap (λ l. length l) c.list-most.ensures in
    hangs-on-all (known types c.args.self.now) (listed types c.args.list) (length c.list-most.result.now) (omega (arith, most))

pub loop-run-preserved : goal.loop-run-preserved
unfolding peeked
loop-run-preserved c =
    let types = c.args.scope.now.types in
    let rest = c.loop-run.rest in
    let most : length c.list-most.result.now ≡ length (listed types c.args.list) = ap (λ l. length l) c.list-most.ensures in (
      omega (arith, most, c.if-most-count.false),
      down-run types rest.dead rest.last c.in-Some.run'.now rest.below.now c.in-Some.below.now c.loop-run.count c.size-n.result (known types c.args.self.now).ops
          c.in-Some.ensures.cases.0 c.size-n.ensures c.loop-run.invariant.1,
    )
