use Rattle.std.proofs.Common.{arith}
use Rattle.std.proofs.lemmas.Option.{MatchOption-at_some, slice_get_within}
use Rattle.wasm_check.specs.Faults.{BodyFailsAt}
use Rattle.wasm_check.specs.Modules.{BodyIsValid}
use Rattle.wasm_check.proofs.FaultLemmas.{fails-in, bodies-more}
use Rattle.wasm_check.proofs.functions.first_body.Goals as goal

pub returns-in-Some : goal.returns-in-Some
returns-in-Some c =
    fails-in c.args.m.now c.loop-k.k c.in-Some.place c.get-f.result.now c.get-f.ensures
    (MatchOption-at_some (BodyIsValid c.args.m.now c.get-f.result.now) (BodyFailsAt c.args.m.now c.get-f.result.now) c.in-Some.place c.in-Some.is c.in_ok-place.ensures)
    c.loop-k.invariant

pub returns : goal.returns
returns c = λ k f e. c.loop-k.invariant k (omega (arith, slice_get_within c.args.m.now.funcs k f e, c.loop-k-test.false, c.len-k-end.ensures)) f e

pub loop-k-preserved : goal.loop-k-preserved
loop-k-preserved c = bodies-more c.args.m.now c.loop-k.k c.get-f.result.now c.in_ok-place.field-0 c.get-f.ensures c.in_default.not-Some c.in_ok-place.ensures c.loop-k.invariant
