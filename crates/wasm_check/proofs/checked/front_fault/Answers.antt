use Rattle.wasm_check.proofs.FaultLemmas.{front-first}
use Rattle.wasm_check.proofs.checked.front_fault.Goals as goal

pub returns-in-Some : goal.returns-in-Some
returns-in-Some c = front-first c.args.m.now c.loop-s.s-index c.in-Some.why c.in_ok-why.field-0 c.loop-s-test.true c.loop-s.invariant c.in-Some.is c.in_ok-why.ensures
