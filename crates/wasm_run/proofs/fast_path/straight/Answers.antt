use Rattle.std.proofs.Common.{arith, refl, subst}
use Rattle.wasm_machine.specs.Acts.{IsNext}
use Rattle.wasm_run.proofs.FastPathLemmas.{ready, acts_goes, br_goes, acts_once, once, num_asks, acts_stay, plain_block, plain_loop, plain_discard, plain_local_get, plain_local_set, plain_local_tee, plain_global_get, plain_global_set}
use Rattle.wasm_run.proofs.fast_path.straight.Goals as goal

pub nop-requires : goal.nop-requires
nop-requires c = ready c.requires

pub gone_on-requires : goal.gone_on-requires
gone_on-requires c = acts_goes c.requires c.in-Nop.is (c.nop.ensures c.args.m.now) (λ d vs. tt)

pub returns-in-Nop : goal.returns-in-Nop
returns-in-Nop c = once c.requires c.in-Nop.is (c.nop.ensures c.args.m.now) c.gone_on.ensures (acts_goes c.requires c.in-Nop.is (c.nop.ensures c.args.m.now) (λ d vs. tt))

pub block-requires-clause-ready : goal.block-requires-clause-ready
block-requires-clause-ready c = ready c.requires

pub block-requires-clause-next : goal.block-requires-clause-next
block-requires-clause-next c = subst (λ i. IsNext c.args.m.now c.args.s.now i) c.in-Block.is c.requires.next

pub gone_on-requires-in-Block : goal.gone_on-requires-in-Block
gone_on-requires-in-Block c = acts_goes c.requires c.in-Block.is c.in_ok-block-in-Block.ensures (λ d vs. plain_block c.args.m.now d vs c.in-Block.ty c.in-Block.body)

pub returns-in_ok-block-in-Block : goal.returns-in_ok-block-in-Block
returns-in_ok-block-in-Block c = once c.requires c.in-Block.is c.in_ok-block-in-Block.ensures c.gone_on-in-Block.ensures (acts_goes c.requires c.in-Block.is c.in_ok-block-in-Block.ensures (λ d vs. plain_block c.args.m.now d vs c.in-Block.ty c.in-Block.body))

pub repeat-requires-clause-ready : goal.repeat-requires-clause-ready
repeat-requires-clause-ready c = ready c.requires

pub repeat-requires-clause-next : goal.repeat-requires-clause-next
repeat-requires-clause-next c = subst (λ i. IsNext c.args.m.now c.args.s.now i) c.in-Loop.is c.requires.next

pub gone_on-requires-in-Loop : goal.gone_on-requires-in-Loop
gone_on-requires-in-Loop c = acts_goes c.requires c.in-Loop.is c.in_ok-repeat-in-Loop.ensures (λ d vs. plain_loop c.args.m.now d vs c.in-Loop.ty c.in-Loop.body)

pub returns-in_ok-repeat-in-Loop : goal.returns-in_ok-repeat-in-Loop
returns-in_ok-repeat-in-Loop c = once c.requires c.in-Loop.is c.in_ok-repeat-in-Loop.ensures c.gone_on-in-Loop.ensures (acts_goes c.requires c.in-Loop.is c.in_ok-repeat-in-Loop.ensures (λ d vs. plain_loop c.args.m.now d vs c.in-Loop.ty c.in-Loop.body))

pub br-requires : goal.br-requires
br-requires c = ready c.requires

pub gone_on-requires-in-Br : goal.gone_on-requires-in-Br
gone_on-requires-in-Br c = br_goes c.requires c.in-Br.is (c.in_ok-br-in-Br.ensures c.args.m.now) c.in-Br.l refl (omega (arith, c.if-l-label_count.false, c.label_count.ensures))

pub returns-in_ok-br-in-Br : goal.returns-in_ok-br-in-Br
returns-in_ok-br-in-Br c = once c.requires c.in-Br.is (c.in_ok-br-in-Br.ensures c.args.m.now) c.gone_on-in-Br.ensures (br_goes c.requires c.in-Br.is (c.in_ok-br-in-Br.ensures c.args.m.now) c.in-Br.l refl (omega (arith, c.if-l-label_count.false, c.label_count.ensures)))

pub discard-requires : goal.discard-requires
discard-requires c = ready c.requires

pub gone_on-requires-in-Discard : goal.gone_on-requires-in-Discard
gone_on-requires-in-Discard c = acts_goes c.requires c.in-Discard.is (c.discard.ensures c.args.m.now) (λ d vs. plain_discard d vs)

pub returns-in-Discard : goal.returns-in-Discard
returns-in-Discard c = once c.requires c.in-Discard.is (c.discard.ensures c.args.m.now) c.gone_on-in-Discard.ensures (acts_goes c.requires c.in-Discard.is (c.discard.ensures c.args.m.now) (λ d vs. plain_discard d vs))

pub local_get-requires : goal.local_get-requires
local_get-requires c = ready c.requires

pub gone_on-requires-in-LocalGet : goal.gone_on-requires-in-LocalGet
gone_on-requires-in-LocalGet c = acts_goes c.requires c.in-LocalGet.is (c.in_ok-local_get-in-LocalGet.ensures c.args.m.now) (λ d vs. plain_local_get d vs c.in-LocalGet.x)

pub returns-in_ok-local_get-in-LocalGet : goal.returns-in_ok-local_get-in-LocalGet
returns-in_ok-local_get-in-LocalGet c = once c.requires c.in-LocalGet.is (c.in_ok-local_get-in-LocalGet.ensures c.args.m.now) c.gone_on-in-LocalGet.ensures (acts_goes c.requires c.in-LocalGet.is (c.in_ok-local_get-in-LocalGet.ensures c.args.m.now) (λ d vs. plain_local_get d vs c.in-LocalGet.x))

pub local_set-requires : goal.local_set-requires
local_set-requires c = ready c.requires

pub gone_on-requires-in-LocalSet : goal.gone_on-requires-in-LocalSet
gone_on-requires-in-LocalSet c = acts_goes c.requires c.in-LocalSet.is (c.local_set.ensures c.args.m.now) (λ d vs. plain_local_set d vs c.in-LocalSet.x)

pub returns-in-LocalSet : goal.returns-in-LocalSet
returns-in-LocalSet c = once c.requires c.in-LocalSet.is (c.local_set.ensures c.args.m.now) c.gone_on-in-LocalSet.ensures (acts_goes c.requires c.in-LocalSet.is (c.local_set.ensures c.args.m.now) (λ d vs. plain_local_set d vs c.in-LocalSet.x))

pub local_tee-requires : goal.local_tee-requires
local_tee-requires c = ready c.requires

pub gone_on-requires-in-LocalTee : goal.gone_on-requires-in-LocalTee
gone_on-requires-in-LocalTee c = acts_goes c.requires c.in-LocalTee.is (c.local_tee.ensures c.args.m.now) (λ d vs. plain_local_tee d vs c.in-LocalTee.x)

pub returns-in-LocalTee : goal.returns-in-LocalTee
returns-in-LocalTee c = once c.requires c.in-LocalTee.is (c.local_tee.ensures c.args.m.now) c.gone_on-in-LocalTee.ensures (acts_goes c.requires c.in-LocalTee.is (c.local_tee.ensures c.args.m.now) (λ d vs. plain_local_tee d vs c.in-LocalTee.x))

pub global_get-requires : goal.global_get-requires
global_get-requires c = ready c.requires

pub gone_on-requires-in-GlobalGet : goal.gone_on-requires-in-GlobalGet
gone_on-requires-in-GlobalGet c = acts_goes c.requires c.in-GlobalGet.is (c.in_ok-global_get-in-GlobalGet.ensures c.args.m.now) (λ d vs. plain_global_get d vs c.in-GlobalGet.x)

pub returns-in_ok-global_get-in-GlobalGet : goal.returns-in_ok-global_get-in-GlobalGet
returns-in_ok-global_get-in-GlobalGet c = once c.requires c.in-GlobalGet.is (c.in_ok-global_get-in-GlobalGet.ensures c.args.m.now) c.gone_on-in-GlobalGet.ensures (acts_goes c.requires c.in-GlobalGet.is (c.in_ok-global_get-in-GlobalGet.ensures c.args.m.now) (λ d vs. plain_global_get d vs c.in-GlobalGet.x))

pub global_set-requires : goal.global_set-requires
global_set-requires c = ready c.requires

pub gone_on-requires-in-GlobalSet : goal.gone_on-requires-in-GlobalSet
gone_on-requires-in-GlobalSet c = acts_goes c.requires c.in-GlobalSet.is (c.global_set.ensures c.args.m.now) (λ d vs. plain_global_set d vs c.in-GlobalSet.x)

pub returns-in-GlobalSet : goal.returns-in-GlobalSet
returns-in-GlobalSet c = once c.requires c.in-GlobalSet.is (c.global_set.ensures c.args.m.now) c.gone_on-in-GlobalSet.ensures (acts_goes c.requires c.in-GlobalSet.is (c.global_set.ensures c.args.m.now) (λ d vs. plain_global_set d vs c.in-GlobalSet.x))

pub const32-requires : goal.const32-requires
const32-requires c = ready c.requires

pub gone_on-requires-in-Const32 : goal.gone_on-requires-in-Const32
gone_on-requires-in-Const32 c = acts_goes c.requires c.in-Const32.is (c.in_ok-const32-in-Const32.ensures.acts c.args.m.now) (λ d vs. tt)

pub returns-in_ok-const32-in-Const32 : goal.returns-in_ok-const32-in-Const32
returns-in_ok-const32-in-Const32 c = once c.requires c.in-Const32.is (c.in_ok-const32-in-Const32.ensures.acts c.args.m.now) c.gone_on-in-Const32.ensures (acts_goes c.requires c.in-Const32.is (c.in_ok-const32-in-Const32.ensures.acts c.args.m.now) (λ d vs. tt))

pub const64-requires : goal.const64-requires
const64-requires c = ready c.requires

pub gone_on-requires-in-Const64 : goal.gone_on-requires-in-Const64
gone_on-requires-in-Const64 c = acts_goes c.requires c.in-Const64.is (c.in_ok-const64-in-Const64.ensures.acts c.args.m.now) (λ d vs. tt)

pub returns-in_ok-const64-in-Const64 : goal.returns-in_ok-const64-in-Const64
returns-in_ok-const64-in-Const64 c = once c.requires c.in-Const64.is (c.in_ok-const64-in-Const64.ensures.acts c.args.m.now) c.gone_on-in-Const64.ensures (acts_goes c.requires c.in-Const64.is (c.in_ok-const64-in-Const64.ensures.acts c.args.m.now) (λ d vs. tt))

pub num-requires : goal.num-requires
num-requires c = ready c.requires

pub unreachable-requires : goal.unreachable-requires
unreachable-requires c = num_asks c.requires c.in-Num.is (c.in_ok-num-in-Num.ensures.acts c.args.m.now) c.in-Num.op refl c.in_default-2.not-Goes c.in_default-2.not-Asks

pub returns-in-Goes : goal.returns-in-Goes
returns-in-Goes c = acts_once c.requires c.in-Num.is (c.in_ok-num-in-Num.ensures.acts c.args.m.now) c.in-Goes.is

pub returns-in-Asks : goal.returns-in-Asks
returns-in-Asks c = acts_stay c.requires c.in-Num.is (c.in_ok-num-in-Num.ensures.acts c.args.m.now) c.in-Asks.is
