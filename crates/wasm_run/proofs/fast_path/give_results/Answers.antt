use Rattle.std.proofs.Common.{arith, refl}
use Rattle.wasm_run.proofs.FastPathLemmas.{ready, here_goes, once}
use Rattle.wasm_run.proofs.FastCallLemmas.{return-plain}
use Rattle.wasm_run.proofs.fast_path.give_results.Goals as goal

pub return_values-requires : goal.return_values-requires
return_values-requires c = ready c.requires

pub gone_on-requires : goal.gone_on-requires
gone_on-requires c = here_goes c.requires refl (c.in_ok-return_values.ensures c.args.m.now) (return-plain c.args.m.now c.args.memory.now c.args.s.now (omega (arith, c.if-depth-eq0.false, c.depth.ensures)))

pub returns : goal.returns
returns c = once c.requires refl (c.in_ok-return_values.ensures c.args.m.now) c.gone_on.ensures (here_goes c.requires refl (c.in_ok-return_values.ensures c.args.m.now) (return-plain c.args.m.now c.args.memory.now c.args.s.now (omega (arith, c.if-depth-eq0.false, c.depth.ensures))))
