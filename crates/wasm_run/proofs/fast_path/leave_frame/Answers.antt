use Rattle.std.proofs.Common.{arith}
use Rattle.wasm_run.proofs.FastPathLemmas.{end_out, end_once}
use Rattle.wasm_run.proofs.fast_path.leave_frame.Goals as goal

pub end-requires : goal.end-requires
end-requires c = c.requires.run.order.sane

pub gone_on-requires : goal.gone_on-requires
gone_on-requires c = end_out c.requires (c.in_ok-end.ensures c.args.m.now) (omega (arith, c.if-depth-eq0.false, c.depth.ensures))

pub returns : goal.returns
returns c = end_once c.requires (c.in_ok-end.ensures c.args.m.now) c.gone_on.ensures (end_out c.requires (c.in_ok-end.ensures c.args.m.now) (omega (arith, c.if-depth-eq0.false, c.depth.ensures)))
