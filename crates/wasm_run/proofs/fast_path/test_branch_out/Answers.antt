use Rattle.std.proofs.Common.{rules, arith}
use Rattle.wasm_run.proofs.FastTestLemmas.{branch-ready, branch-goes-by, branch-carried}
use Rattle.wasm_run.proofs.FastCallLemmas.{noted-waits, br_if-out-plain}
use Rattle.wasm_run.proofs.fast_path.test_branch_out.Goals as goal

pub br_if-requires : goal.br_if-requires
br_if-requires c = branch-ready c.requires c.in-Some.w (search rules) c.in_ok-note.ensures c.in-Some.ensures

pub gone_on-requires : goal.gone_on-requires
gone_on-requires c = branch-goes-by c.requires c.in-Some.w (search rules) c.in_ok-note.ensures c.in-Some.ensures (c.in_ok-br_if.ensures c.args.m.now)
    (br_if-out-plain c.args.m.now c.args.memory.now c.note.new.self c.args.label _ (noted-waits c.args.s.now c.note.new.self _ c.in_ok-note.ensures (omega (arith, c.if-depth-eq0.false, c.depth.ensures))))

pub returns : goal.returns
returns c = branch-carried c.requires c.in-Some.w (search rules) c.in_ok-note.ensures c.in-Some.ensures (c.in_ok-br_if.ensures c.args.m.now) c.gone_on.ensures
    (branch-goes-by c.requires c.in-Some.w (search rules) c.in_ok-note.ensures c.in-Some.ensures (c.in_ok-br_if.ensures c.args.m.now)
    (br_if-out-plain c.args.m.now c.args.memory.now c.note.new.self c.args.label _ (noted-waits c.args.s.now c.note.new.self _ c.in_ok-note.ensures (omega (arith, c.if-depth-eq0.false, c.depth.ensures)))))
