use Rattle.std.proofs.Common.{rules, arith}
use Rattle.wasm_run.proofs.FastTestLemmas.{branch-ready, branch-goes, branch-carried}
use Rattle.wasm_run.proofs.fast_path.test_branch.Goals as goal

pub br_if-requires : goal.br_if-requires
br_if-requires c = branch-ready c.requires c.in-Some.w (search rules) c.in_ok-note.ensures c.in-Some.ensures

pub gone_on-requires : goal.gone_on-requires
gone_on-requires c = branch-goes c.requires c.in-Some.w (search rules) c.in_ok-note.ensures c.in-Some.ensures (c.in_ok-br_if.ensures c.args.m.now) (omega (arith, c.if-l-label_count.false, c.label_count.ensures))

pub returns : goal.returns
returns c = branch-carried c.requires c.in-Some.w (search rules) c.in_ok-note.ensures c.in-Some.ensures (c.in_ok-br_if.ensures c.args.m.now) c.gone_on.ensures
    (branch-goes c.requires c.in-Some.w (search rules) c.in_ok-note.ensures c.in-Some.ensures (c.in_ok-br_if.ensures c.args.m.now) (omega (arith, c.if-l-label_count.false, c.label_count.ensures)))
