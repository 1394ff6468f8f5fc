use Rattle.std.proofs.Common.{rules}
use Rattle.wasm_run.proofs.FastTestLemmas.{block-ready, block-next, block-goes, block-carried}
use Rattle.wasm_run.proofs.fast_path.test_block.Goals as goal

pub if_else-requires-clause-ready : goal.if_else-requires-clause-ready
if_else-requires-clause-ready c = block-ready c.requires c.in-Some.w (search rules) c.in_ok-note.ensures c.in-Some.ensures

pub if_else-requires-clause-next : goal.if_else-requires-clause-next
if_else-requires-clause-next c = block-next c.requires c.in-Some.w (search rules) c.in_ok-note.ensures c.in-Some.ensures

pub gone_on-requires : goal.gone_on-requires
gone_on-requires c = block-goes c.requires c.in-Some.w (search rules) c.in_ok-note.ensures c.in-Some.ensures c.in_ok-if_else.ensures

pub returns : goal.returns
returns c = block-carried c.requires c.in-Some.w (search rules) c.in_ok-note.ensures c.in-Some.ensures c.in_ok-if_else.ensures c.gone_on.ensures (block-goes c.requires c.in-Some.w (search rules) c.in_ok-note.ensures c.in-Some.ensures c.in_ok-if_else.ensures)
