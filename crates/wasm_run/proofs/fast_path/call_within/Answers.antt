use Rattle.std.proofs.Common.{refl}
use Rattle.wasm_run.proofs.FastPathLemmas.{ready, here_goes, once}
use Rattle.wasm_run.proofs.FastCallLemmas.{call-plain}
use Rattle.wasm_run.proofs.fast_path.call_within.Goals as goal

pub call-requires-clause-ready : goal.call-requires-clause-ready
call-requires-clause-ready c = ready c.requires.at

pub gone_on-requires : goal.gone_on-requires
gone_on-requires c = here_goes c.requires.at refl c.in_ok-call-in-None.ensures.acts (call-plain c.args.image.now c.args.memory.now c.args.s.now c.args.numbers.now c.args.x c.requires.linked c.in-None.ensures)

pub returns-in_ok-call-in-None : goal.returns-in_ok-call-in-None
returns-in_ok-call-in-None c = once c.requires.at refl c.in_ok-call-in-None.ensures.acts c.gone_on.ensures (here_goes c.requires.at refl c.in_ok-call-in-None.ensures.acts (call-plain c.args.image.now c.args.memory.now c.args.s.now c.args.numbers.now c.args.x c.requires.linked c.in-None.ensures))
