use Rattle.std.proofs.Common.{arith, true}
use Rattle.wasm_read.proofs.WholeLaws.{spelled, only, trouble, first, shape}
use Rattle.wasm_read.proofs.module.read_module.Goals as goal

pub returns-clause-spelled : goal.returns-clause-spelled
returns-clause-spelled c = spelled c.args.bytes.now c.read_whole.result c.read_whole.ensures.answers

pub returns-clause-only : goal.returns-clause-only
returns-clause-only c = only true c.args.bytes.now c.read_whole.result c.read_whole.ensures.answers

pub returns-clause-trouble : goal.returns-clause-trouble
returns-clause-trouble c = trouble true c.args.bytes.now c.read_whole.result c.read_whole.ensures.answers

pub returns-clause-first : goal.returns-clause-first
returns-clause-first c = first true c.args.bytes.now c.read_whole.result c.read_whole.ensures.answers

pub returns-clause-shape : goal.returns-clause-shape
returns-clause-shape c = shape c.args.bytes.now c.read_whole.result (λ i. let fits = c.type_inv.bytes i in omega arith) c.read_whole.ensures.answers c.read_whole.ensures.few
