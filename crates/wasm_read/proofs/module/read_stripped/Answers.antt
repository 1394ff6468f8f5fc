use Rattle.std.proofs.Common.{arith, false}
use Rattle.wasm_read.proofs.WholeLaws.{stripped_spelled, only, trouble, first, shape_of_stripped}
use Rattle.wasm_read.proofs.module.read_stripped.Goals as goal

pub returns-clause-spelled : goal.returns-clause-spelled
returns-clause-spelled c = stripped_spelled c.args.bytes.now c.read_whole.result c.read_whole.ensures.answers

pub returns-clause-only : goal.returns-clause-only
returns-clause-only c = only false c.args.bytes.now c.read_whole.result c.read_whole.ensures.answers

pub returns-clause-trouble : goal.returns-clause-trouble
returns-clause-trouble c = trouble false c.args.bytes.now c.read_whole.result c.read_whole.ensures.answers

pub returns-clause-first : goal.returns-clause-first
returns-clause-first c = first false c.args.bytes.now c.read_whole.result c.read_whole.ensures.answers

pub returns-clause-shape : goal.returns-clause-shape
returns-clause-shape c = shape_of_stripped c.args.bytes.now c.read_whole.result (λ i. let fits = c.type_inv.bytes i in omega arith) c.read_whole.ensures.answers
