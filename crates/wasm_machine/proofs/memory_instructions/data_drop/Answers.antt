use Rattle.wasm_machine.proofs.DropLaws.{data-stuck, data-drops}
use Rattle.wasm_machine.proofs.memory_instructions.data_drop.Goals as goal

pub returns-in-None : goal.returns-in-None
returns-in-None g c = λ m. data-stuck g.A.Algebra.holds g.A.Algebra.means g.A.Algebra.kind m c.args.a.now c.args.s.now c.requires.sane c.args.x c.in-None.ensures

pub returns-in-Some : goal.returns-in-Some
returns-in-Some g c = λ m. data-drops g.A.Algebra.holds g.A.Algebra.means g.A.Algebra.kind m c.args.a.now c.args.s.now c.requires.sane c.args.x c.in-Some.field-0 c.pass.new.self c.drop_data.new.self c.in-Some.ensures c.pass.ensures c.drop_data.ensures
