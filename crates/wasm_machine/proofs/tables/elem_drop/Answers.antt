use Rattle.wasm_machine.proofs.DropLaws.{elem-drops}
use Rattle.wasm_machine.proofs.tables.elem_drop.Goals as goal

pub returns-in-Some : goal.returns-in-Some
returns-in-Some g c = λ m. elem-drops g.A.Algebra.holds g.A.Algebra.means g.A.Algebra.kind m c.args.a.now c.args.s.now c.requires.sane c.args.e c.in-Some.field-0 c.pass.new.self c.drop_elem.new.self c.in-Some.ensures c.pass.ensures c.drop_elem.ensures
