use Rattle.std.proofs.Common.{ap}
use Rattle.wasm_ast.specs.declared.instructions.Instr.TheVariants.{TableSize}
use Rattle.wasm_reduction.specs.Configurations.{I32}
use Rattle.wasm_machine.specs.declared.values.Value.TheVariants.{I32 as CodeI32}
use Rattle.wasm_machine.proofs.ActLaws.{push-acts}
use Rattle.wasm_machine.proofs.TableLaws.{size-says}
use Rattle.wasm_machine.proofs.tables.table_size.Goals as goal

pub returns-clause-acts : goal.returns-clause-acts
returns-clause-acts g c = λ m. push-acts g.A.Algebra.holds g.A.Algebra.means g.A.Algebra.kind m (TableSize c.args.x) c.args.a.now c.constant-w.new.self c.constant-w.ensures.keeps c.args.s.now c.pass.new.self c.push.new.self (CodeI32 c.constant-w.result) (I32 (g.A.Algebra.kind.number c.in-Some.size)) c.requires.sane c.pass.ensures c.in_ok-push.ensures c.constant-w.ensures.held
    (ap (λ x. I32 x) c.constant-w.ensures.means)
    (size-says g.A.Algebra.holds g.A.Algebra.means g.A.Algebra.kind m c.args.a.now c.args.s.now c.requires.sane c.args.x c.in-Some.size c.in-Some.ensures)
