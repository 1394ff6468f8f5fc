use Rattle.std.proofs.Common.{refl, ◌∙◌, arith}
use Rattle.wasm_ast.specs.declared.instructions.Instr.TheVariants.{TableGet}
use Rattle.wasm_machine.specs.declared.values.Value.TheVariants.{Ref as CodeRef}
use Rattle.wasm_machine.specs.Stores.{list_at}
use Rattle.wasm_machine.proofs.ActLaws.{put-acts}
use Rattle.wasm_machine.proofs.AccessLaws.{came-acts}
use Rattle.wasm_machine.proofs.MemoryLaws.{at-fact, at-came}
use Rattle.wasm_machine.proofs.TableLaws.{found-element, get-came}
use Rattle.wasm_machine.proofs.tables.table_get.Goals as goal

pub returns-in-Stops-clause-acts : goal.returns-in-Stops-clause-acts
returns-in-Stops-clause-acts g c = λ m. came-acts g.A.Algebra.holds g.A.Algebra.means g.A.Algebra.kind m (TableGet c.args.x) c.args.a.now c.index_at.new.a c.in_ok-n.ensures.keeps c.args.s.now c.requires.ready.sane c.in_ok-n.field-0 c.in-Stops.n _ c.in_ok-n.ensures.held c.in-Stops.is
    (get-came g.A.Algebra.holds g.A.Algebra.means g.A.Algebra.kind m c.args.a.now c.args.s.now c.requires.ready.sane (g.A.Algebra.means c.index_at.new.a) c.in_ok-n.field-0 c.args.x c.in-Some.size c.in-Some.ensures c.in_ok-n.ensures.says)

pub returns-in-Some-element-clause-acts : goal.returns-in-Some-element-clause-acts
returns-in-Some-element-clause-acts g c = λ m. put-acts g.A.Algebra.holds g.A.Algebra.means g.A.Algebra.kind m (TableGet c.args.x) c.args.a.now c.index_at.new.a c.in_ok-n.ensures.keeps c.args.s.now c.pass.new.self c.replace.new.self 1 (CodeRef c.in-Some-element.r) _ c.requires.ready.sane (omega (arith, (at-fact _ c.in_ok-n.field-0 c.in-At.i c.in-At.is c.in_ok-n.ensures.there))) c.pass.ensures c.replace.ensures tt refl
    (λ b. at-came _ _ c.in_ok-n.field-0 c.in-At.i c.in-At.is (get-came g.A.Algebra.holds g.A.Algebra.means g.A.Algebra.kind m c.args.a.now c.args.s.now c.requires.ready.sane (g.A.Algebra.means c.index_at.new.a) c.in_ok-n.field-0 c.args.x c.in-Some.size c.in-Some.ensures c.in_ok-n.ensures.says b) ∙ found-element _ (list_at c.args.s.now.tables c.args.x) c.in-At.i c.in-Some-element.r _ c.in-Some-element.ensures)
