use Rattle.std.proofs.Common.{ap, ap₂, ◌∙◌, arith, map}
use Rattle.wasm_ast.specs.declared.instructions.Instr.TheVariants.{TableInit}
use Rattle.wasm_reduction.specs.Combinators.{part, written}
use Rattle.wasm_machine.specs.code.Moves.{without, with_table}
use Rattle.wasm_machine.specs.Stores.{list_at}
use Rattle.wasm_machine.specs.Values.{reference}
use Rattle.wasm_machine.proofs.CellLemmas.{map-part, map-written}
use Rattle.wasm_machine.proofs.AccessLaws.{came-acts}
use Rattle.wasm_machine.proofs.MemoryLaws.{at-fact, at-came}
use Rattle.wasm_machine.proofs.TableLaws.{table-acts, table-init-came}
use Rattle.wasm_machine.proofs.tables.table_init.Goals as goal

pub returns-in-Stops-clause-acts : goal.returns-in-Stops-clause-acts
returns-in-Stops-clause-acts g c = λ m. came-acts g.A.Algebra.holds g.A.Algebra.means g.A.Algebra.kind m (TableInit c.args.e c.args.x) c.args.a.now c.copy_at.new.a c.in_ok-n.ensures.keeps c.args.s.now c.requires.sane c.in_ok-n.field-0 c.in-Stops.n _ c.in_ok-n.ensures.held c.in-Stops.is
    (table-init-came g.A.Algebra.holds g.A.Algebra.means g.A.Algebra.kind m c.args.a.now c.args.s.now c.requires.sane (g.A.Algebra.means c.copy_at.new.a) c.in_ok-n.field-0 c.args.e c.args.x c.in-Some.target c.in-Some-elem_length.source c.in-Some.ensures c.in-Some-elem_length.ensures c.in_ok-n.ensures.says)

pub returns-in-At-clause-acts : goal.returns-in-At-clause-acts
returns-in-At-clause-acts g c = λ m. table-acts g.A.Algebra.holds g.A.Algebra.means g.A.Algebra.kind m c.args.a.now c.args.s.now c.requires.sane (TableInit c.args.e c.args.x) c.copy_at.new.a c.in_ok-n.ensures.keeps c.args.x (written c.in-At.range.to (part c.in-At.range.from c.in-At.range.count (list_at c.args.s.now.elems c.args.e)) (list_at c.args.s.now.tables c.args.x)) _ c.pass.new.self c.discard.new.self c.init_table.new.self 3
    (omega (arith, (at-fact _ c.in_ok-n.field-0 c.in-At.range c.in-At.is c.in_ok-n.ensures.there))) c.pass.ensures c.discard.ensures
    (c.init_table.ensures ∙ ap₂ (λ ts es. with_table c.args.x (written c.in-At.range.to (part c.in-At.range.from c.in-At.range.count (list_at es c.args.e)) (list_at ts c.args.x)) c.discard.new.self) (ap (λ s. s.tables) (c.discard.ensures ∙ ap (λ p. without 3 p) c.pass.ensures)) (ap (λ s. s.elems) (c.discard.ensures ∙ ap (λ p. without 3 p) c.pass.ensures)))
    (map-written reference c.in-At.range.to (part c.in-At.range.from c.in-At.range.count (list_at c.args.s.now.elems c.args.e)) (list_at c.args.s.now.tables c.args.x)
    ∙ ap (λ xs. written c.in-At.range.to xs (map reference (list_at c.args.s.now.tables c.args.x))) (map-part reference c.in-At.range.from c.in-At.range.count (list_at c.args.s.now.elems c.args.e)))
    (λ b. at-came _ _ c.in_ok-n.field-0 c.in-At.range c.in-At.is (table-init-came g.A.Algebra.holds g.A.Algebra.means g.A.Algebra.kind m c.args.a.now c.args.s.now c.requires.sane (g.A.Algebra.means c.copy_at.new.a) c.in_ok-n.field-0 c.args.e c.args.x c.in-Some.target c.in-Some-elem_length.source c.in-Some.ensures c.in-Some-elem_length.ensures c.in_ok-n.ensures.says b))
