use Rattle.std.proofs.Common.{◌<◌, sym, ap, ◌∙◌, subst, arith, map, length}
use Rattle.std.specs.Prelude.{replicate}
use Rattle.wasm_ast.specs.declared.instructions.Instr.TheVariants.{TableFill}
use Rattle.wasm_reduction.specs.Combinators.{written}
use Rattle.wasm_machine.specs.code.Moves.{without, with_table}
use Rattle.wasm_machine.specs.Stores.{list_at}
use Rattle.wasm_machine.specs.Values.{reference}
use Rattle.wasm_machine.proofs.CellLemmas.{map-written}
use Rattle.wasm_machine.proofs.ActLaws.{stuck-acts}
use Rattle.wasm_machine.proofs.AccessLaws.{came-acts}
use Rattle.wasm_machine.proofs.MemoryLaws.{at-fact, at-came, map-replicate}
use Rattle.wasm_machine.proofs.TableLaws.{found-list, list-there, table-acts, table-fill-came}
use Rattle.wasm_machine.proofs.tables.table_fill.Goals as goal

pub returns-in-Stops-clause-acts : goal.returns-in-Stops-clause-acts
returns-in-Stops-clause-acts g c = λ m. came-acts g.A.Algebra.holds g.A.Algebra.means g.A.Algebra.kind m (TableFill c.args.x) c.args.a.now c.fill_at.new.a c.in_ok-n.ensures.keeps c.args.s.now c.requires.sane c.in_ok-n.field-0 c.in-Stops.n _ c.in_ok-n.ensures.held c.in-Stops.is
    (table-fill-came g.A.Algebra.holds g.A.Algebra.means g.A.Algebra.kind m c.args.a.now c.args.s.now c.requires.sane (g.A.Algebra.means c.fill_at.new.a) c.in_ok-n.field-0 c.args.x c.in-Some.size (g.A.Algebra.means c.args.a.now c.in-Some-word.count) c.in-Some-reference.r c.in-Some.ensures c.in-Some-word.ensures.found c.in-Some-reference.ensures.found c.in_ok-n.ensures.says)

pub returns-in-At-clause-acts : goal.returns-in-At-clause-acts
returns-in-At-clause-acts g c = λ m. table-acts g.A.Algebra.holds g.A.Algebra.means g.A.Algebra.kind m c.args.a.now c.args.s.now c.requires.sane (TableFill c.args.x) c.fill_at.new.a c.in_ok-n.ensures.keeps c.args.x (written c.in-At.range.to (replicate c.in-At.range.count c.in-Some-reference.r) (list_at c.args.s.now.tables c.args.x)) _ c.pass.new.self c.discard.new.self c.fill_table.new.self 3
    (omega (arith, (at-fact _ c.in_ok-n.field-0 c.in-At.range c.in-At.is c.in_ok-n.ensures.there))) c.pass.ensures c.discard.ensures
    (c.fill_table.ensures ∙ ap (λ ts. with_table c.args.x (written c.in-At.range.to (replicate c.in-At.range.count c.in-Some-reference.r) (list_at ts c.args.x)) c.discard.new.self) (ap (λ s. s.tables) (c.discard.ensures ∙ ap (λ p. without 3 p) c.pass.ensures)))
    (map-written reference c.in-At.range.to (replicate c.in-At.range.count c.in-Some-reference.r) (list_at c.args.s.now.tables c.args.x)
    ∙ ap (λ xs. written c.in-At.range.to xs (map reference (list_at c.args.s.now.tables c.args.x))) (map-replicate reference c.in-At.range.count c.in-Some-reference.r))
    (λ b. at-came _ _ c.in_ok-n.field-0 c.in-At.range c.in-At.is (table-fill-came g.A.Algebra.holds g.A.Algebra.means g.A.Algebra.kind m c.args.a.now c.args.s.now c.requires.sane (g.A.Algebra.means c.fill_at.new.a) c.in_ok-n.field-0 c.args.x c.in-Some.size (g.A.Algebra.means c.args.a.now c.in-Some-word.count) c.in-Some-reference.r c.in-Some.ensures c.in-Some-word.ensures.found c.in-Some-reference.ensures.found c.in_ok-n.ensures.says b))

pub fill_table-requires-clause-there : goal.fill_table-requires-clause-there
fill_table-requires-clause-there g c = subst (λ ts. c.args.x < length ts) (sym (ap (λ s. s.tables) (c.discard.ensures ∙ ap (λ p. without 3 p) c.pass.ensures))) (list-there c.args.s.now.tables c.args.x c.in-Some.size c.in-Some.ensures)

pub returns-in_default-word-clause-acts : goal.returns-in_default-word-clause-acts
returns-in_default-word-clause-acts g c = λ m. stuck-acts g.A.Algebra.holds g.A.Algebra.means g.A.Algebra.kind m (TableFill c.args.x) c.args.a.now c.args.a.now c.args.s.now c.args.s.now
    (λ b. found-list c.args.s.now.tables c.args.x c.in-Some.size _ c.in-Some.ensures ∙ c.in_default-word.ensures.found _)

pub returns-in_default-reference-clause-acts : goal.returns-in_default-reference-clause-acts
returns-in_default-reference-clause-acts g c = λ m. stuck-acts g.A.Algebra.holds g.A.Algebra.means g.A.Algebra.kind m (TableFill c.args.x) c.args.a.now c.args.a.now c.args.s.now c.args.s.now
    (λ b. found-list c.args.s.now.tables c.args.x c.in-Some.size _ c.in-Some.ensures ∙ c.in-Some-word.ensures.found _ ∙ c.in_default-reference.ensures.found _)
