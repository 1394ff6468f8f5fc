use Rattle.std.proofs.Common.{◌<◌, sym, ap, ◌∙◌, subst, arith, length}
use Rattle.std.specs.Prelude.{slice_set}
use Rattle.std.proofs.lemmas.List.{map-set}
use Rattle.wasm_ast.specs.declared.instructions.Instr.TheVariants.{TableSet}
use Rattle.wasm_machine.specs.code.Moves.{without, with_table}
use Rattle.wasm_machine.specs.Stores.{list_at}
use Rattle.wasm_machine.specs.Values.{reference}
use Rattle.wasm_machine.proofs.ActLaws.{stuck-acts}
use Rattle.wasm_machine.proofs.AccessLaws.{came-acts}
use Rattle.wasm_machine.proofs.MemoryLaws.{at-fact, at-came}
use Rattle.wasm_machine.proofs.TableLaws.{found-list, list-length, list-small, list-there, some-element, table-acts, set-came}
use Rattle.wasm_machine.proofs.tables.table_set.Goals as goal

pub returns-in-Stops-clause-acts : goal.returns-in-Stops-clause-acts
returns-in-Stops-clause-acts g c = λ m. came-acts g.A.Algebra.holds g.A.Algebra.means g.A.Algebra.kind m (TableSet c.args.x) c.args.a.now c.index_at.new.a c.in_ok-n.ensures.keeps c.args.s.now c.requires.ready.sane c.in_ok-n.field-0 c.in-Stops.n _ c.in_ok-n.ensures.held c.in-Stops.is
    (set-came g.A.Algebra.holds g.A.Algebra.means g.A.Algebra.kind m c.args.a.now c.args.s.now c.requires.ready.sane (g.A.Algebra.means c.index_at.new.a) c.in_ok-n.field-0 c.args.x c.in-Some.size c.in-Some-reference.r c.in-Some.ensures c.in-Some-reference.ensures.found c.in_ok-n.ensures.says)

pub returns-in-At-clause-acts : goal.returns-in-At-clause-acts
returns-in-At-clause-acts g c = λ m. table-acts g.A.Algebra.holds g.A.Algebra.means g.A.Algebra.kind m c.args.a.now c.args.s.now c.requires.ready.sane (TableSet c.args.x) c.index_at.new.a c.in_ok-n.ensures.keeps c.args.x (slice_set (list_at c.args.s.now.tables c.args.x) c.in-At.i c.in-Some-reference.r) _ c.pass.new.self c.discard.new.self c.set_element.new.self 2
    (omega (arith, (at-fact _ c.in_ok-n.field-0 c.in-At.i c.in-At.is c.in_ok-n.ensures.there))) c.pass.ensures c.discard.ensures
    (c.set_element.ensures ∙ ap (λ ts. with_table c.args.x (slice_set (list_at ts c.args.x) c.in-At.i c.in-Some-reference.r) c.discard.new.self) (ap (λ s. s.tables) (c.discard.ensures ∙ ap (λ p. without 2 p) c.pass.ensures)))
    (map-set reference (list_at c.args.s.now.tables c.args.x) c.in-At.i c.in-Some-reference.r)
    (λ b. at-came _ _ c.in_ok-n.field-0 c.in-At.i c.in-At.is (set-came g.A.Algebra.holds g.A.Algebra.means g.A.Algebra.kind m c.args.a.now c.args.s.now c.requires.ready.sane (g.A.Algebra.means c.index_at.new.a) c.in_ok-n.field-0 c.args.x c.in-Some.size c.in-Some-reference.r c.in-Some.ensures c.in-Some-reference.ensures.found c.in_ok-n.ensures.says b)
    ∙ some-element _ (list_at c.args.s.now.tables c.args.x) c.in-At.i _ (omega (arith, at-fact _ c.in_ok-n.field-0 c.in-At.i c.in-At.is c.in_ok-n.ensures.within, list-length c.args.s.now.tables c.args.x c.in-Some.size c.in-Some.ensures)))

pub index_at-requires-clause-small : goal.index_at-requires-clause-small
index_at-requires-clause-small g c = list-small c.args.s.now.tables c.args.x c.in-Some.size c.requires.small c.in-Some.ensures

pub set_element-requires-clause-there : goal.set_element-requires-clause-there
set_element-requires-clause-there g c = subst (λ ts. c.args.x < length ts) (sym (ap (λ s. s.tables) (c.discard.ensures ∙ ap (λ p. without 2 p) c.pass.ensures))) (list-there c.args.s.now.tables c.args.x c.in-Some.size c.in-Some.ensures)

pub returns-in_default-reference-clause-acts : goal.returns-in_default-reference-clause-acts
returns-in_default-reference-clause-acts g c = λ m. stuck-acts g.A.Algebra.holds g.A.Algebra.means g.A.Algebra.kind m (TableSet c.args.x) c.args.a.now c.args.a.now c.args.s.now c.args.s.now
    (λ b. found-list c.args.s.now.tables c.args.x c.in-Some.size _ c.in-Some.ensures ∙ c.in_default-reference.ensures.found _)
