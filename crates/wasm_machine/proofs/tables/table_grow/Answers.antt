use Rattle.std.proofs.Common.{refl, ◌<◌, ◌++◌, sym, ap, ◌∙◌, subst, arith, map, length}
use Rattle.std.specs.Prelude.{replicate}
use Rattle.std.proofs.lemmas.List.{map-append}
use Rattle.wasm_ast.specs.declared.instructions.Instr.TheVariants.{TableGrow}
use Rattle.wasm_reduction.specs.Configurations.{I32}
use Rattle.wasm_machine.specs.declared.values.Value.TheVariants.{I32 as CodeI32}
use Rattle.wasm_machine.specs.code.Moves.{replaced, with_table}
use Rattle.wasm_machine.specs.Stores.{list_at}
use Rattle.wasm_machine.specs.Values.{reference}
use Rattle.wasm_machine.proofs.ActLaws.{put-acts, stuck-acts, ask-acts}
use Rattle.wasm_machine.specs.declared.ranges.Growth.TheVariants.{Ask as AskFor, Refused, By}
use Rattle.wasm_machine.proofs.MemoryLaws.{map-replicate}
use Rattle.wasm_machine.proofs.TableLaws.{list-there, table-grows, to-limit, table-grown-acts}
use Rattle.wasm_machine.proofs.tables.table_grow.Goals as goal

pub grow_table-requires : goal.grow_table-requires
grow_table-requires g c = subst (λ ts. c.args.x < length ts) (sym (ap (λ s. s.tables) (c.replace-in-By.ensures ∙ ap (λ p. replaced 2 (CodeI32 c.constant-w-in-By.result) p) c.pass-in-By.ensures))) (list-there c.args.s.now.tables c.args.x c.in-Some.size c.in-Some.ensures)

pub returns-in_default-word-clause-acts : goal.returns-in_default-word-clause-acts
returns-in_default-word-clause-acts g c = stuck-acts g.A.Algebra.holds g.A.Algebra.means g.A.Algebra.kind c.args.m.now (TableGrow c.args.x) c.args.a.now c.args.a.now c.args.s.now c.args.s.now
    (λ b. to-limit g.A.Algebra.holds g.A.Algebra.means g.A.Algebra.kind c.args.m.now c.args.a.now c.args.s.now c.requires.sane c.args.x c.in-Some.size c.in-Some-most_elements.most c.in-Some.ensures c.in-Some-most_elements.ensures b ∙ c.in_default-word.ensures.found _)

pub returns-in_default-reference-clause-acts : goal.returns-in_default-reference-clause-acts
returns-in_default-reference-clause-acts g c = stuck-acts g.A.Algebra.holds g.A.Algebra.means g.A.Algebra.kind c.args.m.now (TableGrow c.args.x) c.args.a.now c.args.a.now c.args.s.now c.args.s.now
    (λ b. to-limit g.A.Algebra.holds g.A.Algebra.means g.A.Algebra.kind c.args.m.now c.args.a.now c.args.s.now c.requires.sane c.args.x c.in-Some.size c.in-Some-most_elements.most c.in-Some.ensures c.in-Some-most_elements.ensures b ∙ c.in-Some-word.ensures.found _ ∙ c.in_default-reference.ensures.found _)

pub returns-in-Ask-clause-acts : goal.returns-in-Ask-clause-acts
returns-in-Ask-clause-acts g c = ask-acts g.A.Algebra.holds g.A.Algebra.means g.A.Algebra.kind c.args.m.now (TableGrow c.args.x) c.args.a.now c.args.a.now (λ w h. (h, refl)) c.args.s.now _ c.in-Ask.w c.requires.sane
    (subst (λ w. g.A.Algebra.holds c.args.a.now w) (sym c.in-Ask.ensures.asks) c.in-Some-word.ensures.held)
    (table-grows g.A.Algebra.holds g.A.Algebra.means g.A.Algebra.kind c.args.m.now c.args.a.now c.args.s.now c.requires.sane c.args.x c.in-Some.size c.in-Some-most_elements.most c.in-Some-word.count c.in-Some-reference.r c.deref.result.now (AskFor c.in-Ask.w) c.in-Some.ensures c.in-Some-most_elements.ensures c.in-Some-word.ensures.found c.in-Some-reference.ensures.found (c.deref.ensures.value ∙ ap (λ s. s.answers) c.s.view_is) c.in-Ask.ensures.says)

pub returns-in-Refused-clause-acts : goal.returns-in-Refused-clause-acts
returns-in-Refused-clause-acts g c = put-acts g.A.Algebra.holds g.A.Algebra.means g.A.Algebra.kind c.args.m.now (TableGrow c.args.x) c.args.a.now c.constant-w.new.self c.constant-w.ensures.keeps c.args.s.now c.pass.new.self c.replace.new.self 2 (CodeI32 c.constant-w.result) _ c.requires.sane (omega (arith, c.in-Some-reference.ensures.there)) c.pass.ensures c.replace.ensures c.constant-w.ensures.held
    (ap (λ x. I32 x) (c.constant-w.ensures.means ∙ ap g.A.Algebra.kind.number c.from.ensures))
    (table-grows g.A.Algebra.holds g.A.Algebra.means g.A.Algebra.kind c.args.m.now c.args.a.now c.args.s.now c.requires.sane c.args.x c.in-Some.size c.in-Some-most_elements.most c.in-Some-word.count c.in-Some-reference.r c.deref.result.now Refused c.in-Some.ensures c.in-Some-most_elements.ensures c.in-Some-word.ensures.found c.in-Some-reference.ensures.found (c.deref.ensures.value ∙ ap (λ s. s.answers) c.s.view_is) c.in-Refused.ensures.says)

pub returns-in_ok-grow_table-in-By-clause-acts : goal.returns-in_ok-grow_table-in-By-clause-acts
returns-in_ok-grow_table-in-By-clause-acts g c = table-grown-acts g.A.Algebra.holds g.A.Algebra.means g.A.Algebra.kind c.args.m.now c.args.a.now c.args.s.now c.requires.sane (TableGrow c.args.x) c.constant-w-in-By.new.self c.constant-w-in-By.ensures.keeps c.args.x (list_at c.args.s.now.tables c.args.x ++ replicate c.in-By.n c.in-Some-reference.r) _ c.pass-in-By.new.self c.replace-in-By.new.self c.grow_table.new.self 2 (CodeI32 c.constant-w-in-By.result) _
    (omega (arith, c.in-Some-reference.ensures.there)) c.pass-in-By.ensures c.replace-in-By.ensures
    (c.in_ok-grow_table-in-By.ensures.grown ∙ ap (λ ts. with_table c.args.x (list_at ts c.args.x ++ replicate c.in-By.n c.in-Some-reference.r) c.replace-in-By.new.self) (ap (λ s. s.tables) (c.replace-in-By.ensures ∙ ap (λ p. replaced 2 (CodeI32 c.constant-w-in-By.result) p) c.pass-in-By.ensures)))
    c.constant-w-in-By.ensures.held (ap (λ x. I32 x) c.constant-w-in-By.ensures.means)
    (map-append reference (list_at c.args.s.now.tables c.args.x) (replicate c.in-By.n c.in-Some-reference.r) ∙ ap (λ xs. map reference (list_at c.args.s.now.tables c.args.x) ++ xs) (map-replicate reference c.in-By.n c.in-Some-reference.r))
    (table-grows g.A.Algebra.holds g.A.Algebra.means g.A.Algebra.kind c.args.m.now c.args.a.now c.args.s.now c.requires.sane c.args.x c.in-Some.size c.in-Some-most_elements.most c.in-Some-word.count c.in-Some-reference.r c.deref.result.now (By c.in-By.n) c.in-Some.ensures c.in-Some-most_elements.ensures c.in-Some-word.ensures.found c.in-Some-reference.ensures.found (c.deref.ensures.value ∙ ap (λ s. s.answers) c.s.view_is) c.in-By.ensures.says)
