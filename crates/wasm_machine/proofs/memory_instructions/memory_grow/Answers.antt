use Rattle.std.proofs.Common.{refl, length, sym, ap, ◌∙◌, subst, arith}
use Rattle.wasm_ast.specs.declared.instructions.Instr.TheVariants.{MemoryGrow}
use Rattle.wasm_machine.proofs.AccessLaws.{stuck-acts-on, pick-acts-on}
use Rattle.wasm_machine.specs.declared.ranges.Growth.TheVariants.{Ask as AskFor, Refused, By}
use Rattle.wasm_machine.proofs.MemoryLaws.{memory-grows, grow-lacks, refused-acts, grown-acts}
use Rattle.wasm_machine.proofs.memory_instructions.memory_grow.Goals as goal

pub returns-in_default-word-clause-acts : goal.returns-in_default-word-clause-acts
returns-in_default-word-clause-acts g c = stuck-acts-on g.A.Algebra.holds g.A.Algebra.means g.A.Algebra.kind c.args.m.now MemoryGrow c.args.a.now c.args.a.now (λ w h. (h, refl)) c.args.s.now c.requires.ready.sane (g.M.Memory.cells c.args.memory.now) c.requires.cells.held
    (grow-lacks g.A.Algebra.holds g.A.Algebra.means g.A.Algebra.kind c.args.m.now c.args.a.now c.args.s.now c.requires.ready.sane (g.M.Memory.cells c.args.memory.now) c.requires.cells.held (length (g.M.Memory.cells c.args.memory.now)) refl c.in-Some.most c.in-Some.ensures c.in_default-word.ensures.found)

pub returns-in-Ask-clause-acts : goal.returns-in-Ask-clause-acts
returns-in-Ask-clause-acts g c = pick-acts-on g.A.Algebra.holds g.A.Algebra.means g.A.Algebra.kind c.args.m.now MemoryGrow c.args.a.now c.args.a.now (λ w h. (h, refl)) c.args.s.now c.requires.ready.sane (g.M.Memory.cells c.args.memory.now) c.requires.cells.held c.in-Ask.w
    (subst (λ w. g.A.Algebra.holds c.args.a.now w) (sym c.in-Ask.ensures.asks) c.in-Some-word.ensures.held)
    (memory-grows g.A.Algebra.holds g.A.Algebra.means g.A.Algebra.kind c.args.m.now c.args.a.now c.args.s.now c.requires.ready.sane (g.M.Memory.cells c.args.memory.now) c.requires.cells.held c.length-pages.result c.length-pages.ensures c.in-Some.most c.in-Some-word.count c.deref.result.now (AskFor c.in-Ask.w) c.in-Some.ensures c.in-Some-word.ensures.found (c.deref.ensures.value ∙ ap (λ s. s.answers) c.s.view_is) c.in-Ask.ensures.says)

pub returns-in-Refused-clause-acts : goal.returns-in-Refused-clause-acts
returns-in-Refused-clause-acts g c = refused-acts g.A.Algebra.holds g.A.Algebra.means g.A.Algebra.kind c.args.m.now c.args.a.now c.args.s.now c.requires.ready.sane (g.M.Memory.cells c.args.memory.now) c.requires.cells.held c.length-pages.result c.length-pages.ensures c.constant-w.new.self c.constant-w.ensures.keeps c.constant-w.result c.pass.new.self c.replace.new.self
    c.in-Some-word.ensures.there c.pass.ensures c.replace.ensures c.constant-w.ensures.held (c.constant-w.ensures.means ∙ ap g.A.Algebra.kind.number c.from.ensures)
    (memory-grows g.A.Algebra.holds g.A.Algebra.means g.A.Algebra.kind c.args.m.now c.args.a.now c.args.s.now c.requires.ready.sane (g.M.Memory.cells c.args.memory.now) c.requires.cells.held c.length-pages.result c.length-pages.ensures c.in-Some.most c.in-Some-word.count c.deref.result.now Refused c.in-Some.ensures c.in-Some-word.ensures.found (c.deref.ensures.value ∙ ap (λ s. s.answers) c.s.view_is) c.in-Refused.ensures.says)

pub returns-in_ok-grow-in-By-clause-acts : goal.returns-in_ok-grow-in-By-clause-acts
returns-in_ok-grow-in-By-clause-acts g c = grown-acts g.A.Algebra.holds g.A.Algebra.means g.A.Algebra.kind c.args.m.now c.args.a.now c.args.s.now c.requires.ready.sane (g.M.Memory.cells c.args.memory.now) c.requires.cells.held c.length-pages.result c.length-pages.ensures c.constant-w-in-By.new.self c.constant-w-in-By.ensures.keeps c.constant-w-in-By.result (g.M.Memory.plain 0) c.in-By.n (g.M.Memory.cells c.grow.new.self) c.pass-in-By.new.self c.replace-in-By.new.self
    c.in-Some-word.ensures.there c.pass-in-By.ensures c.replace-in-By.ensures c.constant-w-in-By.ensures.held c.constant-w-in-By.ensures.means c.in_ok-grow-in-By.ensures.grown (g.met.M.Memory.plain_is c.constant-w-in-By.new.self 0 (omega arith))
    (memory-grows g.A.Algebra.holds g.A.Algebra.means g.A.Algebra.kind c.args.m.now c.args.a.now c.args.s.now c.requires.ready.sane (g.M.Memory.cells c.args.memory.now) c.requires.cells.held c.length-pages.result c.length-pages.ensures c.in-Some.most c.in-Some-word.count c.deref.result.now (By c.in-By.n) c.in-Some.ensures c.in-Some-word.ensures.found (c.deref.ensures.value ∙ ap (λ s. s.answers) c.s.view_is) c.in-By.ensures.says)
