use Rattle.std.proofs.Common.{refl, ap, ◌∙◌}
use Rattle.wasm_ast.specs.declared.instructions.Instr.TheVariants.{MemoryFill}
use Rattle.wasm_machine.proofs.Images.{kept-then}
use Rattle.wasm_machine.proofs.AccessLaws.{came-acts-on, stuck-acts-on}
use Rattle.wasm_machine.proofs.MemoryLaws.{at-fact, at-came, fill-came, fill-acts}
use Rattle.wasm_machine.proofs.memory_instructions.memory_fill.Goals as goal

pub returns-in_default-clause-acts : goal.returns-in_default-clause-acts
returns-in_default-clause-acts g c = λ m. stuck-acts-on g.A.Algebra.holds g.A.Algebra.means g.A.Algebra.kind m MemoryFill c.args.a.now c.args.a.now (λ w h. (h, refl)) c.args.s.now c.requires.ready.sane (g.M.Memory.cells c.args.memory.now) c.requires.cells.held (c.in_default.ensures.found _)

pub returns-in_default-word-clause-acts : goal.returns-in_default-word-clause-acts
returns-in_default-word-clause-acts g c = λ m. stuck-acts-on g.A.Algebra.holds g.A.Algebra.means g.A.Algebra.kind m MemoryFill c.args.a.now c.args.a.now (λ w h. (h, refl)) c.args.s.now c.requires.ready.sane (g.M.Memory.cells c.args.memory.now) c.requires.cells.held (c.in-Some.ensures.found _ ∙ c.in_default-word.ensures.found _)

pub returns-in-Stops-clause-acts : goal.returns-in-Stops-clause-acts
returns-in-Stops-clause-acts g c = λ m. came-acts-on g.A.Algebra.holds g.A.Algebra.means g.A.Algebra.kind m MemoryFill c.args.a.now c.fill_at.new.a c.in_ok-n.ensures.keeps c.args.s.now c.requires.ready.sane (g.M.Memory.cells c.args.memory.now) c.requires.cells.held c.in_ok-n.field-0 c.in-Stops.n _ c.in_ok-n.ensures.held c.in-Stops.is
    (fill-came g.A.Algebra.holds g.A.Algebra.means g.A.Algebra.kind m c.args.a.now c.args.s.now c.requires.ready.sane (g.M.Memory.cells c.args.memory.now) c.requires.cells.held c.length.result c.length.ensures (g.A.Algebra.means c.fill_at.new.a) c.in_ok-n.field-0 (g.A.Algebra.means c.args.a.now c.in-Some.count) (g.A.Algebra.means c.args.a.now c.in-Some-word.w) c.in-Some.ensures.found c.in-Some-word.ensures.found c.in_ok-n.ensures.says)

pub returns-in_ok-fill-in-At-clause-acts : goal.returns-in_ok-fill-in-At-clause-acts
returns-in_ok-fill-in-At-clause-acts g c = λ m. fill-acts g.A.Algebra.holds g.A.Algebra.means g.A.Algebra.kind m c.args.a.now c.args.s.now c.requires.ready.sane (g.M.Memory.cells c.args.memory.now) c.requires.cells.held c.length.result c.length.ensures c.byte.new.self (kept-then g.A.Algebra.holds g.A.Algebra.means c.args.a.now c.fill_at.new.a c.byte.new.self c.in_ok-n.ensures.keeps c.in_ok-byte-in-At.ensures.keeps)
    (g.A.Algebra.means c.args.a.now c.in-Some-word.w) c.in-At.range c.in_ok-byte-in-At.byte (g.M.Memory.cells c.fill.new.self) c.pass.new.self c.discard.new.self
    (at-fact _ c.in_ok-n.field-0 c.in-At.range c.in-At.is c.in_ok-n.ensures.there) c.pass.ensures c.discard.ensures c.in_ok-byte-in-At.ensures.held (c.in_ok-byte-in-At.ensures.means ∙ ap (λ x. g.A.Algebra.kind.byte (g.A.Algebra.means x c.in-Some-word.w) 0) (at-fact _ c.in_ok-n.field-0 c.in-At.range c.in-At.is c.in_ok-n.ensures.same)) c.in_ok-fill-in-At.ensures.filled
    (at-came _ _ c.in_ok-n.field-0 c.in-At.range c.in-At.is (fill-came g.A.Algebra.holds g.A.Algebra.means g.A.Algebra.kind m c.args.a.now c.args.s.now c.requires.ready.sane (g.M.Memory.cells c.args.memory.now) c.requires.cells.held c.length.result c.length.ensures (g.A.Algebra.means c.fill_at.new.a) c.in_ok-n.field-0 (g.A.Algebra.means c.args.a.now c.in-Some.count) (g.A.Algebra.means c.args.a.now c.in-Some-word.w) c.in-Some.ensures.found c.in-Some-word.ensures.found c.in_ok-n.ensures.says))
