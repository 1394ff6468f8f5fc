use Rattle.wasm_ast.specs.declared.instructions.Instr.TheVariants.{MemoryCopy}
use Rattle.wasm_machine.proofs.AccessLaws.{came-acts-on}
use Rattle.wasm_machine.proofs.MemoryLaws.{at-fact, at-came, copy-came, copy-acts}
use Rattle.wasm_machine.proofs.memory_instructions.memory_copy.Goals as goal

pub returns-in-Stops-clause-acts : goal.returns-in-Stops-clause-acts
returns-in-Stops-clause-acts g c = λ m. came-acts-on g.A.Algebra.holds g.A.Algebra.means g.A.Algebra.kind m MemoryCopy c.args.a.now c.copy_at.new.a c.in_ok-n.ensures.keeps c.args.s.now c.requires.ready.sane (g.M.Memory.cells c.args.memory.now) c.requires.cells.held c.in_ok-n.field-0 c.in-Stops.n _ c.in_ok-n.ensures.held c.in-Stops.is
    (copy-came g.A.Algebra.holds g.A.Algebra.means g.A.Algebra.kind m c.args.a.now c.args.s.now c.requires.ready.sane (g.M.Memory.cells c.args.memory.now) c.requires.cells.held c.length-size.result c.length-size.ensures (g.A.Algebra.means c.copy_at.new.a) c.in_ok-n.field-0 c.in_ok-n.ensures.says)

pub returns-in_ok-copy-in-At-clause-acts : goal.returns-in_ok-copy-in-At-clause-acts
returns-in_ok-copy-in-At-clause-acts g c = λ m. copy-acts g.A.Algebra.holds g.A.Algebra.means g.A.Algebra.kind m c.args.a.now c.args.s.now c.requires.ready.sane (g.M.Memory.cells c.args.memory.now) c.requires.cells.held c.length-size.result c.length-size.ensures c.copy_at.new.a c.in_ok-n.ensures.keeps
    (at-fact _ c.in_ok-n.field-0 c.in-At.range c.in-At.is c.in_ok-n.ensures.same) c.in-At.range (g.M.Memory.cells c.copy.new.self) c.pass.new.self c.discard.new.self
    (at-fact _ c.in_ok-n.field-0 c.in-At.range c.in-At.is c.in_ok-n.ensures.there) c.pass.ensures c.discard.ensures c.in_ok-copy-in-At.ensures.copied
    (at-came _ _ c.in_ok-n.field-0 c.in-At.range c.in-At.is (copy-came g.A.Algebra.holds g.A.Algebra.means g.A.Algebra.kind m c.args.a.now c.args.s.now c.requires.ready.sane (g.M.Memory.cells c.args.memory.now) c.requires.cells.held c.length-size.result c.length-size.ensures (g.A.Algebra.means c.copy_at.new.a) c.in_ok-n.field-0 c.in_ok-n.ensures.says))
