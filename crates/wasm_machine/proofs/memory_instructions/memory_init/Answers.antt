use Rattle.std.proofs.Common.{ap, ◌∙◌, arith, map, take, drop}
use Rattle.wasm_ast.specs.declared.instructions.Instr.TheVariants.{MemoryInit}
use Rattle.wasm_reduction.specs.Combinators.{written}
use Rattle.wasm_machine.proofs.AccessLaws.{came-acts-on}
use Rattle.wasm_machine.proofs.MemoryLaws.{at-fact, at-came, init-came, init-acts}
use Rattle.wasm_machine.proofs.memory_instructions.memory_init.Goals as goal

pub returns-in-Stops-clause-acts : goal.returns-in-Stops-clause-acts
returns-in-Stops-clause-acts g c = came-acts-on g.A.Algebra.holds g.A.Algebra.means g.A.Algebra.kind c.args.m.now (MemoryInit c.args.x) c.args.a.now c.copy_at.new.a c.in_ok-n.ensures.keeps c.args.s.now c.requires.ready.sane (g.M.Memory.cells c.args.memory.now) c.requires.cells.held c.in_ok-n.field-0 c.in-Stops.n _ c.in_ok-n.ensures.held c.in-Stops.is
    (init-came g.A.Algebra.holds g.A.Algebra.means g.A.Algebra.kind c.args.m.now c.args.a.now c.args.s.now c.requires.ready.sane (g.M.Memory.cells c.args.memory.now) c.requires.cells.held c.length.result c.length.ensures (g.A.Algebra.means c.copy_at.new.a) c.in_ok-n.field-0 c.args.x c.in-Some.bytes.now c.in-Some.ensures c.in_ok-n.ensures.says)

pub returns-in_ok-write_bytes-in-At-clause-acts : goal.returns-in_ok-write_bytes-in-At-clause-acts
returns-in_ok-write_bytes-in-At-clause-acts g c = init-acts g.A.Algebra.holds g.A.Algebra.means g.A.Algebra.kind c.args.m.now c.args.a.now c.args.s.now c.requires.ready.sane (g.M.Memory.cells c.args.memory.now) c.requires.cells.held c.length.result c.length.ensures c.copy_at.new.a c.in_ok-n.ensures.keeps c.args.x c.in-Some.bytes.now g.M.Memory.plain c.in-At.range (g.M.Memory.cells c.write_bytes.new.self) c.pass.new.self c.discard.new.self
    (at-fact _ c.in_ok-n.field-0 c.in-At.range c.in-At.is c.in_ok-n.ensures.there) c.pass.ensures c.discard.ensures c.are_bytes.ensures (λ n small. g.met.M.Memory.plain_is c.copy_at.new.a n small) (c.in_ok-write_bytes-in-At.ensures.written ∙ ap (λ n. written c.in-At.range.to (map g.M.Memory.plain (take n (drop c.in-At.range.from c.in-Some.bytes.now))) (g.M.Memory.cells c.args.memory.now)) (omega arith))
    (at-came _ _ c.in_ok-n.field-0 c.in-At.range c.in-At.is (init-came g.A.Algebra.holds g.A.Algebra.means g.A.Algebra.kind c.args.m.now c.args.a.now c.args.s.now c.requires.ready.sane (g.M.Memory.cells c.args.memory.now) c.requires.cells.held c.length.result c.length.ensures (g.A.Algebra.means c.copy_at.new.a) c.in_ok-n.field-0 c.args.x c.in-Some.bytes.now c.in-Some.ensures c.in_ok-n.ensures.says))
