use Rattle.wasm_machine.proofs.MemoryLaws.{size-acts}
use Rattle.wasm_machine.proofs.memory_instructions.memory_size.Goals as goal

pub returns-clause-acts : goal.returns-clause-acts
returns-clause-acts g c = λ m. size-acts g.A.Algebra.holds g.A.Algebra.means g.A.Algebra.kind m c.args.a.now c.args.s.now c.requires.ready.sane (g.M.Memory.cells c.args.memory.now) c.requires.cells.held c.length.result c.length.ensures c.constant-w.new.self c.constant-w.ensures.keeps c.constant-w.result c.pass.new.self c.push.new.self c.pass.ensures c.in_ok-push.ensures c.constant-w.ensures.held c.constant-w.ensures.means
