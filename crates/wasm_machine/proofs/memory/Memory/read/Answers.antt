use Rattle.std.proofs.Common.{arith}
use Rattle.wasm_machine.proofs.CellLemmas.{read_more}
use Rattle.wasm_machine.proofs.memory.Memory.read.Goals as goal

pub overflow_add-at : goal.overflow_add-at
overflow_add-at g c = record { fits = omega (arith, c.requires, c.loop-i-test.true, c.loop-i.auto.out, c.length.ensures, c.length.type_inv) }

pub loop-i-preserved : goal.loop-i-preserved
loop-i-preserved g c = record {
  so_far = read_more (g.Self.Memory.cells c.args.self.now) c.loop-i.out c.args.at c.loop-i.i c.get.result
      (omega (arith, c.requires, c.loop-i.auto.out)) (omega (arith, c.loop-i-test.true, c.loop-i.auto.out)) c.get.ensures c.loop-i.invariant.so_far;
}
