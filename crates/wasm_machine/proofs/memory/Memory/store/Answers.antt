use Rattle.std.proofs.Common.{◌∙◌, ap, map}
use Rattle.wasm_machine.proofs.CellLemmas.{means-written}
use Rattle.wasm_machine.proofs.memory.Memory.store.Goals as goal

pub returns-clause-means : goal.returns-clause-means
returns-clause-means g c =
    ap (map (g.A.Algebra.means c.store_bytes.new.a)) c.in_ok-write.ensures.written
    ∙ means-written g.A.Algebra.holds g.A.Algebra.means c.args.a.now c.store_bytes.new.a c.args.at _ (g.Self.Memory.cells c.args.self.now) _
    c.in_ok-store_bytes.ensures.keeps c.requires.cells_held c.in_ok-store_bytes.ensures.means
