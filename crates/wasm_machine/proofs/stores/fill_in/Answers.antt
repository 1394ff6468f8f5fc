use Rattle.std.proofs.Common.{replicate}
use Rattle.wasm_reduction.specs.Combinators.{written}
use Rattle.wasm_machine.proofs.StoreLemmas.{list-made}
use Rattle.wasm_machine.proofs.stores.fill_in.Goals as goal

pub returns : goal.returns
returns c = list-made c.args.lists.now.items c.args.x c.index_mut.result.now c.deref_mut.result.now c.fill_part.new.list (λ list. written c.args.at (replicate c.args.count c.args.r) list)
    c.requires.there c.index_mut.ensures.value c.deref_mut.ensures.value c.fill_part.ensures c.fill_part.auto.list
