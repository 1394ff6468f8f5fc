use Rattle.wasm_reduction.specs.Combinators.{written, part}
use Rattle.wasm_machine.proofs.StoreLemmas.{list-made}
use Rattle.wasm_machine.proofs.stores.put_in.Goals as goal

pub returns : goal.returns
returns c = list-made c.args.lists.now.items c.args.x c.index_mut.result.now c.deref_mut.result.now c.put_part.new.list (λ list. written c.args.to (part c.args.from c.args.count c.args.source.now) list)
    c.requires.there c.index_mut.ensures.value c.deref_mut.ensures.value c.put_part.ensures c.put_part.auto.list
