use Rattle.std.proofs.Common.{ap, sym, slice_set}
use Rattle.wasm_machine.proofs.StoreLemmas.{list-put, list-got}
use Rattle.wasm_machine.proofs.stores.set_in.Goals as goal

pub returns : goal.returns
returns c = list-put c.args.lists.now.items c.args.x _ _ (ap (λ list. slice_set list c.args.i c.args.r) (sym (list-got c.args.lists.now.items c.args.x c.index_mut.result.now c.requires.there c.index_mut.ensures.value)))
