use Rattle.wasm_machine.proofs.StoreLemmas.{list-put}
use Rattle.wasm_machine.proofs.stores.clear_in.Goals as goal

pub returns : goal.returns
returns c = list-put c.args.lists.now.items c.args.x c.truncate.new.self _ c.truncate.ensures.items
