use Rattle.wasm_write.proofs.ModulesSpelled.{shortest_spelled}
use Rattle.wasm_write.proofs.laws.shortest_spells.Goals as goal

pub returns : goal.returns
returns c = shortest_spelled c.args.m.now c.requires.shape c.is_in_range.ensures c.requires.short
