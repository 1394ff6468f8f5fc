use Rattle.wasm_run.proofs.TurnLemmas.{value_at}
use Rattle.wasm_run.proofs.turns.values_of.Goals as goal

pub value_of-requires : goal.value_of-requires
value_of-requires c = value_at c.args.words.now c.loop-v.v-index _ c.loop-v-test.true c.requires
