use Rattle.wasm_machine.specs.Values.{question}
use Rattle.wasm_run.proofs.PlaceLemmas.{settled_here}
use Rattle.wasm_run.proofs.TurnLemmas.{asking_more, asking_less, order_after}
use Rattle.wasm_run.specs.code.Places.{config_at, told_at}
use Rattle.wasm_run.proofs.turns.settle.Goals as goal

pub asking-smaller : goal.asking-smaller
asking-smaller c =
    let st = rw c.in-Asks.is at c.in_ok-x.ensures.steps in
    asking_less c.args.image.now c.args.steps c.args.s.now c.args.memory.now c.asking.numbers c.step.new.a c.asking.s c.step.new.s c.note.new.self c.asking.memory c.step.new.memory (question c.in-Asks.q) c.in-Asks.w c.answer.result
    c.asking.invariant st.gives st.after.1 st.bytes.1 c.answer.ensures c.in_ok-note-in-Asks.ensures

pub asking-preserved : goal.asking-preserved
asking-preserved c =
    let st = rw c.in-Asks.is at c.in_ok-x.ensures.steps in
    asking_more c.args.image.now c.args.steps c.args.s.now c.args.memory.now c.asking.numbers c.step.new.a c.asking.s c.step.new.s c.note.new.self c.asking.memory c.step.new.memory (question c.in-Asks.q) c.in-Asks.w c.answer.result
    c.asking.invariant st.gives st.after.1 st.bytes.1 c.answer.ensures c.in_ok-note-in-Asks.ensures st.after.0 st.bytes.0

pub returns-in_default : goal.returns-in_default
returns-in_default c = record {
  settled = c.asking.invariant.leads (told_at c.args.image.now c.step.new.memory c.step.new.s c.in_ok-x.x)
      (settled_here c.args.image.now c.args.steps (config_at c.args.image.now c.asking.memory c.asking.s) (told_at c.args.image.now c.step.new.memory c.step.new.s c.in_ok-x.x) c.in_ok-x.ensures.steps.gives);
  order = order_after c.step.new.a c.asking.s c.step.new.s c.asking.memory c.step.new.memory c.in_ok-x.x c.in_default.not-Asks c.in_ok-x.ensures.steps.after c.in_ok-x.ensures.steps.bytes;
}
