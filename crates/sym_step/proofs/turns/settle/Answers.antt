use Rattle.std.proofs.Common.{arith}
use Rattle.bv_terms.specs.declared.words.Word.TheVariants.{Num, Term as Numbered}
use Rattle.wasm_machine.specs.Values.{question}
use Rattle.wasm_machine.specs.declared.next.Next.TheVariants.{Goes as CodeGoes, Draws as CodeDraws, Asks as CodeAsks, Ends as CodeEnds}
use Rattle.sym_step.proofs.SettleLaws.{failed-same, begins-asking, known-now, kept-more, asking-more, asking-less, settles, asked-settled}
use Rattle.sym_step.proofs.turns.settle.Goals as goal

pub asking-init : goal.asking-init
asking-init c = begins-asking c.args.image.now c.args.graph.now c.args.s.now c.args.memory.now c.args.asks.now c.requires.held

pub step-requires-clause-sane : goal.step-requires-clause-sane
step-requires-clause-sane c = c.asking.invariant.held.sane

pub step-requires-clause-units : goal.step-requires-clause-units
step-requires-clause-units c =
    let w = c.requires.somewhere in
    let k = known-now c.args.image.now c.args.graph.now c.args.s.now c.args.memory.now c.args.asks.now c.asking.graph c.asking.s c.asking.memory c.asking.asks c.asking.invariant w.0 w.1 w.2 w.3 in
    omega (arith, k.units, k.few)

pub step-requires-clause-cells : goal.step-requires-clause-cells
step-requires-clause-cells c = c.asking.invariant.held.words

pub step-requires-clause-widths : goal.step-requires-clause-widths
step-requires-clause-widths c =
    let w = c.requires.somewhere in
    (known-now c.args.image.now c.args.graph.now c.args.s.now c.args.memory.now c.args.asks.now c.asking.graph c.asking.s c.asking.memory c.asking.asks c.asking.invariant w.0 w.1 w.2 w.3).wide

pub returns-in_err-step-clause-kept : goal.returns-in_err-step-clause-kept
returns-in_err-step-clause-kept c = kept-more c.args.graph.now c.asking.graph c.step.new.a c.asking.invariant.kept c.step.ensures.kept

pub returns-then-is_failed-clause-kept : goal.returns-then-is_failed-clause-kept
returns-then-is_failed-clause-kept c = kept-more c.args.graph.now c.asking.graph c.step.new.a c.asking.invariant.kept c.step.ensures.kept

pub returns-then-is_failed-clause-settles : goal.returns-then-is_failed-clause-settles
returns-then-is_failed-clause-settles c =
    let st = rw (c.in-Asks-default-Num.is, c.in-Asks-default-Num.field-1-is) at c.in_ok-step.ensures.steps in
    settles c.args.image.now c.args.graph.now c.args.s.now c.args.memory.now c.args.asks.now c.asking.graph c.asking.s c.asking.memory c.asking.asks c.asking.invariant c.step.new.a c.step.new.s c.step.new.memory c.step.ensures.kept
    (CodeAsks c.in-Asks-default-Num.q (Num c.in-Asks-default-Num.n)) st.gives st.after st.bytes (asked-settled c.in-Asks-default-Num.q (Num c.in-Asks-default-Num.n) (λ v e. failed-same c.in-Asks-default-Num.n v e (c.is_failed.ensures.fails c.if-is_failed.true)))

pub returns-in_err-note-in-Asks-default-Num-clause-kept :
    goal.returns-in_err-note-in-Asks-default-Num-clause-kept
returns-in_err-note-in-Asks-default-Num-clause-kept c = kept-more c.args.graph.now c.asking.graph c.step.new.a c.asking.invariant.kept c.step.ensures.kept

pub overflow_add-asks : goal.overflow_add-asks
overflow_add-asks c =
    let w = c.requires.somewhere in
    let k = known-now c.args.image.now c.args.graph.now c.args.s.now c.args.memory.now c.args.asks.now c.asking.graph c.asking.s c.asking.memory c.asking.asks c.asking.invariant w.0 w.1 w.2 w.3 in
    omega (arith, k.asks_few, k.few)

pub asking-smaller : goal.asking-smaller
asking-smaller c =
    let st = rw (c.in-Asks-default-Num.is, c.in-Asks-default-Num.field-1-is) at c.in_ok-step.ensures.steps in
    let w = c.requires.somewhere in
    let k = known-now c.args.image.now c.args.graph.now c.args.s.now c.args.memory.now c.args.asks.now c.asking.graph c.asking.s c.asking.memory c.asking.asks c.asking.invariant w.0 w.1 w.2 w.3 in
    asking-less c.args.image.now c.args.graph.now c.args.s.now c.args.memory.now c.args.asks.now c.asking.graph c.asking.s c.asking.memory c.asking.asks c.asking.invariant c.step.new.a c.step.new.s c.step.new.memory c.step.ensures.kept
    (question c.in-Asks-default-Num.q) c.in-Asks-default-Num.n c.answer.result c.note.new.self w.0 w.2 k.ready st.gives st.after.1 st.bytes.1 c.in_ok-note-in-Asks-default-Num.ensures

pub asking-preserved : goal.asking-preserved
asking-preserved c =
    let st = rw (c.in-Asks-default-Num.is, c.in-Asks-default-Num.field-1-is) at c.in_ok-step.ensures.steps in
    asking-more c.args.image.now c.args.graph.now c.args.s.now c.args.memory.now c.args.asks.now c.asking.graph c.asking.s c.asking.memory c.asking.asks c.asking.invariant c.step.new.a c.step.new.s c.step.new.memory c.step.ensures.kept
    (question c.in-Asks-default-Num.q) c.in-Asks-default-Num.n c.answer.result c.note.new.self st.gives (c.is_failed.ensures.passes c.if-is_failed.false) st.after.1 st.bytes.1 c.answer.ensures c.in_ok-note-in-Asks-default-Num.ensures

pub returns-in-Goes-clause-kept : goal.returns-in-Goes-clause-kept
returns-in-Goes-clause-kept c = kept-more c.args.graph.now c.asking.graph c.step.new.a c.asking.invariant.kept c.step.ensures.kept

pub returns-in-Goes-clause-settles : goal.returns-in-Goes-clause-settles
returns-in-Goes-clause-settles c =
    let st = rw c.in-Goes.is at c.in_ok-step.ensures.steps in
    settles c.args.image.now c.args.graph.now c.args.s.now c.args.memory.now c.args.asks.now c.asking.graph c.asking.s c.asking.memory c.asking.asks c.asking.invariant c.step.new.a c.step.new.s c.step.new.memory c.step.ensures.kept
    CodeGoes st.gives st.after st.bytes tt

pub returns-in-Draws-clause-kept : goal.returns-in-Draws-clause-kept
returns-in-Draws-clause-kept c = kept-more c.args.graph.now c.asking.graph c.step.new.a c.asking.invariant.kept c.step.ensures.kept

pub returns-in-Draws-clause-settles : goal.returns-in-Draws-clause-settles
returns-in-Draws-clause-settles c =
    let st = rw c.in-Draws.is at c.in_ok-step.ensures.steps in
    settles c.args.image.now c.args.graph.now c.args.s.now c.args.memory.now c.args.asks.now c.asking.graph c.asking.s c.asking.memory c.asking.asks c.asking.invariant c.step.new.a c.step.new.s c.step.new.memory c.step.ensures.kept
    (CodeDraws c.in-Draws.wide) st.gives st.after st.bytes tt

pub returns-in-Ends-clause-kept : goal.returns-in-Ends-clause-kept
returns-in-Ends-clause-kept c = kept-more c.args.graph.now c.asking.graph c.step.new.a c.asking.invariant.kept c.step.ensures.kept

pub returns-in-Ends-clause-settles : goal.returns-in-Ends-clause-settles
returns-in-Ends-clause-settles c =
    let st = rw c.in-Ends.is at c.in_ok-step.ensures.steps in
    settles c.args.image.now c.args.graph.now c.args.s.now c.args.memory.now c.args.asks.now c.asking.graph c.asking.s c.asking.memory c.asking.asks c.asking.invariant c.step.new.a c.step.new.s c.step.new.memory c.step.ensures.kept
    (CodeEnds c.in-Ends.end) st.gives st.after st.bytes tt

pub returns-in-Asks-default-Term-clause-kept : goal.returns-in-Asks-default-Term-clause-kept
returns-in-Asks-default-Term-clause-kept c = kept-more c.args.graph.now c.asking.graph c.step.new.a c.asking.invariant.kept c.step.ensures.kept

pub returns-in-Asks-default-Term-clause-settles : goal.returns-in-Asks-default-Term-clause-settles
returns-in-Asks-default-Term-clause-settles c =
    let st = rw (c.in-Asks-default-Term.is, c.in-Asks-default-Term.field-1-is) at c.in_ok-step.ensures.steps in
    settles c.args.image.now c.args.graph.now c.args.s.now c.args.memory.now c.args.asks.now c.asking.graph c.asking.s c.asking.memory c.asking.asks c.asking.invariant c.step.new.a c.step.new.s c.step.new.memory c.step.ensures.kept
    (CodeAsks c.in-Asks-default-Term.q (Numbered c.in-Asks-default-Term.t)) st.gives st.after st.bytes tt
