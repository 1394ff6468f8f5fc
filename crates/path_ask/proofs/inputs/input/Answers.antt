use Rattle.std.proofs.Common.{◌≡◌, ℕ, ◌+◌, length, take, drop, arith, ap, ◌∙◌, refl, get_or, false}
use Rattle.wasm_rules.specs.Words.{bits_where}
use Rattle.path_ask.specs.Reading.{spelled_down}
use Rattle.path_ask.proofs.ReadingLemmas.{next-room, one-symbol, part_long}
use Rattle.path_ask.proofs.inputs.input.Goals as goal

pub overflow_add-at : goal.overflow_add-at
overflow_add-at c =
    let room = next-room c.args.draws.now c.loop-wide.wide-index c.loop-wide.at (get_or c.args.draws.now c.loop-wide.wide-index false) (length c.args.values.now)
    c.loop-wide-test.true refl c.loop-wide.invariant.place c.requires in
    let is = c.bits-bits.ensures in
    record { fits = omega arith }

pub slice_bounds-number-end : goal.slice_bounds-number-end
slice_bounds-number-end c =
    let room = next-room c.args.draws.now c.loop-wide.wide-index c.loop-wide.at (get_or c.args.draws.now c.loop-wide.wide-index false) (length c.args.values.now)
    c.loop-wide-test.true refl c.loop-wide.invariant.place c.requires in
    let is = c.bits-bits.ensures in
    omega arith

pub loop-wide-preserved : goal.loop-wide-preserved
loop-wide-preserved c =
    let wide = get_or c.args.draws.now c.loop-wide.wide-index false in
    let room = next-room c.args.draws.now c.loop-wide.wide-index c.loop-wide.at wide (length c.args.values.now) c.loop-wide-test.true refl c.loop-wide.invariant.place c.requires in
    let here : c.number.result ≡ spelled_down (take (bits_where wide) (drop c.loop-wide.at c.args.values.now)) =
    c.number.ensures ∙ ap (λ (k : ℕ). spelled_down (take k (drop c.loop-wide.at c.args.values.now))) (part_long c.loop-wide.at c.bits-bits.result (bits_where wide) c.bits-bits.ensures) in
    let next = one-symbol c.args.values.now c.args.draws.now c.loop-wide.wide-index c.loop-wide.at (c.loop-wide.at + c.bits-bits.result) c.number.result wide c.loop-wide.input c.push.new.self
    c.loop-wide-test.true refl c.loop-wide.invariant.place c.loop-wide.invariant.so_far room here (ap (λ (k : ℕ). c.loop-wide.at + k) c.bits-bits.ensures) c.in_ok-push.ensures.ok in
    record { place = next.0; so_far = next.1 }
