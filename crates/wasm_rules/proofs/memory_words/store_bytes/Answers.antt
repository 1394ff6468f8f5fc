use Rattle.std.proofs.Common.{◌∙◌, ◌<◌, length, ap, arith}
use Rattle.int_ops.specs.Bytes.{byte_of}
use Rattle.wasm_rules.proofs.AccessLemmas.{store_bytes-small}
use Rattle.wasm_rules.proofs.StoredLemmas.{Stored-next}
use Rattle.wasm_rules.proofs.memory_words.store_bytes.Goals as goal

pub overflow_cast-i : goal.overflow_cast-i
overflow_cast-i g c = record { fits = omega (arith, c.requires.whole, c.loop-i-test.true, c.loop-i.auto.out, store_bytes-small c.args.op) }

pub byte-requires-clause-place : goal.byte-requires-clause-place
byte-requires-clause-place g c = omega (arith, c.requires.whole, c.loop-i-test.true, c.loop-i.auto.out, store_bytes-small c.args.op)

pub loop-i-preserved : goal.loop-i-preserved
loop-i-preserved g c =
    let same = (c.loop-i.invariant.kept c.args.w c.requires.w_held).1 in
    let within : c.loop-i.i < length c.loop-i.out = omega (arith, c.loop-i-test.true, c.loop-i.auto.out) in
    record {
      kept = λ w held.
          let before = c.loop-i.invariant.kept w held in
          let after = c.in_ok-out.ensures.keeps w before.0 in
          (after.0, after.1 ∙ before.1);
      so_far = Stored-next g.A.Algebra.holds g.A.Algebra.means g.A.Algebra.Has g.A.Algebra.value g.A.Algebra.kind
          c.loop-i.a c.byte.new.self (g.A.Algebra.means c.args.a.now c.args.w) c.loop-i.out c.loop-i.i c.in_ok-out.field-0
          within c.in_ok-out.ensures.keeps c.loop-i.invariant.so_far c.in_ok-out.ensures.held c.in_ok-out.ensures.width
          (c.in_ok-out.ensures.means ∙ ap (λ m. g.A.Algebra.kind.byte m c.loop-i.i) same)
          (λ input. c.in_ok-out.ensures.value input ∙ ap (λ m. byte_of (g.A.Algebra.value input m) c.loop-i.i) same);
    }
