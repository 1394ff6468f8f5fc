use Rattle.std.proofs.Common.{arith}
use Rattle.int_ops.proofs.BytesLemmas.{one_more}
use Rattle.int_ops.proofs.bytes.join.Goals as goal

pub loop-place-preserved : goal.loop-place-preserved
loop-place-preserved c = record {
  within = omega (arith, c.loop-place.invariant.within);
  so_far = one_more c.args.bytes.now c.loop-place.place c.loop-place.whole c.loop-place-test.true c.loop-place.invariant.within c.requires.few c.requires.each c.loop-place.invariant.so_far;
}
