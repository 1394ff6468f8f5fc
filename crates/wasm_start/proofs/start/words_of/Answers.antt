use Rattle.std.proofs.Common.{arith}
use Rattle.wasm_start.proofs.SegmentLemmas.{words_more, get_default}
use Rattle.wasm_start.proofs.start.words_of.Goals as goal

pub loop-v-preserved : goal.loop-v-preserved
loop-v-preserved g c =
    rw c.in_ok-push.ensures.items (
    words_more g.A.Algebra.holds g.A.Algebra.means g.A.Algebra.kind c.args.a.now c.loop-v.a c.word_of-w.new.a c.args.values.now c.loop-v.v-index c.loop-v.words.items _ c.word_of-w.result c.loop-v.invariant
    (get_default c.args.values.now c.loop-v.v-index _ (omega arith)) c.word_of-w.ensures.kept c.word_of-w.ensures.held c.word_of-w.ensures.means
    )
