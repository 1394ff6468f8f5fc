use Rattle.std.proofs.Common.{sym, refl, arith}
use Rattle.std.proofs.lemmas.List.{append-nil}
use Rattle.bv_terms.proofs.MergeLemmas.{append-more, append-all}
use Rattle.bv_terms.proofs.merging.append.Goals as goal

pub loop-i-init : goal.loop-i-init
loop-i-init c = sym (append-nil c.args.all.now)

pub loop-i-preserved : goal.loop-i-preserved
loop-i-preserved c = append-more c.args.all.now c.args.more.now c.loop-i.all c.add.new.all c.loop-i.i c.get.result.now c.loop-i.invariant c.get.ensures (c.if-not-add.ensures refl)

pub returns : goal.returns
returns c = λ yes. append-all c.args.all.now c.args.more.now c.loop-i.all c.loop-i.i c.loop-i.invariant (omega (arith, c.loop-i-test.false, c.len-i-end.ensures))
