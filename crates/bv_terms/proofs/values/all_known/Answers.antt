use Rattle.std.proofs.Common.{ap, sym, ◌∙◌}
use Rattle.int_ops.specs.Bytes.{joined}
use Rattle.bv_terms.proofs.ValueLemmas.{looked-small, looked-known, looked-whole, looked-more}
use Rattle.bv_terms.proofs.values.all_known.Goals as goal

pub join-requires-clause-each : goal.join-requires-clause-each
join-requires-clause-each c =
    looked-small c.args.rounds.now c.args.values.now c.args.round c.args.words.now c.loop-i.all c.loop-i.i c.loop-i.invariant c.loop-i.auto.i-end c.loop-i-test.false c.requires.small

pub returns : goal.returns
returns c = (
  looked-known c.args.rounds.now c.args.values.now c.args.round c.args.words.now c.loop-i.all c.loop-i.i c.loop-i.invariant c.loop-i-test.false,
  c.join.ensures ∙ ap joined (sym (looked-whole c.args.rounds.now c.args.values.now c.args.round c.args.words.now c.loop-i.all c.loop-i.i c.loop-i.invariant c.loop-i.auto.i-end c.loop-i-test.false)),
)

pub loop-i-preserved : goal.loop-i-preserved
loop-i-preserved c =
    looked-more c.args.rounds.now c.args.values.now c.args.round c.args.words.now c.loop-i.all c.loop-i.i c.in-Ok.x c.loop-i-test.true c.requires.few c.loop-i.invariant c.in-Ok.ensures
