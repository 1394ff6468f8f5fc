use Rattle.clause_rows.proofs.Formulas.{named-more}
use Rattle.clause_rows.proofs.places.names_each.Goals as goal

pub loop-before-preserved : goal.loop-before-preserved
loop-before-preserved c = named-more c.args.order.now c.loop-before.before c.loop-before.invariant (c.is_at.ensures c.if-not-is_at.false)
