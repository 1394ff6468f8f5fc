use Rattle.std.proofs.Common.{arith, ◌+◌}
use Rattle.std.specs.Prelude.{slice_index_or}
use Rattle.std.proofs.lemmas.Bool.{eqb-true}
use Rattle.clause_rows.proofs.Formulas.{named-at}
use Rattle.clause_rows.proofs.places.is_at.Goals as goal

pub returns-then-place-order : goal.returns-then-place-order
returns-then-place-order c = λ e. named-at c.args.order.now (slice_index_or c.args.places.now c.args.before 0) (c.args.before + 1) 0 (omega (arith, c.if-place-order.true))
    (eqb-true (slice_index_or c.args.order.now (slice_index_or c.args.places.now c.args.before 0) 0) (c.args.before + 1) e)
