use Rattle.std.proofs.Common.{sym, ◌∙◌, ap, arith, length}
use Rattle.clause_rows.proofs.Formulas.{formula_is}
use Rattle.clause_rows.proofs.places.is_formula.Goals as goal

pub returns : goal.returns
returns c = λ named. formula_is c.args.formula.now
    (omega (arith, c.if-order-formula.false, ap (λ order. length order) c.as_slice-order.ensures))
    (rw c.as_slice-order.ensures at (c.names_each.ensures c.if-not-names_each.false))
    (rw c.as_slice-order.ensures at (sym c.has_only.ensures ∙ c.if-not-has_only.false))
    (rw c.as_slice-2.ensures at (sym c.are_within.ensures ∙ named))
