use Rattle.std.proofs.Common.{◌+◌, ◌*◌, sym, ap, ◌∙◌}
use Rattle.std.specs.Prelude.{◌||◌}
use Rattle.refute_check.specs.Resolution.{has}
use Rattle.clause_solver.proofs.Counts.{has_either}
use Rattle.clause_solver.proofs.analysis.has_variable.Goals as goal

pub returns-then-has : goal.returns-then-has
returns-then-has c =
    c.if-has.true ∙ sym (sym (has_either c.args.variable c.args.literals.now) ∙ ap (λ b. b || has c.args.literals.now (2 * c.args.variable + 1)) (sym c.has.ensures ∙ c.if-has.true))

pub returns-else-has : goal.returns-else-has
returns-else-has c =
    c.has-else-has.ensures ∙ sym (sym (has_either c.args.variable c.args.literals.now) ∙ ap (λ b. b || has c.args.literals.now (2 * c.args.variable + 1)) (sym c.has.ensures ∙ c.if-has.false))
