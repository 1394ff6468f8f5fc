use Rattle.std.proofs.Common.{arith, ap, ◌∙◌}
use Rattle.wasm_machine.proofs.BoundLaws.{spent_yes}
use Rattle.wasm_machine.proofs.bounds.is_spent.Goals as goal

pub returns : goal.returns
returns g c = λ b. c.is_due.ensures b ∙ spent_yes _ c.args.steps c.args.s.now.units (omega (arith, ap (λ t. t.units) c.s.view_is))
