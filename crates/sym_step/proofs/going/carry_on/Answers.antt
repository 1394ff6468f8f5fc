use Rattle.std.proofs.Common.{sym, ◌∙◌}
use Rattle.sym_step.proofs.GoLaws.{stops-somewhere}
use Rattle.sym_step.proofs.going.carry_on.Goals as goal

pub unreachable-requires : goal.unreachable-requires
unreachable-requires c =
    stops-somewhere c.args.steps c.args.s.now c.args.execution c.executed.new.s c.in_ok-standing.execution c.in_ok-standing.standing c.requires c.in_ok-standing.ensures (sym c.in_ok-stop.ensures ∙ c.in_default.is)
