-- The code's values and statuses as the machine's.
use Rattle.refute_check.specs.Machine as machine
use Rattle.clause_solver.specs.declared.trail.Value.{Value}
use Rattle.clause_solver.specs.declared.trail.Value.TheVariants.{True, False, Unset}
use Rattle.clause_solver.specs.declared.rules.Status.{Status}
use Rattle.clause_solver.specs.declared.rules.Status.TheVariants.{Falsified, Forces, Idle}

abbrev pub value_seen : Value → machine.Value
value_seen True = machine.True
value_seen False = machine.False
value_seen Unset = machine.Unset

abbrev pub status_seen : Status → machine.Status
status_seen Falsified = machine.Falsified
status_seen (Forces literal) = machine.Forces literal
status_seen Idle = machine.Idle
