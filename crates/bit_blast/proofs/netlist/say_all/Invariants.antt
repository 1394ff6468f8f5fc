use Rattle.std.proofs.Common.{◌≡◌, ◌++◌, reverse, take}
use Rattle.bit_blast.specs.Gates.{clauses_from}
use Rattle.bit_blast.proofs.netlist.say_all.Given as goal

abbrev pub invariant-loop-i : goal.invariant-loop-i
invariant-loop-i l = l.clauses ≡ l.fn.clauses ++ clauses_from l.first (reverse (take l.i l.gates))
