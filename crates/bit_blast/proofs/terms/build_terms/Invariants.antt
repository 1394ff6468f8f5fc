use Rattle.std.proofs.Common.{◌≡◌, [], drop, length}
use Rattle.bit_blast.specs.Formulas.{build_terms}
use Rattle.bit_blast.specs.GraphConditions.{terms_at}
use Rattle.bit_blast.specs.code.Tasks.{known_of}
use Rattle.bit_blast.proofs.terms.build_terms.Given as goal

abbrev pub invariant-loop-i : goal.invariant-loop-i
invariant-loop-i l =
    (length l.wires ≡ l.i)
    × (build_terms l.draws (terms_at l.g (drop l.i l.order)) (known_of l.g l.order l.wires) l.netlist ≡ build_terms l.draws (terms_at l.g l.order) [] l.fn.netlist)
