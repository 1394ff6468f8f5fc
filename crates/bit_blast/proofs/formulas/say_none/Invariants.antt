use Rattle.std.proofs.Common.{◌≡◌, ◌++◌, ◌∷◌, [], map, take}
use Rattle.bit_blast.specs.Gates.{negation}
use Rattle.bit_blast.proofs.formulas.say_none.Given as goal

abbrev pub invariant-loop-wire : goal.invariant-loop-wire
invariant-loop-wire l = l.clauses ≡ l.fn.clauses ++ map (λ wire. negation wire ∷ []) (take l.wire-index l.wires)
