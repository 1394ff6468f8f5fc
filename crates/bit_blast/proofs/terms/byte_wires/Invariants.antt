use Rattle.std.proofs.Common.{◌≡◌, ◌++◌, map, drop}
use Rattle.bv_terms.specs.Terms.{bytes_from}
use Rattle.bv_terms.specs.Graphs.{term_of}
use Rattle.bit_blast.specs.Formulas.{byte_wires}
use Rattle.bit_blast.specs.code.Tasks.{known_of}
use Rattle.bit_blast.proofs.terms.byte_wires.Given as goal

abbrev pub invariant-loop-byte : goal.invariant-loop-byte
invariant-loop-byte l =
    l.all ++ byte_wires (known_of l.g l.order l.wires) (bytes_from (map (term_of l.g) (drop l.byte-index l.bytes)))
    ≡ byte_wires (known_of l.g l.order l.wires) (bytes_from (map (term_of l.g) l.bytes))
