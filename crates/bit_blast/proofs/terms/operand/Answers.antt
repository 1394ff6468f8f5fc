use Rattle.bit_blast.specs.code.Tasks.{known_of}
use Rattle.bit_blast.proofs.TermLemmas.{operand-copied}
use Rattle.bit_blast.proofs.terms.operand.Goals as goal

pub returns-in_ok-list-in-Term : goal.returns-in_ok-list-in-Term
returns-in_ok-list-in-Term c =
    operand-copied (known_of c.args.g.now c.args.order.now c.args.wires.now) c.args.bits c.args.g.now c.args.word c.in-Term.t c.in_ok-list-in-Term.list c.wires_of.result.now
    c.terms-terms.ensures.kept c.requires.held c.in-Term.is c.wires_of.ensures c.in_ok-list-in-Term.ensures
