use Rattle.std.proofs.Common.{ap, ◌∙◌}
use Rattle.bit_blast.specs.Gates.{false_wire}
use Rattle.bit_blast.specs.Operators.{fitted}
use Rattle.bit_blast.specs.code.Tasks.{known_of}
use Rattle.bit_blast.proofs.TermLemmas.{join-built}
use Rattle.bit_blast.proofs.terms.term_wires.Goals as goal

pub returns-in_ok-list-in-Join : goal.returns-in_ok-list-in-Join
returns-in_ok-list-in-Join c =
    join-built c.args.draws.now (known_of c.args.g.now c.args.order.now c.args.wires.now) c.args.g.now c.args.form.now _ _ c.as_slice-in-Join.result.now
    c.bits_where.result c.in_ok-all-in-Join.all c.in_ok-list-in-Join.list c.args.netlist.now c.in-Join.is c.as_slice-in-Join.ensures c.in_ok-all-in-Join.ensures
    c.bits_where.ensures (c.in_ok-list-in-Join.ensures ∙ ap (λ ws. fitted c.bits_where.result false_wire ws) c.as_slice-in-Join-2.ensures)
