use Rattle.std.proofs.Common.{ap, sym, ◌∙◌}
use Rattle.bit_blast.specs.code.Tasks.{wires_at}
use Rattle.bit_blast.proofs.TermLemmas.{known-place, found, past}
use Rattle.bit_blast.proofs.terms.wires_of.Goals as goal

pub returns-then-i-wires : goal.returns-then-i-wires
returns-then-i-wires c =
    let there = known-place c.args.g.now c.args.order.now c.args.wires.now c.args.t c.terms-terms.ensures.kept c.requires.held c.requires.order c.place.ensures.once in
    c.as_slice.ensures ∙ found c.args.wires.now c.in-Some.i _ c.if-i-wires.true c.index-wires-i.is
    ∙ ap (λ p. wires_at c.args.wires.now p) c.in-Some.ensures.place ∙ there

pub returns-else-i-wires : goal.returns-else-i-wires
returns-else-i-wires c =
    let there = known-place c.args.g.now c.args.order.now c.args.wires.now c.args.t c.terms-terms.ensures.kept c.requires.held c.requires.order c.place.ensures.once in
    sym (past c.args.wires.now c.in-Some.i c.if-i-wires.false)
    ∙ ap (λ p. wires_at c.args.wires.now p) c.in-Some.ensures.place ∙ there

pub returns-in-None : goal.returns-in-None
returns-in-None c =
    let there = known-place c.args.g.now c.args.order.now c.args.wires.now c.args.t c.terms-terms.ensures.kept c.requires.held c.requires.order c.place.ensures.once in
    ap (λ p. wires_at c.args.wires.now p) c.in-None.ensures.place ∙ there
