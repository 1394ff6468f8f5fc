use Rattle.wasm_read.proofs.SectionLaws.{sized_read}
use Rattle.wasm_read.proofs.framing.read_sized_contents.Goals as goal

pub returns-then-next-end-clause-agrees : goal.returns-then-next-end-clause-agrees
returns-then-next-end-clause-agrees c =
    sized_read c.args.sections c.args.id c.args.view.now c.up_to-inner.result c.args.at c.in_ok-len.len c.in_ok-len.start c.end_after-end.result c.in_ok-sections.sections c.in_ok-sections.next
    c.in_ok-len.ensures.agrees c.end_after-end.ensures c.up_to-inner.ensures.window c.in_ok-sections.ensures.agrees c.if-next-end.true
