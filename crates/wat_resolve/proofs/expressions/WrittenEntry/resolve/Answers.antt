use Rattle.wat_resolve.proofs.WholeLaws.{labels_noted}
use Rattle.wat_resolve.proofs.expressions.WrittenEntry.resolve.Goals as goal

pub returns-in_ok-last-in-BrTable-clause-found : goal.returns-in_ok-last-in-BrTable-clause-found
returns-in_ok-last-in-BrTable-clause-found c =
    labels_noted c.args.inside.now c.in-BrTable.labels c.as_slice.result.now c.in-BrTable.last c.args.self.now c.args.found.now c.resolve_all.new.found c.resolve.new.found c.in-BrTable.is c.as_slice.ensures
    c.in_ok-labels-in-BrTable.ensures.found c.in_ok-last-in-BrTable.ensures.found
