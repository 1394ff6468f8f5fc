use Rattle.std.proofs.Common.{◌++◌, ◌∷◌, []}
use Rattle.wat_resolve.proofs.GroupLaws.{groups_grow}
use Rattle.wat_resolve.proofs.groups.groups_from.Goals as goal

pub loop-local-preserved : goal.loop-local-preserved
loop-local-preserved c =
    groups_grow c.args.first c.args.rest.now c.loop-local.local-index _ c.loop-local.done.items (c.grow.new.done.items ++ c.in_ok-last.last ∷ []) c.loop-local.last c.loop-local-test.true c.loop-local.invariant c.in_ok-last.ensures
