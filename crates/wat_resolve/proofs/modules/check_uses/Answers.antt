use Rattle.wasm_text.specs.NameTroubles.{use_troubles}
use Rattle.wat_resolve.proofs.NotingLaws.{noted_more}
use Rattle.wat_resolve.proofs.modules.check_uses.Goals as goal

pub loop-u-preserved : goal.loop-u-preserved
loop-u-preserved c =
    noted_more (use_troubles c.args.scope.now.types) c.args.uses.now c.loop-u.u-index c.u-item.result c.args.found.now c.loop-u.found c.check_use.new.found c.loop-u-test.true c.u-item.is c.loop-u.invariant c.in_ok-check_use.ensures
