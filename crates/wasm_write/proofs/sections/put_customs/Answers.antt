use Rattle.std.proofs.Common.{List, Err, subst}
use Rattle.std.specs.List.{flat_map}
use Rattle.wasm_ast.specs.declared.modules.Custom.{Custom}
use Rattle.wasm_write.specs.Writing.{ArePut, custom_at}
use Rattle.wasm_write.proofs.PutLaws.{loop_goes_on, loop_refused}
use Rattle.wasm_write.proofs.sections.put_customs.Goals as goal

pub returns-in-Err : goal.returns-in-Err
returns-in-Err c =
    let here = c.put_custom_at.new.out.items in
    let P : List Custom → Type 0 = λ l. ArePut (flat_map (custom_at c.args.slot) l) c.args.out.now.items here (Err c.in-Err.bad) in
    subst P c.as_slice-customs.ensures
    (loop_refused (custom_at c.args.slot) c.as_slice-customs.result.now c.loop-custom.custom-index c.custom-item.result c.loop-custom.out.items here c.args.out.now.items here c.in-Err.bad c.loop-custom-test.true c.custom-item.is c.loop-custom.invariant.short c.in-Err.ensures)

pub loop-custom-preserved : goal.loop-custom-preserved
loop-custom-preserved c =
    let on = loop_goes_on (custom_at c.args.slot) c.as_slice-customs.result.now c.loop-custom.custom-index c.custom-item.result c.args.out.now.items c.loop-custom.out.items c.put_custom_at.new.out.items c.loop-custom-test.true c.custom-item.is c.loop-custom.invariant.short c.loop-custom.invariant.put c.in-Ok.ensures in
    record { short = on.short; put = on.put }
