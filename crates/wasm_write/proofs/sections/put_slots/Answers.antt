use Rattle.std.proofs.Common.{get_or}
use Rattle.std.proofs.lemmas.List.{get_or_default}
use Rattle.wasm_write.specs.Writing.{with_customs}
use Rattle.wasm_write.proofs.PutLaws.{loop_goes_on, loop_refused}
use Rattle.wasm_write.proofs.sections.put_slots.Goals as goal

pub returns-in-Err : goal.returns-in-Err
returns-in-Err c =
    let slots = c.args.slots.now in
    let i = c.loop-slot.slot-index in
    let x = get_or slots i 0 in
    let here = c.put_slot_and_customs.new.out.items in
    loop_refused (with_customs c.args.m.now) slots i x c.loop-slot.out.items here c.args.out.now.items here c.in-Err.bad c.loop-slot-test.true (get_or_default slots i 0 x c.loop-slot-test.true) c.loop-slot.invariant.short c.in-Err.ensures

pub loop-slot-preserved : goal.loop-slot-preserved
loop-slot-preserved c =
    let slots = c.args.slots.now in
    let i = c.loop-slot.slot-index in
    let x = get_or slots i 0 in
    let on = loop_goes_on (with_customs c.args.m.now) slots i x c.args.out.now.items c.loop-slot.out.items c.put_slot_and_customs.new.out.items c.loop-slot-test.true (get_or_default slots i 0 x c.loop-slot-test.true) c.loop-slot.invariant.short c.loop-slot.invariant.put c.in-Ok.ensures in
    record { short = on.short; put = on.put }
