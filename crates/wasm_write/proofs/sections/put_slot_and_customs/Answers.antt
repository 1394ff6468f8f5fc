use Rattle.std.proofs.Common.{List, subst, ◌++◌}
use Rattle.std.specs.List.{flat_map}
use Rattle.wasm_write.specs.Modules.{Section, section_of}
use Rattle.wasm_write.specs.Writing.{ArePut, custom_at}
use Rattle.wasm_write.proofs.PutLaws.{both_put, customs_are}
use Rattle.wasm_write.proofs.sections.put_slot_and_customs.Goals as goal

pub returns-in-Ok : goal.returns-in-Ok
returns-in-Ok c =
    let m = c.args.m.now in
    let own = section_of m c.args.slot in
    let before = c.args.out.now.items in
    let after = c.put_customs.new.out.items in
    let P : List Section → Type 0 = λ l. ArePut (own ++ l) before after c.put_customs.result in
    subst P (customs_are m.customs c.args.slot) (both_put own (flat_map (custom_at c.args.slot) m.customs) before c.put_slot.new.out.items after c.in-Ok.ensures.0 c.in-Ok.ensures.1 c.put_customs.result c.put_customs.ensures)
