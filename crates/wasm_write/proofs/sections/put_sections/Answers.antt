use Rattle.std.proofs.Common.{List, Err, subst, [], ◌∷◌, ◌++◌}
use Rattle.std.specs.List.{flat_map}
use Rattle.wasm_write.specs.Modules.{Section}
use Rattle.wasm_write.specs.Writing.{ArePut, custom_at, with_customs}
use Rattle.wasm_write.proofs.PutLaws.{both_put, refused, customs_are}
use Rattle.wasm_write.proofs.sections.put_sections.Goals as goal

pub returns-in-Ok : goal.returns-in-Ok
returns-in-Ok c =
    let m = c.args.m.now in
    let rest = flat_map (with_customs m) (1 ∷ 2 ∷ 3 ∷ 4 ∷ 5 ∷ 6 ∷ 7 ∷ 8 ∷ 9 ∷ 10 ∷ 11 ∷ 12 ∷ []) in
    let before = c.args.out.now.items in
    let after = c.put_slots.new.out.items in
    let P : List Section → Type 0 = λ l. ArePut (l ++ rest) before after c.put_slots.result in
    subst P (customs_are m.customs 0) (both_put (flat_map (custom_at 0) m.customs) rest before c.put_customs.new.out.items after c.in-Ok.ensures.0 c.in-Ok.ensures.1 c.put_slots.result c.put_slots.ensures)

pub returns-in-Err : goal.returns-in-Err
returns-in-Err c =
    let m = c.args.m.now in
    let rest = flat_map (with_customs m) (1 ∷ 2 ∷ 3 ∷ 4 ∷ 5 ∷ 6 ∷ 7 ∷ 8 ∷ 9 ∷ 10 ∷ 11 ∷ 12 ∷ []) in
    let before = c.args.out.now.items in
    let after = c.put_customs.new.out.items in
    let P : List Section → Type 0 = λ l. ArePut (l ++ rest) before after (Err c.in-Err.bad) in
    subst P (customs_are m.customs 0) (refused (flat_map (custom_at 0) m.customs) rest before after after c.in-Err.bad c.in-Err.ensures)
