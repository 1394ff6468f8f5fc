use Rattle.std.proofs.Common.{◌≡◌, ◌++◌, take, None}
use Rattle.std.specs.List.{flat_map}
use Rattle.wasm_write.specs.Modules.{section_bytes, first_long}
use Rattle.wasm_write.specs.Writing.{with_customs}
use Rattle.wasm_write.proofs.sections.put_slots.Given as goal

abbrev pub invariant-loop-slot : goal.invariant-loop-slot
invariant-loop-slot l = record {
  short : first_long (flat_map (with_customs l.m) (take l.slot-index l.slots)) ≡ None;
  put : l.out.items ≡ l.initial.out.items ++ flat_map section_bytes (flat_map (with_customs l.m) (take l.slot-index l.slots));
}
