use Rattle.std.proofs.Common.{◌≡◌, ◌++◌, take, None}
use Rattle.std.specs.List.{flat_map}
use Rattle.wasm_write.specs.Modules.{section_bytes, first_long}
use Rattle.wasm_write.specs.Writing.{custom_at}
use Rattle.wasm_write.proofs.sections.put_customs.Given as goal

abbrev pub invariant-loop-custom : goal.invariant-loop-custom
invariant-loop-custom l = record {
  short : first_long (flat_map (custom_at l.slot) (take l.custom-index l.customs)) ≡ None;
  put : l.out.items ≡ l.initial.out.items ++ flat_map section_bytes (flat_map (custom_at l.slot) (take l.custom-index l.customs));
}
