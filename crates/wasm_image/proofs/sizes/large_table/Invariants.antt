use Rattle.std.proofs.Common.{take}
use Rattle.wasm_image.proofs.SizeLemmas.{TablesAtMost}
use Rattle.wasm_image.proofs.sizes.large_table.Given as goal

abbrev pub invariant-loop-table : goal.invariant-loop-table
invariant-loop-table l = TablesAtMost l.bound (take l.table-index l.tables)
