use Rattle.std.proofs.Common.{None, arith}
use Rattle.wasm_ast.specs.declared.types.ValType.TheVariants.{I32}
use Rattle.wasm_image.proofs.SizeLemmas.{tables-more, tables-all, first_table_above}
use Rattle.wasm_image.proofs.sizes.large_table.Goals as goal

pub returns-then-table-bound : goal.returns-then-table-bound
returns-then-table-bound c =
    first_table_above c.args.bound c.args.tables.now c.loop-table.table-index (record { kind = I32; limits = record { min = 0; max = None } })
    c.loop-table-test.true c.if-table-bound.true c.loop-table.invariant

pub loop-table-preserved : goal.loop-table-preserved
loop-table-preserved c =
    tables-more c.args.bound c.args.tables.now c.loop-table.table-index (record { kind = I32; limits = record { min = 0; max = None } })
    c.loop-table-test.true c.loop-table.invariant c.if-table-bound.false

pub returns : goal.returns
returns c = tables-all c.args.bound c.args.tables.now c.loop-table.table-index (omega (arith, c.loop-table-test.false)) c.loop-table.invariant
