use Rattle.std.proofs.Common.{refl}
use Rattle.wasm_machine.proofs.Images.{kept-same}
use Rattle.wasm_machine.proofs.AccessLaws.{by_recursion}
use Rattle.wasm_machine.proofs.ActLaws.{trap-acts}
use Rattle.wasm_machine.proofs.ParametricLaws.{select-typed}
use Rattle.wasm_machine.proofs.StepLaws.{acts-on, on-is, acts-at, on-at, next-at}
use Rattle.wasm_machine.proofs.step.carry_out.Goals as goal

pub block-requires-clause-next : goal.block-requires-clause-next
block-requires-clause-next g c = next-at c.args.image.now c.module-m.result.now c.args.s.now c.args.i.now _ c.module-m.ensures.module c.in-Block.is c.requires.next

pub repeat-requires-clause-next : goal.repeat-requires-clause-next
repeat-requires-clause-next g c = next-at c.args.image.now c.module-m.result.now c.args.s.now c.args.i.now _ c.module-m.ensures.module c.in-Loop.is c.requires.next

pub if_else-requires-clause-next : goal.if_else-requires-clause-next
if_else-requires-clause-next g c = next-at c.args.image.now c.module-m.result.now c.args.s.now c.args.i.now _ c.module-m.ensures.module c.in-If.is c.requires.next

pub br_table-requires-clause-few : goal.br_table-requires-clause-few
br_table-requires-clause-few g c = rw c.in-BrTable.is at c.requires.range

pub returns-in-Unreachable-clause-acts : goal.returns-in-Unreachable-clause-acts
returns-in-Unreachable-clause-acts g c = acts-on g.A.Algebra.holds g.A.Algebra.means g.A.Algebra.kind c.args.image.now c.args.i.now _ c.args.a.now c.args.a.now (kept-same g.A.Algebra.holds g.A.Algebra.means c.args.a.now) c.args.s.now c.args.s.now (g.M.Memory.cells c.args.memory.now) _ (by_recursion _ _ c.requires.cells.held) c.in-Unreachable.is
    (trap-acts g.A.Algebra.holds g.A.Algebra.means g.A.Algebra.kind c.args.image.now _ c.args.a.now c.args.a.now c.args.s.now c.args.s.now _ (λ b. refl))

pub returns-in-Nop-clause-acts : goal.returns-in-Nop-clause-acts
returns-in-Nop-clause-acts g c = acts-on g.A.Algebra.holds g.A.Algebra.means g.A.Algebra.kind c.args.image.now c.args.i.now _ c.args.a.now c.args.a.now (kept-same g.A.Algebra.holds g.A.Algebra.means c.args.a.now) c.args.s.now c.nop.new.s (g.M.Memory.cells c.args.memory.now) c.nop.result (by_recursion _ _ c.requires.cells.held) c.in-Nop.is
    (c.nop.ensures c.args.image.now)

pub returns-in_ok-x-in-Block-clause-acts : goal.returns-in_ok-x-in-Block-clause-acts
returns-in_ok-x-in-Block-clause-acts g c = acts-on g.A.Algebra.holds g.A.Algebra.means g.A.Algebra.kind c.args.image.now c.args.i.now _ c.args.a.now c.args.a.now (kept-same g.A.Algebra.holds g.A.Algebra.means c.args.a.now) c.args.s.now c.block.new.s (g.M.Memory.cells c.args.memory.now) c.in_ok-x-in-Block.x (by_recursion _ _ c.requires.cells.held) c.in-Block.is
    (acts-at g.A.Algebra.holds g.A.Algebra.means g.A.Algebra.kind c.args.image.now c.module-m.result.now _ c.args.a.now c.args.a.now c.args.s.now c.block.new.s c.in_ok-x-in-Block.x c.module-m.ensures.module c.in_ok-x-in-Block.ensures)

pub returns-in_ok-x-in-Loop-clause-acts : goal.returns-in_ok-x-in-Loop-clause-acts
returns-in_ok-x-in-Loop-clause-acts g c = acts-on g.A.Algebra.holds g.A.Algebra.means g.A.Algebra.kind c.args.image.now c.args.i.now _ c.args.a.now c.args.a.now (kept-same g.A.Algebra.holds g.A.Algebra.means c.args.a.now) c.args.s.now c.repeat.new.s (g.M.Memory.cells c.args.memory.now) c.in_ok-x-in-Loop.x (by_recursion _ _ c.requires.cells.held) c.in-Loop.is
    (acts-at g.A.Algebra.holds g.A.Algebra.means g.A.Algebra.kind c.args.image.now c.module-m.result.now _ c.args.a.now c.args.a.now c.args.s.now c.repeat.new.s c.in_ok-x-in-Loop.x c.module-m.ensures.module c.in_ok-x-in-Loop.ensures)

pub returns-in_ok-x-in-If-clause-acts : goal.returns-in_ok-x-in-If-clause-acts
returns-in_ok-x-in-If-clause-acts g c = acts-on g.A.Algebra.holds g.A.Algebra.means g.A.Algebra.kind c.args.image.now c.args.i.now _ c.args.a.now c.args.a.now (kept-same g.A.Algebra.holds g.A.Algebra.means c.args.a.now) c.args.s.now c.if_else.new.s (g.M.Memory.cells c.args.memory.now) c.in_ok-x-in-If.x (by_recursion _ _ c.requires.cells.held) c.in-If.is
    (acts-at g.A.Algebra.holds g.A.Algebra.means g.A.Algebra.kind c.args.image.now c.module-m.result.now _ c.args.a.now c.args.a.now c.args.s.now c.if_else.new.s c.in_ok-x-in-If.x c.module-m.ensures.module c.in_ok-x-in-If.ensures)

pub returns-in_ok-x-in-Br-clause-acts : goal.returns-in_ok-x-in-Br-clause-acts
returns-in_ok-x-in-Br-clause-acts g c = acts-on g.A.Algebra.holds g.A.Algebra.means g.A.Algebra.kind c.args.image.now c.args.i.now _ c.args.a.now c.args.a.now (kept-same g.A.Algebra.holds g.A.Algebra.means c.args.a.now) c.args.s.now c.br.new.s (g.M.Memory.cells c.args.memory.now) c.in_ok-x-in-Br.x (by_recursion _ _ c.requires.cells.held) c.in-Br.is
    (c.in_ok-x-in-Br.ensures c.args.image.now)

pub returns-in_ok-x-in-BrIf-clause-acts : goal.returns-in_ok-x-in-BrIf-clause-acts
returns-in_ok-x-in-BrIf-clause-acts g c = acts-on g.A.Algebra.holds g.A.Algebra.means g.A.Algebra.kind c.args.image.now c.args.i.now _ c.args.a.now c.args.a.now (kept-same g.A.Algebra.holds g.A.Algebra.means c.args.a.now) c.args.s.now c.br_if.new.s (g.M.Memory.cells c.args.memory.now) c.in_ok-x-in-BrIf.x (by_recursion _ _ c.requires.cells.held) c.in-BrIf.is
    (c.in_ok-x-in-BrIf.ensures c.args.image.now)

pub returns-in_ok-x-in-BrTable-clause-acts : goal.returns-in_ok-x-in-BrTable-clause-acts
returns-in_ok-x-in-BrTable-clause-acts g c = acts-on g.A.Algebra.holds g.A.Algebra.means g.A.Algebra.kind c.args.image.now c.args.i.now _ c.args.a.now c.br_table.new.a c.in_ok-x-in-BrTable.ensures.kept c.args.s.now c.br_table.new.s (g.M.Memory.cells c.args.memory.now) c.in_ok-x-in-BrTable.x (by_recursion _ _ c.requires.cells.held) c.in-BrTable.is
    (c.in_ok-x-in-BrTable.ensures.acts c.args.image.now)

pub returns-in_ok-x-in-Return-clause-acts : goal.returns-in_ok-x-in-Return-clause-acts
returns-in_ok-x-in-Return-clause-acts g c = acts-on g.A.Algebra.holds g.A.Algebra.means g.A.Algebra.kind c.args.image.now c.args.i.now _ c.args.a.now c.args.a.now (kept-same g.A.Algebra.holds g.A.Algebra.means c.args.a.now) c.args.s.now c.return_values.new.s (g.M.Memory.cells c.args.memory.now) c.in_ok-x-in-Return.x (by_recursion _ _ c.requires.cells.held) c.in-Return.is
    (c.in_ok-x-in-Return.ensures c.args.image.now)

pub returns-in_ok-x-in-Call-clause-acts : goal.returns-in_ok-x-in-Call-clause-acts
returns-in_ok-x-in-Call-clause-acts g c = acts-on g.A.Algebra.holds g.A.Algebra.means g.A.Algebra.kind c.args.image.now c.args.i.now _ c.args.a.now c.call.new.a c.in_ok-x-in-Call.ensures.kept c.args.s.now c.call.new.s (g.M.Memory.cells c.args.memory.now) c.in_ok-x-in-Call.x (by_recursion _ _ c.requires.cells.held) c.in-Call.is
    c.in_ok-x-in-Call.ensures.acts

pub returns-in_ok-x-in-CallIndirect-clause-acts : goal.returns-in_ok-x-in-CallIndirect-clause-acts
returns-in_ok-x-in-CallIndirect-clause-acts g c = acts-on g.A.Algebra.holds g.A.Algebra.means g.A.Algebra.kind c.args.image.now c.args.i.now _ c.args.a.now c.call_indirect.new.a c.in_ok-x-in-CallIndirect.ensures.kept c.args.s.now c.call_indirect.new.s (g.M.Memory.cells c.args.memory.now) c.in_ok-x-in-CallIndirect.x (by_recursion _ _ c.requires.cells.held) c.in-CallIndirect.is
    c.in_ok-x-in-CallIndirect.ensures.acts

pub returns-in_ok-x-in-RefNull-clause-acts : goal.returns-in_ok-x-in-RefNull-clause-acts
returns-in_ok-x-in-RefNull-clause-acts g c = acts-on g.A.Algebra.holds g.A.Algebra.means g.A.Algebra.kind c.args.image.now c.args.i.now _ c.args.a.now c.args.a.now (kept-same g.A.Algebra.holds g.A.Algebra.means c.args.a.now) c.args.s.now c.ref_null.new.s (g.M.Memory.cells c.args.memory.now) c.in_ok-x-in-RefNull.x (by_recursion _ _ c.requires.cells.held) c.in-RefNull.is
    (c.in_ok-x-in-RefNull.ensures c.args.image.now)

pub returns-in-RefIsNull-clause-acts : goal.returns-in-RefIsNull-clause-acts
returns-in-RefIsNull-clause-acts g c = acts-on g.A.Algebra.holds g.A.Algebra.means g.A.Algebra.kind c.args.image.now c.args.i.now _ c.args.a.now c.ref_is_null.new.a c.ref_is_null.ensures.kept c.args.s.now c.ref_is_null.new.s (g.M.Memory.cells c.args.memory.now) c.ref_is_null.result (by_recursion _ _ c.requires.cells.held) c.in-RefIsNull.is
    (c.ref_is_null.ensures.acts c.args.image.now)

pub returns-in_ok-x-in-RefFunc-clause-acts : goal.returns-in_ok-x-in-RefFunc-clause-acts
returns-in_ok-x-in-RefFunc-clause-acts g c = acts-on g.A.Algebra.holds g.A.Algebra.means g.A.Algebra.kind c.args.image.now c.args.i.now _ c.args.a.now c.args.a.now (kept-same g.A.Algebra.holds g.A.Algebra.means c.args.a.now) c.args.s.now c.ref_func.new.s (g.M.Memory.cells c.args.memory.now) c.in_ok-x-in-RefFunc.x (by_recursion _ _ c.requires.cells.held) c.in-RefFunc.is
    (c.in_ok-x-in-RefFunc.ensures c.args.image.now)

pub returns-in-Discard-clause-acts : goal.returns-in-Discard-clause-acts
returns-in-Discard-clause-acts g c = acts-on g.A.Algebra.holds g.A.Algebra.means g.A.Algebra.kind c.args.image.now c.args.i.now _ c.args.a.now c.args.a.now (kept-same g.A.Algebra.holds g.A.Algebra.means c.args.a.now) c.args.s.now c.discard.new.s (g.M.Memory.cells c.args.memory.now) c.discard.result (by_recursion _ _ c.requires.cells.held) c.in-Discard.is
    (c.discard.ensures c.args.image.now)

pub returns-in_ok-x-in-Select-clause-acts : goal.returns-in_ok-x-in-Select-clause-acts
returns-in_ok-x-in-Select-clause-acts g c = acts-on g.A.Algebra.holds g.A.Algebra.means g.A.Algebra.kind c.args.image.now c.args.i.now _ c.args.a.now c.select.new.a c.in_ok-x-in-Select.ensures.kept c.args.s.now c.select.new.s (g.M.Memory.cells c.args.memory.now) c.in_ok-x-in-Select.x (by_recursion _ _ c.requires.cells.held) c.in-Select.is
    (c.in_ok-x-in-Select.ensures.acts c.args.image.now)

pub returns-in_ok-x-in-SelectTyped-clause-acts : goal.returns-in_ok-x-in-SelectTyped-clause-acts
returns-in_ok-x-in-SelectTyped-clause-acts g c = acts-on g.A.Algebra.holds g.A.Algebra.means g.A.Algebra.kind c.args.image.now c.args.i.now _ c.args.a.now c.select-in-SelectTyped.new.a c.in_ok-x-in-SelectTyped.ensures.kept c.args.s.now c.select-in-SelectTyped.new.s (g.M.Memory.cells c.args.memory.now) c.in_ok-x-in-SelectTyped.x (by_recursion _ _ c.requires.cells.held) c.in-SelectTyped.is
    (select-typed g.A.Algebra.holds g.A.Algebra.means g.A.Algebra.kind c.args.image.now _ c.args.a.now c.select-in-SelectTyped.new.a c.args.s.now c.select-in-SelectTyped.new.s c.in_ok-x-in-SelectTyped.x (c.in_ok-x-in-SelectTyped.ensures.acts c.args.image.now))

pub returns-in_ok-x-in-LocalGet-clause-acts : goal.returns-in_ok-x-in-LocalGet-clause-acts
returns-in_ok-x-in-LocalGet-clause-acts g c = acts-on g.A.Algebra.holds g.A.Algebra.means g.A.Algebra.kind c.args.image.now c.args.i.now _ c.args.a.now c.args.a.now (kept-same g.A.Algebra.holds g.A.Algebra.means c.args.a.now) c.args.s.now c.local_get.new.s (g.M.Memory.cells c.args.memory.now) c.in_ok-x-in-LocalGet.x (by_recursion _ _ c.requires.cells.held) c.in-LocalGet.is
    (c.in_ok-x-in-LocalGet.ensures c.args.image.now)

pub returns-in-LocalSet-clause-acts : goal.returns-in-LocalSet-clause-acts
returns-in-LocalSet-clause-acts g c = acts-on g.A.Algebra.holds g.A.Algebra.means g.A.Algebra.kind c.args.image.now c.args.i.now _ c.args.a.now c.args.a.now (kept-same g.A.Algebra.holds g.A.Algebra.means c.args.a.now) c.args.s.now c.local_set.new.s (g.M.Memory.cells c.args.memory.now) c.local_set.result (by_recursion _ _ c.requires.cells.held) c.in-LocalSet.is
    (c.local_set.ensures c.args.image.now)

pub returns-in-LocalTee-clause-acts : goal.returns-in-LocalTee-clause-acts
returns-in-LocalTee-clause-acts g c = acts-on g.A.Algebra.holds g.A.Algebra.means g.A.Algebra.kind c.args.image.now c.args.i.now _ c.args.a.now c.args.a.now (kept-same g.A.Algebra.holds g.A.Algebra.means c.args.a.now) c.args.s.now c.local_tee.new.s (g.M.Memory.cells c.args.memory.now) c.local_tee.result (by_recursion _ _ c.requires.cells.held) c.in-LocalTee.is
    (c.local_tee.ensures c.args.image.now)

pub returns-in_ok-x-in-GlobalGet-clause-acts : goal.returns-in_ok-x-in-GlobalGet-clause-acts
returns-in_ok-x-in-GlobalGet-clause-acts g c = acts-on g.A.Algebra.holds g.A.Algebra.means g.A.Algebra.kind c.args.image.now c.args.i.now _ c.args.a.now c.args.a.now (kept-same g.A.Algebra.holds g.A.Algebra.means c.args.a.now) c.args.s.now c.global_get.new.s (g.M.Memory.cells c.args.memory.now) c.in_ok-x-in-GlobalGet.x (by_recursion _ _ c.requires.cells.held) c.in-GlobalGet.is
    (c.in_ok-x-in-GlobalGet.ensures c.args.image.now)

pub returns-in-GlobalSet-clause-acts : goal.returns-in-GlobalSet-clause-acts
returns-in-GlobalSet-clause-acts g c = acts-on g.A.Algebra.holds g.A.Algebra.means g.A.Algebra.kind c.args.image.now c.args.i.now _ c.args.a.now c.args.a.now (kept-same g.A.Algebra.holds g.A.Algebra.means c.args.a.now) c.args.s.now c.global_set.new.s (g.M.Memory.cells c.args.memory.now) c.global_set.result (by_recursion _ _ c.requires.cells.held) c.in-GlobalSet.is
    (c.global_set.ensures c.args.image.now)

pub returns-in_ok-x-in-TableGet-clause-acts : goal.returns-in_ok-x-in-TableGet-clause-acts
returns-in_ok-x-in-TableGet-clause-acts g c = acts-on g.A.Algebra.holds g.A.Algebra.means g.A.Algebra.kind c.args.image.now c.args.i.now _ c.args.a.now c.table_get.new.a c.in_ok-x-in-TableGet.ensures.kept c.args.s.now c.table_get.new.s (g.M.Memory.cells c.args.memory.now) c.in_ok-x-in-TableGet.x (by_recursion _ _ c.requires.cells.held) c.in-TableGet.is
    (c.in_ok-x-in-TableGet.ensures.acts c.args.image.now)

pub returns-in_ok-x-in-TableSet-clause-acts : goal.returns-in_ok-x-in-TableSet-clause-acts
returns-in_ok-x-in-TableSet-clause-acts g c = acts-on g.A.Algebra.holds g.A.Algebra.means g.A.Algebra.kind c.args.image.now c.args.i.now _ c.args.a.now c.table_set.new.a c.in_ok-x-in-TableSet.ensures.kept c.args.s.now c.table_set.new.s (g.M.Memory.cells c.args.memory.now) c.in_ok-x-in-TableSet.x (by_recursion _ _ c.requires.cells.held) c.in-TableSet.is
    (c.in_ok-x-in-TableSet.ensures.acts c.args.image.now)

pub returns-in_ok-x-in-TableInit-clause-acts : goal.returns-in_ok-x-in-TableInit-clause-acts
returns-in_ok-x-in-TableInit-clause-acts g c = acts-on g.A.Algebra.holds g.A.Algebra.means g.A.Algebra.kind c.args.image.now c.args.i.now _ c.args.a.now c.table_init.new.a c.in_ok-x-in-TableInit.ensures.kept c.args.s.now c.table_init.new.s (g.M.Memory.cells c.args.memory.now) c.in_ok-x-in-TableInit.x (by_recursion _ _ c.requires.cells.held) c.in-TableInit.is
    (c.in_ok-x-in-TableInit.ensures.acts c.args.image.now)

pub returns-in-ElemDrop-clause-acts : goal.returns-in-ElemDrop-clause-acts
returns-in-ElemDrop-clause-acts g c = acts-on g.A.Algebra.holds g.A.Algebra.means g.A.Algebra.kind c.args.image.now c.args.i.now _ c.args.a.now c.args.a.now (kept-same g.A.Algebra.holds g.A.Algebra.means c.args.a.now) c.args.s.now c.elem_drop.new.s (g.M.Memory.cells c.args.memory.now) c.elem_drop.result (by_recursion _ _ c.requires.cells.held) c.in-ElemDrop.is
    (c.elem_drop.ensures c.args.image.now)

pub returns-in_ok-x-in-TableCopy-clause-acts : goal.returns-in_ok-x-in-TableCopy-clause-acts
returns-in_ok-x-in-TableCopy-clause-acts g c = acts-on g.A.Algebra.holds g.A.Algebra.means g.A.Algebra.kind c.args.image.now c.args.i.now _ c.args.a.now c.table_copy.new.a c.in_ok-x-in-TableCopy.ensures.kept c.args.s.now c.table_copy.new.s (g.M.Memory.cells c.args.memory.now) c.in_ok-x-in-TableCopy.x (by_recursion _ _ c.requires.cells.held) c.in-TableCopy.is
    (c.in_ok-x-in-TableCopy.ensures.acts c.args.image.now)

pub returns-in_ok-x-in-TableGrow-clause-acts : goal.returns-in_ok-x-in-TableGrow-clause-acts
returns-in_ok-x-in-TableGrow-clause-acts g c = acts-on g.A.Algebra.holds g.A.Algebra.means g.A.Algebra.kind c.args.image.now c.args.i.now _ c.args.a.now c.table_grow.new.a c.in_ok-x-in-TableGrow.ensures.kept c.args.s.now c.table_grow.new.s (g.M.Memory.cells c.args.memory.now) c.in_ok-x-in-TableGrow.x (by_recursion _ _ c.requires.cells.held) c.in-TableGrow.is
    (acts-at g.A.Algebra.holds g.A.Algebra.means g.A.Algebra.kind c.args.image.now c.module-m.result.now _ c.args.a.now c.table_grow.new.a c.args.s.now c.table_grow.new.s c.in_ok-x-in-TableGrow.x c.module-m.ensures.module c.in_ok-x-in-TableGrow.ensures.acts)

pub returns-in_ok-x-in-TableSize-clause-acts : goal.returns-in_ok-x-in-TableSize-clause-acts
returns-in_ok-x-in-TableSize-clause-acts g c = acts-on g.A.Algebra.holds g.A.Algebra.means g.A.Algebra.kind c.args.image.now c.args.i.now _ c.args.a.now c.table_size.new.a c.in_ok-x-in-TableSize.ensures.kept c.args.s.now c.table_size.new.s (g.M.Memory.cells c.args.memory.now) c.in_ok-x-in-TableSize.x (by_recursion _ _ c.requires.cells.held) c.in-TableSize.is
    (c.in_ok-x-in-TableSize.ensures.acts c.args.image.now)

pub returns-in_ok-x-in-TableFill-clause-acts : goal.returns-in_ok-x-in-TableFill-clause-acts
returns-in_ok-x-in-TableFill-clause-acts g c = acts-on g.A.Algebra.holds g.A.Algebra.means g.A.Algebra.kind c.args.image.now c.args.i.now _ c.args.a.now c.table_fill.new.a c.in_ok-x-in-TableFill.ensures.kept c.args.s.now c.table_fill.new.s (g.M.Memory.cells c.args.memory.now) c.in_ok-x-in-TableFill.x (by_recursion _ _ c.requires.cells.held) c.in-TableFill.is
    (c.in_ok-x-in-TableFill.ensures.acts c.args.image.now)

pub returns-in_ok-x-in-Load-clause-acts : goal.returns-in_ok-x-in-Load-clause-acts
returns-in_ok-x-in-Load-clause-acts g c = on-is g.A.Algebra.holds g.A.Algebra.means g.A.Algebra.kind c.args.image.now c.args.i.now _ c.args.a.now c.load.new.a c.args.s.now c.load.new.s (g.M.Memory.cells c.args.memory.now) (g.M.Memory.cells c.args.memory.now) c.in_ok-x-in-Load.x c.in-Load.is (c.in_ok-x-in-Load.ensures.acts c.args.image.now c.in-Load.align)

pub returns-in_ok-x-in-Store-clause-acts : goal.returns-in_ok-x-in-Store-clause-acts
returns-in_ok-x-in-Store-clause-acts g c = on-is g.A.Algebra.holds g.A.Algebra.means g.A.Algebra.kind c.args.image.now c.args.i.now _ c.args.a.now c.store.new.a c.args.s.now c.store.new.s (g.M.Memory.cells c.args.memory.now) (g.M.Memory.cells c.store.new.memory) c.in_ok-x-in-Store.x c.in-Store.is (c.in_ok-x-in-Store.ensures.acts c.args.image.now c.in-Store.align)

pub returns-in_ok-x-in-MemorySize-clause-acts : goal.returns-in_ok-x-in-MemorySize-clause-acts
returns-in_ok-x-in-MemorySize-clause-acts g c = on-is g.A.Algebra.holds g.A.Algebra.means g.A.Algebra.kind c.args.image.now c.args.i.now _ c.args.a.now c.memory_size.new.a c.args.s.now c.memory_size.new.s (g.M.Memory.cells c.args.memory.now) (g.M.Memory.cells c.args.memory.now) c.in_ok-x-in-MemorySize.x c.in-MemorySize.is (c.in_ok-x-in-MemorySize.ensures.acts c.args.image.now)

pub returns-in_ok-x-in-MemoryGrow-clause-acts : goal.returns-in_ok-x-in-MemoryGrow-clause-acts
returns-in_ok-x-in-MemoryGrow-clause-acts g c = on-is g.A.Algebra.holds g.A.Algebra.means g.A.Algebra.kind c.args.image.now c.args.i.now _ c.args.a.now c.memory_grow.new.a c.args.s.now c.memory_grow.new.s (g.M.Memory.cells c.args.memory.now) (g.M.Memory.cells c.memory_grow.new.memory) c.in_ok-x-in-MemoryGrow.x c.in-MemoryGrow.is (on-at g.A.Algebra.holds g.A.Algebra.means g.A.Algebra.kind c.args.image.now c.module-m.result.now _ c.args.a.now c.memory_grow.new.a c.args.s.now c.memory_grow.new.s (g.M.Memory.cells c.args.memory.now) (g.M.Memory.cells c.memory_grow.new.memory) c.in_ok-x-in-MemoryGrow.x c.module-m.ensures.module c.in_ok-x-in-MemoryGrow.ensures.acts)

pub returns-in_ok-x-in-MemoryInit-clause-acts : goal.returns-in_ok-x-in-MemoryInit-clause-acts
returns-in_ok-x-in-MemoryInit-clause-acts g c = on-is g.A.Algebra.holds g.A.Algebra.means g.A.Algebra.kind c.args.image.now c.args.i.now _ c.args.a.now c.memory_init.new.a c.args.s.now c.memory_init.new.s (g.M.Memory.cells c.args.memory.now) (g.M.Memory.cells c.memory_init.new.memory) c.in_ok-x-in-MemoryInit.x c.in-MemoryInit.is (on-at g.A.Algebra.holds g.A.Algebra.means g.A.Algebra.kind c.args.image.now c.module-m.result.now _ c.args.a.now c.memory_init.new.a c.args.s.now c.memory_init.new.s (g.M.Memory.cells c.args.memory.now) (g.M.Memory.cells c.memory_init.new.memory) c.in_ok-x-in-MemoryInit.x c.module-m.ensures.module c.in_ok-x-in-MemoryInit.ensures.acts)

pub returns-in-DataDrop-clause-acts : goal.returns-in-DataDrop-clause-acts
returns-in-DataDrop-clause-acts g c = acts-on g.A.Algebra.holds g.A.Algebra.means g.A.Algebra.kind c.args.image.now c.args.i.now _ c.args.a.now c.args.a.now (kept-same g.A.Algebra.holds g.A.Algebra.means c.args.a.now) c.args.s.now c.data_drop.new.s (g.M.Memory.cells c.args.memory.now) c.data_drop.result (by_recursion _ _ c.requires.cells.held) c.in-DataDrop.is
    (c.data_drop.ensures c.args.image.now)

pub returns-in_ok-x-in-MemoryCopy-clause-acts : goal.returns-in_ok-x-in-MemoryCopy-clause-acts
returns-in_ok-x-in-MemoryCopy-clause-acts g c = on-is g.A.Algebra.holds g.A.Algebra.means g.A.Algebra.kind c.args.image.now c.args.i.now _ c.args.a.now c.memory_copy.new.a c.args.s.now c.memory_copy.new.s (g.M.Memory.cells c.args.memory.now) (g.M.Memory.cells c.memory_copy.new.memory) c.in_ok-x-in-MemoryCopy.x c.in-MemoryCopy.is (c.in_ok-x-in-MemoryCopy.ensures.acts c.args.image.now)

pub returns-in_ok-x-in-MemoryFill-clause-acts : goal.returns-in_ok-x-in-MemoryFill-clause-acts
returns-in_ok-x-in-MemoryFill-clause-acts g c = on-is g.A.Algebra.holds g.A.Algebra.means g.A.Algebra.kind c.args.image.now c.args.i.now _ c.args.a.now c.memory_fill.new.a c.args.s.now c.memory_fill.new.s (g.M.Memory.cells c.args.memory.now) (g.M.Memory.cells c.memory_fill.new.memory) c.in_ok-x-in-MemoryFill.x c.in-MemoryFill.is (c.in_ok-x-in-MemoryFill.ensures.acts c.args.image.now)

pub returns-in_ok-x-in-Const32-clause-acts : goal.returns-in_ok-x-in-Const32-clause-acts
returns-in_ok-x-in-Const32-clause-acts g c = acts-on g.A.Algebra.holds g.A.Algebra.means g.A.Algebra.kind c.args.image.now c.args.i.now _ c.args.a.now c.const32.new.a c.in_ok-x-in-Const32.ensures.kept c.args.s.now c.const32.new.s (g.M.Memory.cells c.args.memory.now) c.in_ok-x-in-Const32.x (by_recursion _ _ c.requires.cells.held) c.in-Const32.is
    (c.in_ok-x-in-Const32.ensures.acts c.args.image.now)

pub returns-in_ok-x-in-Const64-clause-acts : goal.returns-in_ok-x-in-Const64-clause-acts
returns-in_ok-x-in-Const64-clause-acts g c = acts-on g.A.Algebra.holds g.A.Algebra.means g.A.Algebra.kind c.args.image.now c.args.i.now _ c.args.a.now c.const64.new.a c.in_ok-x-in-Const64.ensures.kept c.args.s.now c.const64.new.s (g.M.Memory.cells c.args.memory.now) c.in_ok-x-in-Const64.x (by_recursion _ _ c.requires.cells.held) c.in-Const64.is
    (c.in_ok-x-in-Const64.ensures.acts c.args.image.now)

pub returns-in_ok-x-in-Num-clause-acts : goal.returns-in_ok-x-in-Num-clause-acts
returns-in_ok-x-in-Num-clause-acts g c = acts-on g.A.Algebra.holds g.A.Algebra.means g.A.Algebra.kind c.args.image.now c.args.i.now _ c.args.a.now c.num.new.a c.in_ok-x-in-Num.ensures.kept c.args.s.now c.num.new.s (g.M.Memory.cells c.args.memory.now) c.in_ok-x-in-Num.x (by_recursion _ _ c.requires.cells.held) c.in-Num.is
    (c.in_ok-x-in-Num.ensures.acts c.args.image.now)
