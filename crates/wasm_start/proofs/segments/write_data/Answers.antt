use Rattle.std.proofs.Common.{◌≡◌, ℕ, ◌<◌, List, map, length, Some, Ok, true, false, refl, sym, ◌∙◌, subst}
use Rattle.std.specs.Prelude.{slice_get, slice_set}
use Rattle.std.proofs.lemmas.List.Elements.{recursion_from_All}
use Rattle.wasm_ast.specs.declared.modules.Mode.TheVariants.{Active}
use Rattle.wasm_reduction.specs.Combinators.{written}
use Rattle.wasm_reduction.specs.Instantiation.{argument, offset_in, start_data}
use Rattle.wasm_machine.specs.Configurations.{datas_of}
use Rattle.wasm_start.specs.code.Starts.{PlainStore, store_with}
use Rattle.wasm_start.proofs.SegmentLemmas.{data_writes, written_cells, written_bytes, cells_count, test_from}
use Rattle.wasm_start.proofs.segments.write_data.Goals as goal

pub returns-clause-writes : goal.returns-clause-writes
returns-clause-writes g c = λ x b cells bytes.
    let p : PlainStore = record { globals = c.p.inside.globals.items; tables = map (λ t. t.items) c.p.inside.tables.items; elems = map (λ t. t.items) c.p.inside.elems.items; dropped = c.p.inside.dropped.items } in
    let contents : List ℕ = c.data_of-bytes.result.now in
    let at : offset_in (map argument p.globals) c.args.offset.now ≡ Some c.in-Some.place = rw c.as_slice.ensures.value at (sym (rw c.in-Some.is at c.in_ok-place.ensures)) in
    let held : slice_get (datas_of p.dropped c.args.m.now.segments) c.args.k ≡ Some contents = rw c.as_slice-2.ensures.value at c.data_of-bytes.ensures in
    let new : List ℕ = written c.in-Some.place contents b in (
      new,
      written_cells g.M.Memory.plain (g.M.Memory.cells c.args.memory.now) (g.M.Memory.cells c.write_bytes.new.self) c.in-Some.place contents b cells c.in_ok-write_bytes.ensures.written,
      written_bytes c.in-Some.place contents b (recursion_from_All (λ n. n < 256) contents c.see_bytes.ensures) bytes,
      subst (λ q. start_data c.args.k (Active x c.args.offset.now) (store_with c.args.m.now b q) ≡ Ok (store_with c.args.m.now new (record p { dropped = slice_set p.dropped c.args.k true }))) c.p.view_is
          (data_writes c.args.m.now b p c.args.k x c.in-Some.place c.args.offset.now contents at held
          (test_from c.length.result (length contents) (length b) (length contents) c.in-Some.place false c.if-passes.ensures (c.length.ensures ∙ cells_count g.M.Memory.plain (g.M.Memory.cells c.args.memory.now) b cells) refl)),
    )
