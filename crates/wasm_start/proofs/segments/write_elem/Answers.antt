use Rattle.std.proofs.lemmas.Bool.Decides.{nat_tests}
use Rattle.std.proofs.Common.{◌≡◌, ◌<◌, ◌≤◌, ◌+◌, vec_len, List, [], map, length, Some, Ok, Err, true, false, sym, ap, ◌∙◌, subst, arith}
use Rattle.std.specs.Prelude.{nat_lt, slice_get, slice_set}
use Rattle.std.specs.Vec.{with_items}
use Rattle.wasm_ast.specs.declared.modules.Mode.TheVariants.{Active}
use Rattle.wasm_ast.specs.declared.runs.Cause.TheVariants.{Table}
use Rattle.wasm_reduction.specs.Combinators.{written}
use Rattle.wasm_reduction.specs.Configurations.{Traps}
use Rattle.wasm_reduction.specs.Instantiation.{argument, offset_in, start_elem}
use Rattle.wasm_machine.specs.declared.values.Reference.{Reference}
use Rattle.wasm_start.specs.code.Starts.{PlainStore, store_with}
use Rattle.wasm_start.proofs.StartLemmas.{get_map, set_map, long_map}
use Rattle.wasm_start.proofs.SegmentLemmas.{elem_traps, elem_writes, get_of, same_at, test_from, long_written, items_are}
use Rattle.wasm_start.proofs.segments.write_elem.Goals as goal

pub returns-then-passes-clause-writes : goal.returns-then-passes-clause-writes
returns-then-passes-clause-writes c = λ m b.
    let p : PlainStore = record { globals = c.p.inside.globals.items; tables = map (λ t. t.items) c.p.inside.tables.items; elems = map (λ t. t.items) c.p.inside.elems.items; dropped = c.p.inside.dropped.items } in
    let within : c.args.k < length c.p.inside.elems.items = omega (arith, c.requires, ap (λ q. length q.elems) c.p.view_is, long_map (λ t. t.items) c.p.inside.elems.items) in
    let at : offset_in (map argument p.globals) c.args.offset.now ≡ Some c.in-Some.place = rw c.as_slice.ensures.value at (sym (rw c.in-Some.is at c.in_ok-place.ensures)) in
    let there : slice_get p.tables c.args.x ≡ Some c.index-2.result.now.items = get_map (λ t. t.items) c.p.inside.tables.items c.args.x c.index-2.result.now (get_of c.p.inside.tables.items c.args.x c.index-2.result.now (omega arith) c.index-2.ensures) in
    let held : slice_get p.elems c.args.k ≡ Some c.index.result.now.items = get_map (λ t. t.items) c.p.inside.elems.items c.args.k c.index.result.now (get_of c.p.inside.elems.items c.args.k c.index.result.now within c.index.ensures) in
    subst (λ q. start_elem c.args.k (Active c.args.x c.args.offset.now) (store_with m b q) ≡ Err (Traps Table)) c.p.view_is
    (elem_traps m b p c.args.k c.args.x c.in-Some.place c.args.offset.now c.index.result.now.items c.index-2.result.now.items at there held
    (test_from (length c.as_slice-3.result.now) (length c.as_slice-2.result.now) (length c.index-2.result.now.items) (length c.index.result.now.items) c.in-Some.place true c.if-passes.ensures
    (ap (λ l. length l) c.as_slice-3.ensures.value) (ap (λ l. length l) c.as_slice-2.ensures.value)))

pub returns-clause-writes : goal.returns-clause-writes
returns-clause-writes c = λ m b.
    let p : PlainStore = record { globals = c.p.inside.globals.items; tables = map (λ t. t.items) c.p.inside.tables.items; elems = map (λ t. t.items) c.p.inside.elems.items; dropped = c.p.inside.dropped.items } in
    let table : List Reference = c.index_mut.result.now.items in
    let references : List Reference = c.index-3.result.now.items in
    let within : c.args.k < length c.p.inside.elems.items = omega (arith, c.requires, ap (λ q. length q.elems) c.p.view_is, long_map (λ t. t.items) c.p.inside.elems.items) in
    let inside : c.args.x < length c.p.inside.tables.items = omega arith in
    let at : offset_in (map argument p.globals) c.args.offset.now ≡ Some c.in-Some.place = rw c.as_slice.ensures.value at (sym (rw c.in-Some.is at c.in_ok-place.ensures)) in
    let there : slice_get p.tables c.args.x ≡ Some table = get_map (λ t. t.items) c.p.inside.tables.items c.args.x c.index_mut.result.now (get_of c.p.inside.tables.items c.args.x c.index_mut.result.now inside c.index_mut.ensures.value) in
    let held : slice_get p.elems c.args.k ≡ Some references = get_map (λ t. t.items) c.p.inside.elems.items c.args.k c.index-3.result.now (get_of c.p.inside.elems.items c.args.k c.index-3.result.now within c.index-3.ensures) in
    let one_table : c.index-2.result.now ≡ c.index_mut.result.now = same_at c.p.inside.tables.items c.args.x c.index-2.result.now c.index_mut.result.now inside c.index-2.ensures c.index_mut.ensures.value in
    let one_elem : c.index.result.now ≡ c.index-3.result.now = same_at c.p.inside.elems.items c.args.k c.index.result.now c.index-3.result.now within c.index.ensures c.index-3.ensures in
    let test : nat_lt (length table) (c.in-Some.place + length references) ≡ false =
    test_from (length c.as_slice-3.result.now) (length c.as_slice-2.result.now) (length table) (length references) c.in-Some.place false c.if-passes.ensures
    (ap (λ l. length l) c.as_slice-3.ensures.value ∙ ap (λ v. length v.items) one_table) (ap (λ l. length l) c.as_slice-2.ensures.value ∙ ap (λ v. length v.items) one_elem) in
    let overwritten : c.overwrite.new.table ≡ written c.in-Some.place references table =
    c.overwrite.ensures ∙ ap (λ l. written c.in-Some.place l c.deref_mut.result.now) c.as_slice-4.ensures.value ∙ ap (written c.in-Some.place references) c.deref_mut.ensures.value in
    let tables : List (List Reference) = map (λ t. t.items) (slice_set c.p.inside.tables.items c.args.x (with_items c.index_mut.result.now c.overwrite.new.table)) in
    let elems : List (List Reference) = map (λ t. t.items) (slice_set c.p.inside.elems.items c.args.k c.clear.new.self) in
    let fits : c.in-Some.place + length references ≤ length table = grind (arith, nat_tests, test) in
    let long : vec_len c.index_mut.result.now ≡ length c.overwrite.new.table =
    sym c.deref_mut.ensures.len ∙ ap (λ l. length l) c.deref_mut.ensures.value ∙ sym (ap (λ l. length l) overwritten ∙ long_written c.in-Some.place references table fits) in
    let tables_are : slice_set p.tables c.args.x (written c.in-Some.place references table) ≡ tables =
    sym (set_map (λ t. t.items) c.p.inside.tables.items c.args.x (with_items c.index_mut.result.now c.overwrite.new.table)
    ∙ ap (slice_set p.tables c.args.x) (items_are (vec_len c.index_mut.result.now) c.overwrite.new.table c.index_mut.result.now.items long ∙ overwritten)) in
    let elems_are : slice_set p.elems c.args.k [] ≡ elems =
    sym (set_map (λ t. t.items) c.p.inside.elems.items c.args.k c.clear.new.self ∙ ap (slice_set p.elems c.args.k) c.clear.ensures.items) in
    subst (λ q. start_elem c.args.k (Active c.args.x c.args.offset.now) (store_with m b q) ≡ Ok (store_with m b (record p { tables = tables; elems = elems }))) c.p.view_is
    (elem_writes m b p c.args.k c.args.x c.in-Some.place c.args.offset.now references table at there held test
    ∙ ap (λ ts. Ok (store_with m b (record p { tables = ts; elems = slice_set p.elems c.args.k [] }))) tables_are
    ∙ ap (λ es. Ok (store_with m b (record p { tables = tables; elems = es }))) elems_are)
