use Rattle.std.proofs.Common.{◌≡◌, Some, map, Bool, false, replicate, vec_len, ◌∙◌, sym, ap}
use Rattle.wasm_reduction.specs.Instantiation.{argument, first_elems, first_tables}
use Rattle.wasm_start.specs.code.Starts.{PlainStore}
use Rattle.wasm_machine.specs.Values.{reference}
use Rattle.wasm_start.proofs.StartLemmas.{allocated_is, has_segments, fuse}
use Rattle.wasm_start.proofs.SegmentLemmas.{resized}
use Rattle.wasm_start.proofs.allocation.allocated.Goals as goal

pub returns-clause-told : goal.returns-clause-told
returns-clause-told c =
    let p : PlainStore = record { globals = c.in-Some.globals.items; tables = map (λ t. t.items) c.in-Some-3.tables.items; elems = map (λ t. t.items) c.in-Some-2.elems.items; dropped = c.resize.new.self.items } in
    let elems : first_elems c.args.m.now (map argument p.globals) ≡ Some (map (λ t. map reference t) p.elems) =
    rw c.as_slice.ensures.value at (rw c.in-Some-2.is at c.in_ok-elems.ensures) ∙ ap (λ l. Some l) (sym (fuse (λ t. map reference t) (λ t. t.items) c.in-Some-2.elems.items)) in
    let tables : first_tables c.args.m.now ≡ Some (map (λ t. map reference t) p.tables) =
    rw c.in-Some-3.is at c.in_ok-tables.ensures ∙ ap (λ l. Some l) (sym (fuse (λ t. map reference t) (λ t. t.items) c.in-Some-3.tables.items)) in
    allocated_is c.args.m.now p (rw c.in-Some.is at c.in_ok-globals.ensures) elems tables
    (resized {A = Bool} c.new-dropped.result.items c.resize.new.self.items c.len.result (vec_len c.new-dropped.result) false c.new-dropped.ensures.items c.new-dropped.ensures.len c.in_ok-resize.ensures.items ∙ ap (λ n. replicate n false) c.len.ensures)

pub returns-clause-counts : goal.returns-clause-counts
returns-clause-counts c =
    let p : PlainStore = record { globals = c.in-Some.globals.items; tables = map (λ t. t.items) c.in-Some-3.tables.items; elems = map (λ t. t.items) c.in-Some-2.elems.items; dropped = c.resize.new.self.items } in
    let elems : first_elems c.args.m.now (map argument p.globals) ≡ Some (map (λ t. map reference t) p.elems) =
    rw c.as_slice.ensures.value at (rw c.in-Some-2.is at c.in_ok-elems.ensures) ∙ ap (λ l. Some l) (sym (fuse (λ t. map reference t) (λ t. t.items) c.in-Some-2.elems.items)) in
    has_segments c.args.m.now p elems
    (resized {A = Bool} c.new-dropped.result.items c.resize.new.self.items c.len.result (vec_len c.new-dropped.result) false c.new-dropped.ensures.items c.new-dropped.ensures.len c.in_ok-resize.ensures.items ∙ ap (λ n. replicate n false) c.len.ensures)
