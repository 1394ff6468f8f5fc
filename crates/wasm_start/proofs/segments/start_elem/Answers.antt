use Rattle.std.proofs.Common.{◌≡◌, [], map, Ok, sym, ap, ◌∙◌, subst}
use Rattle.std.specs.Prelude.{slice_set}
use Rattle.wasm_ast.specs.declared.modules.Mode.TheVariants.{Declared}
use Rattle.wasm_reduction.specs.Instantiation.{start_elem}
use Rattle.wasm_start.specs.code.Starts.{PlainStore, store_with}
use Rattle.wasm_start.proofs.StartLemmas.{set_map}
use Rattle.wasm_start.proofs.SegmentLemmas.{elem_dropped}
use Rattle.wasm_start.proofs.segments.start_elem.Goals as goal

pub returns-in-Declared-clause-writes : goal.returns-in-Declared-clause-writes
returns-in-Declared-clause-writes c = λ m b.
    let p : PlainStore = record { globals = c.p.inside.globals.items; tables = map (λ t. t.items) c.p.inside.tables.items; elems = map (λ t. t.items) c.p.inside.elems.items; dropped = c.p.inside.dropped.items } in
    let set : map (λ t. t.items) (slice_set c.p.inside.elems.items c.args.k c.clear.new.self) ≡ slice_set p.elems c.args.k [] =
    set_map (λ t. t.items) c.p.inside.elems.items c.args.k c.clear.new.self ∙ ap (λ v. slice_set p.elems c.args.k v) c.clear.ensures.items in
    rw c.in-Declared.is (
    subst (λ q. start_elem c.args.k Declared (store_with m b q) ≡ Ok (store_with m b (record p { elems = map (λ t. t.items) (slice_set c.p.inside.elems.items c.args.k c.clear.new.self) }))) c.p.view_is
    (elem_dropped m b p c.args.k ∙ ap (λ es. Ok (store_with m b (record p { elems = es }))) (sym set))
    )

pub returns-in_ok-write_elem-in-Active-clause-writes : goal.returns-in_ok-write_elem-in-Active-clause-writes
returns-in_ok-write_elem-in-Active-clause-writes c = λ m b. rw c.in-Active.is (c.in_ok-write_elem-in-Active.ensures.writes m b)
