use Rattle.std.proofs.Common.{◌∙◌, ◌++◌, ap, sym, replicate}
use Rattle.wasm_machine.proofs.StoreLemmas.{list-put, list-got, list-same}
use Rattle.wasm_machine.proofs.stores.grow_in.Goals as goal
use Rattle.std.specs.Prelude.{Result, Ok, Err, OnOk, OnErr}

on_ok : {T E P Q : Type 0} → (r : Result T E) → OnOk r P → (P → Q) → OnOk r Q
on_ok (Ok x) p f = f p
on_ok (Err e) p f = tt

on_err : {T E P Q : Type 0} → (r : Result T E) → OnErr r P → (P → Q) → OnErr r Q
on_err (Ok x) p f = tt
on_err (Err e) p f = f p

pub returns-clause-grown : goal.returns-clause-grown
returns-clause-grown c = on_ok c.grow_list.result c.grow_list.ensures.grown (λ is.
    list-put c.args.lists.now.items c.args.x c.grow_list.new.list _
    (is ∙ ap (λ list. list ++ replicate c.args.count c.args.r) (sym (list-got c.args.lists.now.items c.args.x c.index_mut.result.now c.requires c.index_mut.ensures.value))))

pub returns-clause-refused : goal.returns-clause-refused
returns-clause-refused c = on_err c.grow_list.result c.grow_list.ensures.refused (λ is.
    list-same c.args.lists.now.items c.args.x c.index_mut.result.now c.grow_list.new.list c.requires c.index_mut.ensures.value is)
