use Rattle.std.proofs.Common.{◌∙◌, ◌++◌, ◌-◌, ap, take, length}
use Rattle.std.proofs.lemmas.List.{take_rest, with_items_is}
use borrow.Rule.Slice.PartMut.{post_of}
use Rattle.wasm_rules.specs.Words.{numbers}
use Rattle.wasm_rules.specs.Accesses.{stored, store_bytes}
use Rattle.wasm_run.specs.code.Pages.{page_of}
use Rattle.wasm_run.proofs.AccessLemmas.{store_most, stored_long}
use Rattle.wasm_run.proofs.PageLemmas.{stored-page}
use Rattle.wasm_run.proofs.page.Page.store.Goals as goal

pub returns : goal.returns
returns c =
    let seen = c.deref_mut.result.now in
    let new = c.store_number.new.bytes in
    let both = stored-page c.self.inside.block.items seen new _ (stored numbers c.args.op c.args.w) c.args.self.now c.args.at (store_bytes c.args.op) c.self.view_is c.requires.held c.self.invariant
    c.deref_mut.ensures.value c.requires.within (stored_long c.args.op c.args.w) (store_most c.args.op c.requires.store) c.store_number.ensures (take_rest seen c.args.at) in
    ap (λ l. page_of l) (with_items_is c.self.inside.block (take c.args.at seen ++ (new ++ post_of c.args.at (length seen - c.args.at) seen)) (both.0 ∙ c.deref_mut.ensures.len)) ∙ both.1
