use Rattle.std.proofs.Common.{◌≡◌, ap, ◌∙◌, arith, subst}
use Rattle.std.specs.Prelude.{true, not, is_some, All}
use Rattle.std.proofs.lemmas.List.{take_all}
use Rattle.wasm_image.specs.Hosts.{IsLinked}
use Rattle.wasm_image.proofs.HostLemmas.{linked-more, linked-unless}
use Rattle.wasm_image.proofs.imports.first_unlinked.Goals as goal

pub loop-k-preserved : goal.loop-k-preserved
loop-k-preserved c =
    let some : is_some c.host_of.result ≡ true = c.is_none.ensures ∙ ap not c.if-is_none.false in
    linked-more c.args.m.now c.loop-k.k c.get-import.result.now c.get-import.ensures
    (linked-unless c.args.m.now c.get-import.result.now c.host_of.result c.host_of.ensures some) c.loop-k.invariant

pub returns : goal.returns
returns c =
    subst (All (IsLinked c.args.m.now)) (take_all c.loop-k.k c.args.m.now.imports (omega (arith, c.loop-k-test.false, c.len-k-end.ensures)))
    c.loop-k.invariant
