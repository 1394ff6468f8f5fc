use Rattle.std.proofs.Common.{subst}
use Rattle.wasm_image.proofs.EntryLemmas.{exported-there}
use Rattle.wasm_image.specs.Entries.{IsExported}
use Rattle.wasm_image.proofs.entries.entry_of.Goals as goal

pub function_type-ty-requires : goal.function_type-ty-requires
function_type-ty-requires c =
    exported-there c.args.i.now c.args.name.now c.in-Some.f c.module.ensures.valid
    (subst (λ m. IsExported m c.args.name.now c.in-Some.f) c.module.ensures.module c.in-Some.ensures)

pub returns-in-None : goal.returns-in-None
returns-in-None c f = subst (λ m. IsExported m c.args.name.now f → ⊥) c.module.ensures.module (c.in-None.ensures f)
