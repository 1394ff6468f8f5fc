use Rattle.std.proofs.Common.{◌≡◌, ℕ, List, [], ◌∷◌, ◌++◌, subst, sym, ap, ◌∙◌}
use Rattle.std.specs.List.{flat_map}
use Rattle.wasm_binary.specs.Modules.{IsBinary}
use Rattle.wasm_write.specs.Modules.{sections, section_bytes, shortest}
use Rattle.wasm_write.proofs.ModulesSpelled.{shortest_spelled}
use Rattle.wasm_write.proofs.write_module.Goals as goal

pub returns-in-Ok-clause-binary : goal.returns-in-Ok-clause-binary
returns-in-Ok-clause-binary c =
    let m = c.args.m.now in
    let front : c.in_ok-out.out.items ≡ 0x00 ∷ 0x61 ∷ 0x73 ∷ 0x6D ∷ 0x01 ∷ 0x00 ∷ 0x00 ∷ 0x00 ∷ [] = c.in_ok-out.ensures.items in
    let all : c.put_sections.new.out.items ≡ shortest m = c.in-Ok.ensures.1 ∙ ap (λ l. l ++ flat_map section_bytes (sections m)) front in
    let P : List ℕ → Type 0 = λ l. IsBinary m l in
    subst P (sym all) (shortest_spelled m c.requires c.is_in_range.ensures c.in-Ok.ensures.0)
