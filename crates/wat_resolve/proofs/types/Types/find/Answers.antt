use Rattle.std.proofs.Common.{◌≡◌, ◌∙◌, List, subst}
use Rattle.wasm_ast.specs.declared.types.FuncType.{FuncType}
use Rattle.wasm_text.specs.Uses.{type_position}
use Rattle.wat_resolve.proofs.PlaceLaws.{found_type}
use Rattle.wat_resolve.proofs.types.Types.find.Goals as goal

pub returns : goal.returns
returns c = λ ty is.
    subst (λ (all : List FuncType). c.copied.result ≡ type_position ty all) c.self.view_is
    (found_type (λ k. k.items) c.self.inside.all.items c.self.inside.places c.self.invariant c.args.word.now ty c.copied.result is (c.copied.ensures ∙ c.get.ensures.value))
