use Rattle.std.proofs.Common.{◌∙◌, List, map, ap}
use Rattle.wasm_text.specs.declared.named.Local.{Local}
use Rattle.wasm_text.specs.Resolved.{groups_of}
use Rattle.wat_resolve.proofs.WholeLaws.{func_made}
use Rattle.wat_resolve.proofs.fields.WrittenFuncEntry.resolve.Goals as goal

pub returns-clause-made : goal.returns-clause-made
returns-clause-made c =
    func_made c.inside.inside.scope.now c.inside.inside.locals.ids c.args.inside.now c.args.self.now c.in_ok-own.own c.in_ok-ty.ty c.in_ok-locals.locals c.in_ok-body.body c.inside.view_is c.in_ok-own.ensures.value c.in_ok-ty.ensures (c.in_ok-locals.ensures ∙ ap (λ (ls : List Local). groups_of (map (λ (l : Local). l.kind) ls)) c.as_slice.ensures) c.in_ok-body.ensures.made
