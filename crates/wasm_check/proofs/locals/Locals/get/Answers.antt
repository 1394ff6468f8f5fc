use Rattle.std.proofs.Common.{◌≡◌, get_or}
use Rattle.std.specs.Prelude.{Some, None, slice_get}
use Rattle.std.proofs.lemmas.Option.{slice_get-get_or}
use Rattle.wasm_ast.specs.declared.types.ValType.TheVariants.{I32}
use Rattle.wasm_check.specs.Contexts.{locals_of}
use Rattle.wasm_check.proofs.LocalLemmas.{group-some, group-none}
use Rattle.wasm_check.proofs.locals.Locals.get.Goals as goal

pub returns-then-k-self : goal.returns-then-k-self
returns-then-k-self c =
    let there = slice_get-get_or c.self.inside.groups.now c.group_of-k.result (record { count = 0; kind = I32 }) c.if-k-self.true in
    let e : slice_get (locals_of c.self.inside.groups.now) c.args.x ≡ Some (get_or c.self.inside.groups.now c.group_of-k.result (record { count = 0; kind = I32 })).kind =
    group-some c.self.inside.groups.now c.args.x c.group_of-k.result _ c.group_of-k.ensures there c.if-k-self.true in
    cc

pub returns-else-k-self : goal.returns-else-k-self
returns-else-k-self c =
    let e : slice_get (locals_of c.self.inside.groups.now) c.args.x ≡ None = group-none c.self.inside.groups.now c.args.x c.group_of-k.result c.group_of-k.ensures c.if-k-self.false in
    cc
