use Rattle.std.proofs.Common.{◌≡◌, ◌<◌, length, sym, subst}
use Rattle.std.specs.Prelude.{Some, slice_get}
use Rattle.wasm_image.specs.Functions.{function_count, function_type}
use Rattle.wasm_image.proofs.TypeLemmas.{type_there, type_found}
use Rattle.wasm_image.proofs.images.Image.function_type.Goals as goal

pub get-requires : goal.get-requires
get-requires c =
    let lt : c.args.f < function_count c.self.inside.checked = subst (λ m. c.args.f < function_count m) (sym c.self.view_is) c.requires in
    subst (λ m. c.index-ty.result.now < length m.types) (sym c.module.ensures.module)
    (type_there c.self.inside.checked c.self.inside.spaces.funcs.items c.args.f c.index-ty.result.now c.module.ensures.valid c.self.invariant.0.funcs lt c.index-ty.ensures)

pub returns : goal.returns
returns c =
    let lt : c.args.f < function_count c.self.inside.checked = subst (λ m. c.args.f < function_count m) (sym c.self.view_is) c.requires in
    let there : slice_get c.self.inside.checked.types c.index-ty.result.now ≡ Some c.get.result.now =
    subst (λ m. slice_get m.types c.index-ty.result.now ≡ Some c.get.result.now) c.module.ensures.module c.get.ensures in
    subst (λ m. function_type m c.args.f ≡ Some c.get.result.now) c.self.view_is
    (type_found c.self.inside.checked c.self.inside.spaces.funcs.items c.args.f c.index-ty.result.now c.get.result.now c.self.invariant.0.funcs lt c.index-ty.ensures there)
