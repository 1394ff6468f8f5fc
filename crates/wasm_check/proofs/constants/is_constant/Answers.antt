use Rattle.std.proofs.Common.{◌∙◌, ap}
use Rattle.wasm_check.specs.code.Counts.{leaves_one}
use Rattle.wasm_check.proofs.ConstantLemmas.{constant-one}
use Rattle.wasm_check.proofs.constants.is_constant.Goals as goal

pub returns-in-Some : goal.returns-in-Some
returns-in-Some c =
    constant-one c.args.funcs c.args.globals.now c.args.e.now c.args.kind c.in-Some.instrs.now c.leaves_one.result c.in-Some.ensures
    (c.leaves_one.ensures ∙ ap (λ instrs. leaves_one c.args.funcs c.args.globals.now c.args.kind instrs 0) c.as_slice.ensures)
