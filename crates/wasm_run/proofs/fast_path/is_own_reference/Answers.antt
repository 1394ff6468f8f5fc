use Rattle.std.proofs.Common.{◌∙◌, ap}
use Rattle.wasm_machine.specs.declared.values.Reference.TheVariants.{Func}
use Rattle.wasm_run.proofs.fast_path.is_own_reference.Goals as goal

pub returns-in-Some : goal.returns-in-Some
returns-in-Some c = λ so. record {
  f = c.in-Some.f;
  is = c.in-Func.is ∙ ap (λ o. Func o) c.in-Some.is;
  own_one = c.is_own_function.ensures so;
}
