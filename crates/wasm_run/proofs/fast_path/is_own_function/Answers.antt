use Rattle.std.proofs.Common.{◌∙◌, sym}
use Rattle.wasm_machine.proofs.IndirectLaws.{same-is}
use Rattle.wasm_run.proofs.fast_path.is_own_function.Goals as goal

pub returns-in-None : goal.returns-in-None
returns-in-None c = λ so. record {
  has = c.function_type.result.now;
  no_host = c.in-None.ensures;
  has_type = c.function_type.ensures;
  same = sym (same-is c.same.result c.function_type.result.now c.args.t.now c.same.ensures) ∙ so;
}
