use Rattle.std.proofs.Common.{◌≡◌, sym, subst}
use Rattle.std.specs.Prelude.{Some, slice_get}
use Rattle.wasm_run.proofs.fast_path.is_own_entry.Goals as goal

pub returns : goal.returns
returns c = λ so. record {
  type = c.in-Some.t.now;
  r = c.in-Some-element.r;
  typed = subst (λ m. slice_get m.types c.args.ty ≡ Some c.in-Some.t.now) c.module.ensures.module c.in-Some.ensures;
  there = sym c.in-Some-element.ensures;
  own_one = c.is_own_reference.ensures so;
}
