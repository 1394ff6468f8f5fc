use Rattle.std.proofs.Common.{◌≡◌, ap, refl, sym, subst, map-id, arith, ℕ, map, List}
use Rattle.std.specs.Prelude.{IfOk}
use Rattle.int_ops.specs.Bytes.{joined}
use Rattle.wasm_rules.proofs.algebra.NumbersAlgebra.TheImpl.Goals as goal

pub join-tells : goal.join-tells
join-tells c =
    let same : joined c.args.bytes.now ≡ joined (map (λ b. b) c.args.bytes.now) = ap joined (sym (map-id c.args.bytes.now)) in
    record {
      held = search (arith, c.ensures.exact);
      means = subst (λ r. IfOk r (λ w. w ≡ joined (map (λ b. b) c.args.bytes.now))) (sym c.ensures.exact) same;
      width = c.ensures.width;
      value = subst (λ r. IfOk r (λ w. (input : List ℕ) → w ≡ joined (map (λ b. b) c.args.bytes.now))) (sym c.ensures.exact) (λ input. same);
      keeps = λ w held. (held, refl);
    }
