use Rattle.std.proofs.Common.{sym, ap, ◌∙◌, subst}
use Rattle.std.specs.Prelude.{◌<◌, ◌^◌}
use Rattle.int_ops.specs.Operators.{bits_of, operand_bits, result_bits}
use Rattle.wasm_machine.proofs.NumericLaws.{has-at, eq-binary, eq-operand, eq-result, and-binary, and-operand, least-fits, minus_one-fits}
use Rattle.wasm_machine.proofs.numeric.overflow.Goals as goal

pub bin-requires-clause-binary : goal.bin-requires-clause-binary
bin-requires-clause-binary g c = rw c.eq_op.ensures (eq-binary c.args.width)

pub bin-requires-clause-a_width : goal.bin-requires-clause-a_width
bin-requires-clause-a_width g c = has-at g.A.Algebra.Has _ _ _ _ (ap (λ o. operand_bits o) c.eq_op.ensures ∙ eq-operand c.args.width) (c.constant-least.ensures.keeps c.args.x c.requires.x_held).1 c.requires.x_wide

pub bin-requires-clause-b_width : goal.bin-requires-clause-b_width
bin-requires-clause-b_width g c = subst (λ n. g.A.Algebra.Has n (g.A.Algebra.means c.constant-least.new.self c.constant-least.result)) (sym (ap (λ o. operand_bits o) c.eq_op.ensures ∙ eq-operand c.args.width))
    (c.constant-least.ensures.width (bits_of c.args.width) (subst (λ n. n < 2 ^ bits_of c.args.width) (sym c.least.ensures) (least-fits c.args.width)))

pub bin-requires-2-clause-binary : goal.bin-requires-2-clause-binary
bin-requires-2-clause-binary g c = rw c.eq_op-2.ensures (eq-binary c.args.width)

pub bin-requires-2-clause-a_width : goal.bin-requires-2-clause-a_width
bin-requires-2-clause-a_width g c =
    let one = c.constant-least.ensures.keeps c.args.y c.requires.y_held in
    let two = c.in_ok-is_least.ensures.keeps c.args.y one.0 in
    let three = c.constant-minus_one.ensures.keeps c.args.y two.0 in
    has-at g.A.Algebra.Has _ _ _ _ (ap (λ o. operand_bits o) c.eq_op-2.ensures ∙ eq-operand c.args.width) (three.1 ∙ two.1 ∙ one.1) c.requires.y_wide

pub bin-requires-2-clause-b_width : goal.bin-requires-2-clause-b_width
bin-requires-2-clause-b_width g c = subst (λ n. g.A.Algebra.Has n (g.A.Algebra.means c.constant-minus_one.new.self c.constant-minus_one.result)) (sym (ap (λ o. operand_bits o) c.eq_op-2.ensures ∙ eq-operand c.args.width))
    (c.constant-minus_one.ensures.width (bits_of c.args.width) (subst (λ n. n < 2 ^ bits_of c.args.width) (sym c.minus_one.ensures) (minus_one-fits c.args.width)))

pub bin-requires-3-clause-binary : goal.bin-requires-3-clause-binary
bin-requires-3-clause-binary g c = and-binary

pub bin-requires-3-clause-a_width : goal.bin-requires-3-clause-a_width
bin-requires-3-clause-a_width g c =
    let one = c.constant-minus_one.ensures.keeps c.in_ok-is_least.is_least c.in_ok-is_least.ensures.held in
    let two = c.in_ok-is_minus_one.ensures.keeps c.in_ok-is_least.is_least one.0 in
    has-at g.A.Algebra.Has _ _ _ _ (and-operand ∙ sym (ap (λ o. result_bits o) c.eq_op.ensures ∙ eq-result c.args.width)) (two.1 ∙ one.1) c.in_ok-is_least.ensures.width

pub bin-requires-3-clause-b_width : goal.bin-requires-3-clause-b_width
bin-requires-3-clause-b_width g c =
    subst (λ n. g.A.Algebra.Has n (g.A.Algebra.means c.bin-2.new.self c.in_ok-is_minus_one.is_minus_one)) (sym (and-operand ∙ sym (ap (λ o. result_bits o) c.eq_op-2.ensures ∙ eq-result c.args.width))) c.in_ok-is_minus_one.ensures.width
