use Rattle.std.proofs.Common.{◌^◌, ◌<◌, sym, subst}
use Rattle.wasm_rules.specs.Words.{numbers, HasNumber}
use Rattle.wasm_rules.proofs.NumbersLemmas.{numbers-give}
use Rattle.wasm_reduction.proofs.ConstantStarts.{sum32}
use Rattle.wasm_reduction.proofs.WordWidths.{binary-has}
use Rattle.wasm_start.proofs.constants.combine32.Goals as goal

pub total-requires-clause-binary : goal.total-requires-clause-binary
total-requires-clause-binary c = (sum32 c.args.op c.requires).binary

pub total-requires-clause-x_in_width : goal.total-requires-clause-x_in_width
total-requires-clause-x_in_width c = subst (λ n. c.args.x < 2 ^ n) (sym (sum32 c.args.op c.requires).operand_is) c.ranges.x.fits

pub total-requires-clause-y_in_width : goal.total-requires-clause-y_in_width
total-requires-clause-y_in_width c = subst (λ n. c.args.y < 2 ^ n) (sym (sum32 c.args.op c.requires).operand_is) c.ranges.y.fits

pub overflow_cast-result : goal.overflow_cast-result
overflow_cast-result c =
    record { fits = subst (λ r. r < 2 ^ 32) (sym c.total.ensures) (binary-has HasNumber numbers numbers-give c.args.op 32 32 (sum32 c.args.op c.requires) c.args.x c.args.y c.ranges.x.fits c.ranges.y.fits) }
