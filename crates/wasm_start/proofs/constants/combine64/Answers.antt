use Rattle.std.proofs.Common.{◌^◌, ◌<◌, sym, subst}
use Rattle.wasm_reduction.proofs.ConstantStarts.{sum64}
use Rattle.wasm_start.proofs.constants.combine64.Goals as goal

pub total-requires-clause-binary : goal.total-requires-clause-binary
total-requires-clause-binary c = (sum64 c.args.op c.requires).binary

pub total-requires-clause-x_in_width : goal.total-requires-clause-x_in_width
total-requires-clause-x_in_width c = subst (λ n. c.args.x < 2 ^ n) (sym (sum64 c.args.op c.requires).operand_is) c.ranges.x.fits

pub total-requires-clause-y_in_width : goal.total-requires-clause-y_in_width
total-requires-clause-y_in_width c = subst (λ n. c.args.y < 2 ^ n) (sym (sum64 c.args.op c.requires).operand_is) c.ranges.y.fits
