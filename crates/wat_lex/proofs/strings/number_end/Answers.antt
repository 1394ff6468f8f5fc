use Rattle.std.proofs.Common.{◌+◌, ◌*◌, subst, ◌∙◌, arith}
use Rattle.wat_lex.specs.code.Numbers.{Alike}
use Rattle.wat_lex.proofs.StringSteps.{number_hex}
use Rattle.wat_lex.proofs.strings.number_end.Goals as goal

pub loop-at-preserved-then-is_hex : goal.loop-at-preserved-then-is_hex
loop-at-preserved-then-is_hex c = record {
  same = c.loop-at.invariant.same
      ∙ number_hex c.args.bytes.now c.args.quote c.args.slash c.loop-at.number c.more-number.result c.loop-at.at c.loop-at.digit (omega arith) c.if-is_hex.ensures
      (subst (λ d. Alike (16 * c.loop-at.number + d) c.more-number.result) c.hex_value.ensures.value c.more-number.ensures);
  start = omega arith;
  within = omega arith;
}
