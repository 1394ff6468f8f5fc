use Rattle.std.proofs.Common.{◌∙◌, arith}
use Rattle.wat_lex.proofs.StringSteps.{string_escape}
use Rattle.wat_lex.proofs.strings.string_end.Goals as goal

pub loop-at-preserved-in-Ok : goal.loop-at-preserved-in-Ok
loop-at-preserved-in-Ok c = record {
  same = c.loop-at.invariant.same
      ∙ string_escape c.args.bytes.now c.args.quote c.loop-at.at c.in-Ok.end (omega arith) c.if-c-eq92.true c.in-Ok.ensures.ends
      c.in-Ok.ensures.start c.in-Ok.ensures.within;
  start = omega (arith, c.in-Ok.ensures.start);
  within = omega (arith, c.in-Ok.ensures.within);
}
