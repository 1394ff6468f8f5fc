use Rattle.std.proofs.Common.{sym, ◌∙◌, arith}
use Rattle.wat_lex.proofs.CommentSteps.{comment_opens, comment_shuts_inner, comment_passes, comment_over}
use Rattle.wat_lex.proofs.comments.comment_end.Goals as goal

pub loop-at-preserved-then-is_pair : goal.loop-at-preserved-then-is_pair
loop-at-preserved-then-is_pair c = record {
  same = c.loop-at.invariant.same ∙ comment_opens c.args.bytes.now c.loop-at.inner c.loop-at.at (omega arith) c.if-is_pair.ensures;
  start = omega arith;
  within = omega arith;
  few = omega arith;
}

pub loop-at-preserved-then-is_pair-2 : goal.loop-at-preserved-then-is_pair-2
loop-at-preserved-then-is_pair-2 c = record {
  same = c.loop-at.invariant.same
      ∙ comment_shuts_inner c.args.bytes.now c.loop-at.inner c.loop-at.at (omega arith) c.if-is_pair.ensures c.if-is_pair-2.ensures (omega arith);
  start = omega arith;
  within = omega arith;
  few = omega arith;
}

pub loop-at-preserved : goal.loop-at-preserved
loop-at-preserved c = record {
  same = c.loop-at.invariant.same
      ∙ comment_passes c.args.bytes.now c.loop-at.inner c.loop-at.at (omega arith) c.if-is_pair.ensures c.if-is_pair-2.ensures;
  start = omega arith;
  within = omega arith;
  few = omega arith;
}

pub returns-clause-ends : goal.returns-clause-ends
returns-clause-ends c =
    sym (c.loop-at.invariant.same ∙ comment_over c.args.bytes.now c.loop-at.inner c.loop-at.at (omega arith))
