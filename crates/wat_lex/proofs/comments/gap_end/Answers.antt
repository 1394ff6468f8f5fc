use Rattle.std.proofs.Common.{◌<◌, ◌≤◌, length, sym, ◌∙◌, arith}
use Rattle.wat_lex.proofs.CommentSteps.{gap_passes}
use Rattle.wat_lex.proofs.comments.gap_end.Goals as goal

pub loop-at-preserved : goal.loop-at-preserved
loop-at-preserved c =
    let start : c.loop-at.at < c.in-Some-Some.end = rw c.in-Some-Some.field-0-is at c.in-Some-Some.ensures.start in
    let within : c.in-Some-Some.end ≤ length c.args.bytes.now = rw c.in-Some-Some.field-0-is at c.in-Some-Some.ensures.within in
    record {
      same = c.loop-at.invariant.same
          ∙ gap_passes c.args.bytes.now c.loop-at.at c.in-Some-Some.end (omega arith) (sym c.if-is_space.ensures)
          (rw c.in-Some-Some.field-0-is at c.in-Some-Some.ensures.ends) start within;
      start = omega arith;
      within = within;
    }
