use Rattle.std.proofs.Common.{string_bytes}
use Rattle.path_report.proofs.TermLemmas.{one_more}
use Rattle.path_report.proofs.terms.put_lines.Goals as goal

pub loop-i-preserved : goal.loop-i-preserved
loop-i-preserved c =
    one_more (string_bytes c.args.out.now) (string_bytes c.loop-i.out) (string_bytes c.put_term.new.out) c.loop-i.i c.args.lines.now c.index-lines-i.result c.loop-i-test.true c.index-lines-i.is c.loop-i.invariant c.in_ok-put_term.ensures
