use Rattle.std.proofs.Common.{append_assoc}
use Rattle.path_report.proofs.report.put_bounds.Goals as goal

pub returns : goal.returns
returns c = simp append_assoc c.in_ok-write.ensures.bytes
