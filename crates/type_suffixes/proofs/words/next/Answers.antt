use Rattle.std.proofs.Common.{arith}
use Rattle.type_suffixes.proofs.Trees.{next_spelled}
use Rattle.type_suffixes.proofs.words.next.Goals as goal

pub returns-then-same : goal.returns-then-same
returns-then-same c = next_spelled c.args.words.now.items c.args.from c.args.t c.leads_to-k.result c.at-w.result c.requires.tree (omega arith) c.at-w.ensures.is (omega arith) (c.same.ensures c.if-same.true)
