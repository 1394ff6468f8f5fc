use Rattle.type_suffixes.proofs.Trees.{four}
use Rattle.type_suffixes.proofs.words.linked.Goals as goal

pub returns-clause-after : goal.returns-clause-after
returns-clause-after c = four _ c.filled-by_i32.ensures c.filled-by_i64.ensures c.filled-by_funcref.ensures c.filled-by_externref.ensures
