use Rattle.std.proofs.Common.{◌∙◌, ◌++◌, ◌∷◌, [], ap, sym}
use Rattle.clause_solver.proofs.Results.{on_ok}
use Rattle.clause_solver.proofs.Watching.{vector_put, vector_got, vector_there}
use Rattle.clause_solver.proofs.lists.push_in.Goals as goal

pub returns : goal.returns
returns c = on_ok c.push.result c.push.ensures (λ is. vector_put c.args.lists.now.items c.args.at c.push.new.list _
    (is ∙ ap (λ l. l ++ c.args.number ∷ []) (sym (vector_got c.args.lists.now.items c.args.at c.index_mut.result.now (vector_there c.args.lists.now.items c.args.at c.requires) c.index_mut.ensures.value))))
