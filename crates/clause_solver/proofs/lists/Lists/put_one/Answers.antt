use Rattle.std.proofs.Common.{◌∷◌, [], ℕ, map, subst}
use Rattle.std.specs.Prelude.{Vec}
use Rattle.std.specs.Global.{Global}
use Rattle.clause_solver.specs.code.Watching.{Put}
use Rattle.clause_solver.proofs.Watching.{put_one}
use Rattle.clause_solver.proofs.lists.Lists.put_one.Goals as goal

pub returns : goal.returns
returns c = subst (λ ls. Put ls (map (λ (v : Vec ℕ Global). v.items) c.push_in.new.lists.items) c.args.number (c.args.literal ∷ [])) c.self.view_is
    (put_one (map (λ (v : Vec ℕ Global). v.items) c.self.inside.lists.items) (map (λ (v : Vec ℕ Global). v.items) c.make_lists.new.lists.items) (map (λ (v : Vec ℕ Global). v.items) c.push_in.new.lists.items)
    c.args.number c.args.literal c.make_lists.ensures.kept c.in_ok-make_lists.ensures.long c.in_ok-push_in.ensures)
