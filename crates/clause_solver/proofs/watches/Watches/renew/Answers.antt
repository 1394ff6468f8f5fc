use Rattle.std.proofs.Common.{refl, ap, ◌∙◌, sym}
use Rattle.std.specs.Prelude.{Some}
use Rattle.clause_solver.proofs.Visiting.{renewed}
use Rattle.clause_solver.proofs.watches.Watches.renew.Goals as goal

pub returns : goal.returns
returns c = renewed c.args.trail.now c.args.clauses.now c.args.number c.args.watched.0 c.args.watched.1 c.as_slice.result.now c.chosen-choice.result c.args.self.now _
    (c.get.ensures ∙ ap (λ x. Some x) (sym c.as_slice.ensures)) c.requires.within c.chosen-choice.ensures refl c.in_ok-note.ensures.kept.0 c.in_ok-note.ensures.kept.1 c.in_ok-note.ensures.noted
    c.in_ok-relist.ensures.kept c.in_ok-relist.ensures.listed
