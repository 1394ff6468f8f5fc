use Rattle.std.proofs.Common.{◌≡◌, ◌⊎◌, sym, ap, ◌∙◌, take, subst}
use Rattle.refute_check.specs.Machine.{On}
use Rattle.refute_check.specs.Rising.{IsLevelled}
use Rattle.clause_solver.specs.code.Places.{IsOnce}
use Rattle.clause_solver.specs.code.Guarding.{IsSettled}
use Rattle.clause_solver.specs.code.Renewing.{IsWatchedBy, IsKeptIn, pair_at}
use Rattle.clause_solver.specs.code.Watching.{opposite}
use Rattle.clause_solver.proofs.Watching.{set_after}
use Rattle.clause_solver.proofs.Settling.{settled_moved}
use Rattle.clause_solver.proofs.Visiting.{sound_put}
use Rattle.clause_solver.proofs.machine.State.put.Goals as goal

pub visit_all-requires-clause-kept : goal.visit_all-requires-clause-kept
visit_all-requires-clause-kept c = λ n.
    let o : c.opposite_of.result ≡ opposite c.args.entry.literal = c.opposite_of.ensures ∙ ap (λ e. opposite e.literal) c.entry.view_is in
    subst (λ l. IsWatchedBy l (pair_at c.args.self.now.watches n) ⊎ IsKeptIn c.put.new.self c.args.self.now.clauses c.args.self.now.watches n) (sym o)
    (subst (λ u. IsWatchedBy (opposite c.args.entry.literal) (pair_at c.args.self.now.watches n) ⊎ IsKeptIn u c.args.self.now.clauses c.args.self.now.watches n) (sym c.in_ok-put.ensures.ok)
    (sound_put c.args.self.now.trail c.args.entry c.args.self.now.clauses c.args.self.now.watches c.requires.free c.requires.sound n))

pub returns-clause-put : goal.returns-clause-put
returns-clause-put c = ap (λ t. On (record { clauses = c.args.self.now.clauses; trail = t; log = c.args.self.now.log; conflicts = c.args.self.now.conflicts })) (sym c.in_ok-put.ensures.ok)

pub returns-clause-watched : goal.returns-clause-watched
returns-clause-watched c = λ order w level idle.
    let once : IsOnce c.put.new.self = subst (λ t. IsOnce t) (sym c.in_ok-put.ensures.ok) (c.requires.free, w.once) in
    record {
      sound = c.in_ok-visit_all.ensures.sound;
      set = set_after c.args.self.now.trail c.put.new.self c.args.entry (take c.args.self.now.ahead order) c.in_ok-put.ensures.ok w.set;
      levelled = subst (λ t. IsLevelled t) (sym c.in_ok-put.ensures.ok) (level, w.levelled);
      once = once;
      settled = λ s. settled_moved c.put.new.self c.args.self.now.clauses c.args.self.now.watches.pairs.items c.visit_all.new.self.pairs.items once c.in_ok-visit_all.ensures.before
          (subst (λ t. IsSettled t c.args.self.now.clauses c.args.self.now.watches.pairs.items) (sym c.in_ok-put.ensures.ok) (idle, w.settled s));
    }
