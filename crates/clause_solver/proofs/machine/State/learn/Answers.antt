use Rattle.std.proofs.Common.{◌≤◌, List, ℕ, suc, length, sym, ap, ◌∙◌, subst}
use Rattle.refute_check.specs.Machine.{count_at, level_now}
use Rattle.refute_check.specs.Rising.{IsLevelled}
use Rattle.refute_check.proofs.Latest.{levelled_cut}
use Rattle.clause_solver.specs.code.Places.{IsOnce}
use Rattle.clause_solver.specs.code.Guarding.{AreGuarded}
use Rattle.clause_solver.proofs.Settling.{once_cut, cut_guarded, guarded_old, settled_learnt}
use Rattle.clause_solver.proofs.Visiting.{more_length, held_more, sound_held}
use Rattle.clause_solver.proofs.machine.State.learn.Goals as goal

pub returns-clause-watched : goal.returns-clause-watched
returns-clause-watched c = λ order w. record {
  sound = c.in_ok-learn.ensures.sound (ap (λ (ds : List (List ℕ)). length ds) c.in_ok-push.ensures.ok ∙ more_length c.args.self.now.clauses c.args.clause ∙ ap suc (sym c.requires.count))
      (λ s. guarded_old c.cut.new.self c.args.self.now.clauses c.push.new.self c.args.clause c.args.self.now.watches.pairs.items c.in_ok-push.ensures.ok c.requires.count
      (subst (λ u. AreGuarded u c.args.self.now.clauses c.args.self.now.watches.pairs.items) (sym c.cut.ensures)
      (cut_guarded c.args.level c.args.self.now.trail c.args.self.now.clauses c.args.self.now.watches.pairs.items w.levelled (w.settled (c.stays_settled-settled.ensures s).0) (c.stays_settled-settled.ensures s).1)))
      (held_more c.args.self.now.clauses c.push.new.self c.args.clause c.args.self.now.watches.pairs.items c.in_ok-push.ensures.ok c.requires.count (sound_held c.args.self.now.trail c.args.self.now.clauses c.args.self.now.watches w.sound))
      w.sound.listed;
  set = tt;
  levelled = subst (λ t. IsLevelled t) (sym c.cut.ensures) (levelled_cut c.args.level c.args.self.now.trail w.levelled);
  once = subst (λ t. IsOnce t) (sym c.cut.ensures) (once_cut c.args.level c.args.self.now.trail w.once);
  settled = λ s. settled_learnt c.args.self.now.trail c.cut.new.self c.args.self.now.clauses c.push.new.self c.args.self.now.watches.pairs.items c.learn.new.self.pairs.items c.args.clause c.as_slice-2.result.now c.args.level c.pair_of-pair.result
      c.cut.ensures c.in_ok-push.ensures.ok c.as_slice-2.ensures c.requires.count w.once w.levelled (w.settled (c.stays_settled-settled.ensures s).0) c.requires.level (c.stays_settled-settled.ensures s).1
      (subst (λ x. 1 ≤ count_at c.args.self.now.trail (level_now c.args.self.now.trail) x) (c.as_slice.ensures ∙ sym c.as_slice-2.ensures) (c.stays_settled-settled.ensures s).2)
      c.pair_of-pair.ensures.held c.pair_of-pair.ensures.last c.pair_of-pair.ensures.level (c.in_ok-learn.ensures.before s);
}
