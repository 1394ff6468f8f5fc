use Rattle.std.proofs.Common.{refl, subst, get_or, drop, ◌+◌, ◌∙◌}
use Rattle.clause_solver.proofs.Statuses.{parts, none_left}
use Rattle.clause_solver.proofs.Visiting.{Visiting, visiting_none, visiting_next, visiting_all}
use Rattle.clause_solver.proofs.watches.Watches.visit_all.Goals as goal

pub loop-number-init : goal.loop-number-init
loop-number-init c = visiting_none c.args.trail.now c.args.clauses.now c.args.literal _ c.args.self.now _ refl refl refl (c.deref-number-items.ensures.value ∙ c.take-numbers.ensures.taken) c.take-numbers.ensures.kept c.requires.count c.requires.held c.requires.listed c.requires.kept

pub visit-requires-clause-count : goal.visit-requires-clause-count
visit-requires-clause-count c = c.loop-number.invariant.count

pub visit-requires-clause-held : goal.visit-requires-clause-held
visit-requires-clause-held c = c.loop-number.invariant.held _

pub loop-number-preserved : goal.loop-number-preserved
loop-number-preserved c = visiting_next c.args.trail.now c.args.clauses.now c.args.literal (get_or c.deref-number-items.result.now c.loop-number.number-index 0) (drop (c.loop-number.number-index + 1) c.deref-number-items.result.now) c.args.self.now c.loop-number.self c.visit.new.self
    (subst (λ ns. Visiting c.args.trail.now c.args.clauses.now c.args.literal ns c.args.self.now c.loop-number.self) (parts c.deref-number-items.result.now c.loop-number.number-index 0 c.loop-number-test.true) c.loop-number.invariant) c.in_ok-visit.ensures

pub returns-clause-sound : goal.returns-clause-sound
returns-clause-sound c = visiting_all c.args.trail.now c.args.clauses.now c.args.literal (drop c.loop-number.number-index c.deref-number-items.result.now) c.args.self.now c.loop-number.self
    (none_left c.deref-number-items.result.now c.loop-number.number-index c.loop-number-test.false) c.loop-number.invariant

pub returns-clause-before : goal.returns-clause-before
returns-clause-before c = c.loop-number.invariant.before
