use Rattle.clause_solver.proofs.machine.State.conflict.Goals as goal

pub returns-clause-watched : goal.returns-clause-watched
returns-clause-watched c = λ order w. c.in_ok-learn.ensures.watched order
    (record { sound = w.sound; set = w.set; levelled = w.levelled; once = w.once; settled = w.settled })
