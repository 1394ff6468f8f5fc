use Rattle.sym_state.proofs.SplitLemmas.{if-done, supposes, least-supposes}
use Rattle.sym_state.proofs.path_state.PathState.assume.Goals as goal

pub returns-clause-stands : goal.returns-clause-stands
returns-clause-stands c =
    if-done _ _ c.suppose.result c.suppose.ensures.supposed
    (λ is n stands asks. supposes c.args.self.now c.suppose.new.self c.args.term c.args.least c.requires.held c.requires.meets c.requires.answers is n stands asks)

pub returns-clause-least_given : goal.returns-clause-least_given
returns-clause-least_given c =
    if-done _ _ c.suppose.result c.suppose.ensures.supposed
    (λ is n stands asks. least-supposes c.args.self.now c.suppose.new.self c.args.term c.args.least c.requires.held c.requires.meets c.requires.answers is n stands asks)
