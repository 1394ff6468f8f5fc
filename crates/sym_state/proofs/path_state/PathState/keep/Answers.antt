use Rattle.sym_state.proofs.SplitLemmas.{if-done, kept-tested, kept-least-tested, kept-picked, kept-not-picked, kept-least-picked}
use Rattle.sym_state.proofs.path_state.PathState.keep.Goals as goal

pub returns-clause-tests : goal.returns-clause-tests
returns-clause-tests c =
    if-done _ _ c.add_side.result c.add_side.ensures.kept
    (λ is n stands asks. kept-tested c.args.self.now c.add_side.new.self c.args.question c.args.answer c.requires.held c.requires.meets is n stands asks)

pub returns-clause-picks : goal.returns-clause-picks
returns-clause-picks c =
    if-done _ _ c.add_side.result c.add_side.ensures.kept
    (λ is n t a stands asks other which. kept-picked c.args.self.now c.add_side.new.self c.args.question c.args.answer c.requires.held c.requires.meets is n t a stands asks other which)

pub returns-clause-others : goal.returns-clause-others
returns-clause-others c =
    if-done _ _ c.add_side.result c.add_side.ensures.kept
    (λ is n t a stands asks other which. kept-not-picked c.args.self.now c.add_side.new.self c.args.question c.args.answer c.requires.held c.requires.meets is n t a stands asks other which)

pub returns-clause-least_of_tests : goal.returns-clause-least_of_tests
returns-clause-least_of_tests c =
    if-done _ _ c.add_side.result c.add_side.ensures.kept
    (λ is n stands asks least. kept-least-tested c.args.self.now c.add_side.new.self c.args.question c.args.answer c.requires.held c.requires.meets is n stands asks least)

pub returns-clause-least_of_picks : goal.returns-clause-least_of_picks
returns-clause-least_of_picks c =
    if-done _ _ c.add_side.result c.add_side.ensures.kept
    (λ is n t a stands asks other least. kept-least-picked c.args.self.now c.add_side.new.self c.args.question c.args.answer c.requires.held c.requires.meets is n t a stands asks other least)
