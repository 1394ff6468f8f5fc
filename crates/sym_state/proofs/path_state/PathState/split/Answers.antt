use Rattle.sym_state.proofs.SplitLemmas.{both-are, tested, least-tested, picked, least-picked, not-picked, least-not-picked}
use Rattle.sym_state.proofs.path_state.PathState.split.Goals as goal

pub returns-clause-tests : goal.returns-clause-tests
returns-clause-tests c =
    both-are _ _ _ c.halves.result c.halves.ensures.first c.halves.ensures.second
    (λ x y first second n stands asks. (
      tested c.args.self x c.args.question _ c.args.zero (record { held = c.requires.held; meets = c.requires.zero_meets; answers = c.requires.zero_answers; is = first }) n stands asks,
      tested c.args.self y c.args.question _ c.args.one (record { held = c.requires.held; meets = c.requires.one_meets; answers = c.requires.one_answers; is = second }) n stands asks,
    ))

pub returns-clause-picks : goal.returns-clause-picks
returns-clause-picks c =
    both-are _ _ _ c.halves.result c.halves.ensures.first c.halves.ensures.second
    (λ x y first second n t a stands asks other. (
      picked c.args.self x c.args.question c.args.zero (record { held = c.requires.held; meets = c.requires.zero_meets; answers = c.requires.zero_answers; is = first }) n t a stands asks other,
      not-picked c.args.self y c.args.question c.args.one (record { held = c.requires.held; meets = c.requires.one_meets; answers = c.requires.one_answers; is = second }) n t a stands asks other,
    ))

pub returns-clause-least_of_tests : goal.returns-clause-least_of_tests
returns-clause-least_of_tests c =
    both-are _ _ _ c.halves.result c.halves.ensures.first c.halves.ensures.second
    (λ x y first second n stands asks. (
      least-tested c.args.self x c.args.question _ c.args.zero (record { held = c.requires.held; meets = c.requires.zero_meets; answers = c.requires.zero_answers; is = first }) n stands asks,
      least-tested c.args.self y c.args.question _ c.args.one (record { held = c.requires.held; meets = c.requires.one_meets; answers = c.requires.one_answers; is = second }) n stands asks,
    ))

pub returns-clause-least_of_picks : goal.returns-clause-least_of_picks
returns-clause-least_of_picks c =
    both-are _ _ _ c.halves.result c.halves.ensures.first c.halves.ensures.second
    (λ x y first second n t a stands asks other. (
      least-picked c.args.self x c.args.question c.args.zero (record { held = c.requires.held; meets = c.requires.zero_meets; answers = c.requires.zero_answers; is = first }) n t a stands asks other,
      least-not-picked c.args.self y c.args.question c.args.one (record { held = c.requires.held; meets = c.requires.one_meets; answers = c.requires.one_answers; is = second }) n t a stands asks other,
    ))
