use Rattle.std.proofs.Common.{Some, length-take, arith}
use Rattle.bit_blast.specs.GraphConditions.{conditions_of, term_at}
use Rattle.path_ask.proofs.VerdictLemmas.{takes, room, not_refuted, decided_within, least_value_given, pick_is, enough_decided}
use Rattle.path_ask.proofs.questions.least_value.Goals as goal

pub solve-requires-clause-formula : goal.solve-requires-clause-formula
solve-requires-clause-formula c =
    takes (conditions_of c.args.g.now c.args.conds.now) c.args.draws.now (Some (term_at c.args.g.now c.args.term)) c.requires.proper c.requires.term_proper c.in_ok-cnf.cnf c.in_ok-cnf.ensures

pub slice_bounds-number_at-end : goal.slice_bounds-number_at-end
slice_bounds-number_at-end c =
    let enough = enough_decided (conditions_of c.args.g.now c.args.conds.now) c.args.draws.now (term_at c.args.g.now c.args.term) c.requires.proper c.requires.term_proper c.in_ok-cnf.cnf c.in_ok-cnf.ensures c.as_slice-in-Model.result.now c.as_slice-in-Model.ensures in
    let long = length-take 32 c.as_slice-in-Model.result.now in
    omega arith

pub number_at-value-requires-clause-few : goal.number_at-value-requires-clause-few
number_at-value-requires-clause-few c = let long = length-take 32 c.as_slice-in-Model.result.now in omega arith

pub number_at-value-requires-clause-within : goal.number_at-value-requires-clause-within
number_at-value-requires-clause-within c =
    decided_within (conditions_of c.args.g.now c.args.conds.now) c.args.draws.now (Some (term_at c.args.g.now c.args.term)) c.requires.proper c.requires.term_proper c.in_ok-cnf.cnf c.in_ok-cnf.ensures
    c.args.conflicts 32 c.in_ok-answer.answer c.in-Model.values c.as_slice.result.now c.as_slice-in-Model.result.now c.in_ok-answer.ensures.exact c.in-Model.is c.as_slice.ensures c.as_slice-in-Model.ensures

pub input-requires : goal.input-requires
input-requires c =
    room (conditions_of c.args.g.now c.args.conds.now) c.args.draws.now (Some (term_at c.args.g.now c.args.term)) c.requires.proper c.requires.term_proper c.in_ok-cnf.cnf c.in_ok-cnf.ensures
    c.args.conflicts c.in_ok-answer.answer c.in-Model.values c.as_slice-in-Model-2.result.now c.in_ok-answer.ensures.exact c.in-Model.is c.as_slice-in-Model-2.ensures

pub returns-in-Model-clause-exact : goal.returns-in-Model-clause-exact
returns-in-Model-clause-exact c =
    pick_is (conditions_of c.args.g.now c.args.conds.now) c.args.draws.now (term_at c.args.g.now c.args.term) c.requires.proper c.requires.term_proper c.in_ok-cnf.cnf c.in_ok-cnf.ensures
    c.in_ok-answer.answer c.in-Model.values c.as_slice.result.now c.as_slice-in-Model-2.result.now c.as_slice-in-Model.result.now c.number_at-value.result c.in_ok-least-in-Model.least
    c.in_ok-answer.ensures.right c.in-Model.is c.as_slice.ensures c.as_slice-in-Model-2.ensures c.as_slice-in-Model.ensures c.number_at-value.ensures c.in_ok-least-in-Model.ensures c.args.conflicts c.in_ok-answer.ensures.exact

pub returns-in-Model-clause-least : goal.returns-in-Model-clause-least
returns-in-Model-clause-least c =
    least_value_given (conditions_of c.args.g.now c.args.conds.now) c.args.draws.now (term_at c.args.g.now c.args.term) c.requires.proper c.requires.term_proper c.in_ok-cnf.cnf c.in_ok-cnf.ensures
    c.in_ok-answer.answer c.in-Model.values c.as_slice.result.now c.as_slice-in-Model-2.result.now c.as_slice-in-Model.result.now c.number_at-value.result c.in_ok-least-in-Model.least
    c.in_ok-answer.ensures.right c.in-Model.is c.as_slice.ensures c.as_slice-in-Model-2.ensures c.as_slice-in-Model.ensures c.number_at-value.ensures c.in_ok-least-in-Model.ensures

pub unreachable-requires : goal.unreachable-requires
unreachable-requires c =
    not_refuted (conditions_of c.args.g.now c.args.conds.now) c.args.draws.now (Some (term_at c.args.g.now c.args.term)) c.requires.proper c.requires.term_proper c.in_ok-cnf.cnf c.in_ok-cnf.ensures
    c.in_ok-answer.answer c.in-Refuted.field-0 c.in_ok-answer.ensures.right c.in-Refuted.is c.requires.some
