use Rattle.std.proofs.Common.{None}
use Rattle.bit_blast.specs.GraphConditions.{conditions_of}
use Rattle.path_ask.proofs.VerdictLemmas.{takes, room, none_do, not_bad, least_is}
use Rattle.path_ask.proofs.questions.other_side.Goals as goal

pub solve-requires-clause-formula : goal.solve-requires-clause-formula
solve-requires-clause-formula c = takes (conditions_of c.args.g.now c.args.conds.now) c.args.draws.now None c.requires.proper tt c.in_ok-cnf.cnf c.in_ok-cnf.ensures

pub input-requires : goal.input-requires
input-requires c =
    room (conditions_of c.args.g.now c.args.conds.now) c.args.draws.now None c.requires.proper tt c.in_ok-cnf.cnf c.in_ok-cnf.ensures
    c.args.conflicts c.in_ok-answer.answer c.in-Model.values c.as_slice.result.now c.in_ok-answer.ensures.exact c.in-Model.is c.as_slice.ensures

pub returns-in_ok-least-in-Model-clause-right : goal.returns-in_ok-least-in-Model-clause-right
returns-in_ok-least-in-Model-clause-right c =
    least_is (conditions_of c.args.g.now c.args.conds.now) c.args.draws.now c.requires.proper c.in_ok-cnf.cnf c.in_ok-cnf.ensures
    c.in_ok-answer.answer c.in-Model.values c.as_slice.result.now c.in_ok-least-in-Model.least c.in_ok-answer.ensures.right c.in-Model.is c.as_slice.ensures c.in_ok-least-in-Model.ensures

pub returns-in-Ok-clause-right : goal.returns-in-Ok-clause-right
returns-in-Ok-clause-right c =
    none_do (conditions_of c.args.g.now c.args.conds.now) c.args.draws.now None c.requires.proper tt c.in_ok-cnf.cnf c.in_ok-cnf.ensures c.in-Ok.ensures.unsatisfiable

pub unreachable-requires : goal.unreachable-requires
unreachable-requires c =
    not_bad (conditions_of c.args.g.now c.args.conds.now) c.args.draws.now None c.requires.proper tt c.in_ok-cnf.cnf c.in_ok-cnf.ensures
    c.in_ok-answer.answer c.in-Refuted.log c.accept.result c.in-Err-Bad.field-0 _ c.in_ok-answer.ensures.right c.in-Refuted.is c.accept.ensures.accepts c.in-Err-Bad.is c.in-Err-Bad.field-0-is
