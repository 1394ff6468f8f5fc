use Rattle.std.proofs.Common.{map, rules}
use Rattle.owi_base.specs.Outside.{Rose}
use Rattle.owi_cmd.proofs.AnswerLemmas.{answered, no_write_fault, of_short}
use Rattle.owi_cmd.proofs.plain.answer.Goals as goal

pub returns-clause-answered : goal.returns-clause-answered
returns-clause-answered g c =
    let spelled = rw c.in-Some.is at c.in_ok-command.ensures.spelled in
    answered (map (λ w. w.now) c.args.words.now) (g.S.Source.left c.args.source.now) (Rose (g.S.Source.faults c.args.source.now) (g.S.Source.faults c.read_all.new.source)) c.in-Some.command c.as_slice.result.now c.in_ok-carried_out.field-0.status c.in_ok-carried_out.field-0.bytes.items spelled (rw c.as_slice.ensures.value c.in-Ok.ensures.ok) c.in_ok-carried_out.ensures.drained
    (of_short c.in-Some.command c.as_slice.result.now c.in_ok-carried_out.field-0.status c.in_ok-carried_out.field-0.bytes.items (search rules) c.in_ok-carried_out.ensures.answered)

pub returns-clause-drained : goal.returns-clause-drained
returns-clause-drained g c =
    (no_write_fault c.in_ok-carried_out.field-0.status c.in_ok-carried_out.ensures.drained, c.in-Ok.ensures.ended)

pub carried_out-requires : goal.carried_out-requires
carried_out-requires g c = (map (λ w. w.now) c.args.words.now, rw c.in-Some.is at c.in_ok-command.ensures.spelled)
