use Rattle.std.proofs.Common.{arith}
use Rattle.path_report.proofs.ValueLemmas.{number_read, number_unread}
use Rattle.path_report.proofs.reading_values.small.Goals as goal

pub returns-in-Ok : goal.returns-in-Ok
returns-in-Ok c = λ n low e. number_read 32 n c.in-Ok.n c.args.digits.now c.parse.result low (omega arith) e c.parse.ensures.value.0 c.in-Ok.is

pub returns-in-Err : goal.returns-in-Err
returns-in-Err c = λ n low e. absurd (number_unread 32 n c.in-Err.field-0 c.args.digits.now c.parse.result low (omega arith) e c.parse.ensures.value.0 c.in-Err.is)
