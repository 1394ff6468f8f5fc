use Rattle.std.proofs.Common.{rules}
use Rattle.owi_cmd.proofs.SourceLemmas.{refusal}
use Rattle.wasm_read.specs.Refusals.{fault_of}
use Rattle.owi_cmd.proofs.source.read_stripped_source.Goals as goal

pub returns-in_ok-refused-in-Err : goal.returns-in_ok-refused-in-Err
returns-in_ok-refused-in-Err c =
    let is = refusal c.args.source.now (fault_of c.in-Err.bad) c.in_ok-refused-in-Err.field-0.status c.in_ok-refused-in-Err.field-0.bytes.items (search rules) (search rules) c.in_ok-refused-in-Err.ensures in
    record { spelled = tt; shape = tt; refused = is.0; drained = is.1 }
