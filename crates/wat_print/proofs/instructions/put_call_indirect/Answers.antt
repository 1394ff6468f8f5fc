use Rattle.std.proofs.Common.{append_assoc}
use Rattle.wat_print.proofs.instructions.put_call_indirect.Goals as goal

pub returns : goal.returns
returns c =
    let all = simp append_assoc at (rw c.in_ok-put_indexed.ensures at c.in_ok-write.ensures.bytes) in
    simp append_assoc all
