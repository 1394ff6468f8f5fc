use Rattle.std.proofs.Common.{append_assoc}
use Rattle.wat_print.proofs.fields.put_func_head.Goals as goal

pub returns : goal.returns
returns c =
    let all = simp append_assoc at (rw c.in_ok-write.ensures.bytes at c.in_ok-put_locals.ensures) in
    simp append_assoc all
