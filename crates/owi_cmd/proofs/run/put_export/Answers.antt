use Rattle.std.proofs.Common.{refl, append_assoc}
use Rattle.owi_cmd.proofs.run.put_export.Goals as goal

pub returns : goal.returns
returns c = rw (c.in_ok-put_name.ensures, c.in_ok-push_str.ensures.bytes, append_assoc) refl
