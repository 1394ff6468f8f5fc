use Rattle.std.proofs.Common.{refl, append_assoc}
use Rattle.path_report.proofs.ListLemmas.{list_text-first}
use Rattle.path_report.proofs.values.put_list.Goals as goal

pub returns-in_ok-put_rest-in-len1-up : goal.returns-in_ok-put_rest-in-len1-up
returns-in_ok-put_rest-in-len1-up g c =
    let split = list_text-first g.T.Printed.text c.args.members.now c.first-item.result c.in-len1-up.len_at_least c.first-item.is in
    rw (c.in_ok-put_rest-in-len1-up.ensures, c.in_ok-put-in-len1-up.ensures, split, append_assoc) refl
