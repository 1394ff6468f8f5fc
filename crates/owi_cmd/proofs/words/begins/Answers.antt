use Rattle.std.proofs.Common.{Bor, List, ℕ, [], arith}
use Rattle.owi_cmd.proofs.WordsLemmas.{begins_by}
use Rattle.owi_cmd.proofs.words.begins.Goals as goal

pub returns-in-len1-up : goal.returns-in-len1-up
returns-in-len1-up c =
    let d : Bor (List ℕ) = record { ref_ptr = (0, 0); now = [] } in
    begins_by c.args.words.now d c.args.name.now c.eq.result (omega arith) c.eq.ensures
