use Rattle.std.proofs.Common.{map}
use Rattle.owi_cmd.proofs.WordsLemmas.{converts_by}
use Rattle.owi_cmd.proofs.words.is_convert.Goals as goal

pub returns-then-eq : goal.returns-then-eq
returns-then-eq c =
    converts_by (map (λ w. w.now) c.args.words.now) c.in-Some.rest.now c.in-Some.second.now c.eq.result c.is_empty.result c.in-Some.ensures c.eq.ensures c.if-eq.true c.is_empty.ensures
