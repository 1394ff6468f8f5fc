use Rattle.std.proofs.Common.{Bor, List, ℕ, [], arith, ◌∙◌, sym}
use Rattle.owi_cmd.proofs.WordsLemmas.{two_words}
use Rattle.owi_cmd.proofs.words.valued.Goals as goal

pub returns-then-eq : goal.returns-then-eq
returns-then-eq c =
    let d : Bor (List ℕ) = record { ref_ptr = (0, 0); now = [] } in
    two_words c.args.words.now d c.args.name.now (omega arith) (sym c.eq.ensures ∙ c.if-eq.true)
