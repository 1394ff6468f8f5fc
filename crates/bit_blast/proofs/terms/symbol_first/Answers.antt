use Rattle.std.proofs.Common.{length, ap, sym, ◌∙◌, arith}
use Rattle.std.specs.Prelude.{slice_get}
use Rattle.bit_blast.proofs.TermLemmas.{firsts-length, first-at, first-past}
use Rattle.bit_blast.proofs.terms.symbol_first.Goals as goal

pub get-requires : goal.get-requires
get-requires c = omega (arith, ap (λ xs. length xs) c.requires.firsts_are, firsts-length 2 c.args.draws.now, c.if-number-draws.true)

pub returns-then-number-draws : goal.returns-then-number-draws
returns-then-number-draws c =
    first-at 2 c.args.draws.now c.args.number c.get.result.now (ap (λ xs. slice_get xs c.args.number) (sym c.requires.firsts_are) ∙ c.get.ensures)

pub returns-else-number-draws : goal.returns-else-number-draws
returns-else-number-draws c = c.requires.end_is ∙ first-past 2 c.args.draws.now c.args.number c.if-number-draws.false
