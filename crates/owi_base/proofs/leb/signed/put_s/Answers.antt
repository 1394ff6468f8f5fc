use Rattle.owi_base.proofs.DigitLaws.{signed_spells, signed_shortest}
use Rattle.owi_base.proofs.leb.signed.put_s.Goals as goal

pub returns-clause-spells : goal.returns-clause-spells
returns-clause-spells c = λ width bits. signed_spells c.args.value width c.ranges.value.sfits bits

pub returns-clause-shortest : goal.returns-clause-shortest
returns-clause-shortest c = λ width text bytes s. signed_shortest c.args.value width text bytes s
