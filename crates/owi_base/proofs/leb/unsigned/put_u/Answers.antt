use Rattle.std.proofs.Common.{arith}
use Rattle.owi_base.proofs.DigitLaws.{unsigned_spells, unsigned_shortest}
use Rattle.owi_base.proofs.leb.unsigned.put_u.Goals as goal

pub returns-clause-spells : goal.returns-clause-spells
returns-clause-spells c = λ width small. unsigned_spells c.args.value width (omega arith) small

pub returns-clause-shortest : goal.returns-clause-shortest
returns-clause-shortest c = λ width text bytes s. unsigned_shortest c.args.value width text bytes s
