use Rattle.std.proofs.Common.{arith}
use Rattle.owi_base.specs.Leb.{unsigned_bytes}
use Rattle.owi_base.proofs.DigitLaws.{unsigned_spells}
use Rattle.owi_base.proofs.leb.unsigned.read_put_u.Goals as goal

pub returns : goal.returns
returns c =
    let spells = unsigned_spells c.args.value c.args.width (omega arith) c.requires.small in
    c.leb_u.ensures.only (unsigned_bytes c.args.value) c.requires.stands.0 c.args.value c.requires.stands.1 spells
