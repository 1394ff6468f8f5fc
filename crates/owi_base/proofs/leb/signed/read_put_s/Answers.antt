use Rattle.owi_base.specs.Leb.{signed_bytes}
use Rattle.owi_base.proofs.DigitLaws.{signed_spells}
use Rattle.owi_base.proofs.leb.signed.read_put_s.Goals as goal

pub returns : goal.returns
returns c =
    let spells = signed_spells c.args.value c.args.width c.ranges.value.sfits c.requires.small in
    c.leb_s.ensures.only (signed_bytes c.args.value) c.requires.stands.0 c.args.value c.requires.stands.1 spells
