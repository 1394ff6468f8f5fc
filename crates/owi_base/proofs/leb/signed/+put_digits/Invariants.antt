use Rattle.owi_base.specs.Leb.{distance}
use Rattle.owi_base.proofs.leb.signed.+put_digits.Given as goal

abbrev pub decreases-put_digits : goal.decreases-put_digits
decreases-put_digits l = distance l.value
