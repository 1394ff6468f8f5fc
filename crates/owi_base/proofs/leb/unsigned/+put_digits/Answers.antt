use Rattle.std.proofs.Common.{ℕ, ◌/◌, ◌%◌, ◌+◌, List, [], ◌∷◌, ◌++◌, ap, ◌∙◌, append_assoc, arith}
use Rattle.owi_base.specs.Leb.{unsigned_bytes}
use Rattle.owi_base.proofs.DigitLaws.{bytes_one, bytes_more}
use Rattle.owi_base.proofs.leb.unsigned.+put_digits.Goals as goal

pub returns-then-value-lt128-clause-ok : goal.returns-then-value-lt128-clause-ok
returns-then-value-lt128-clause-ok t c = rw (bytes_one c.args.value c.if-value-lt128.true) c.in_ok-push.ensures.items

pub returns-in-Ok-clause-ok : goal.returns-in-Ok-clause-ok
returns-in-Ok-clause-ok t c =
    let rest = unsigned_bytes (c.args.value / 128) in
    rw (bytes_more c.args.value (omega arith) c.if-value-lt128.false)
    (c.in-Ok.ensures.ok ∙ ap (λ (l : List ℕ). l ++ rest) c.in_ok-push-2.ensures.items ∙ append_assoc c.args.out.now.items ((c.args.value % 128 + 128) ∷ []) rest)
