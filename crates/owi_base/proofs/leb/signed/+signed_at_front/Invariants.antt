use Rattle.owi_base.proofs.leb.signed.+signed_at_front.Given as goal

abbrev pub decreases-signed_at_front : goal.decreases-signed_at_front
decreases-signed_at_front l = l.width
