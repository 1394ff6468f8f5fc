use Rattle.owi_base.proofs.leb.unsigned.+unsigned_at_front.Given as goal

abbrev pub decreases-unsigned_at_front : goal.decreases-unsigned_at_front
decreases-unsigned_at_front l = l.width
